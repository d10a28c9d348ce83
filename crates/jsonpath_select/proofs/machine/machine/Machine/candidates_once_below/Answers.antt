use Rattle.std.proofs.Common.{List, sym, subst}
use Rattle.jsonpath_nodes.specs.place.Location.{Location}
use Rattle.jsonpath_nodes.specs.place.Mark.{MarksStandAt}
use Rattle.jsonpath_select.proofs.machine.machine.Machine.candidates_once_below.Goals as goal

pub returns : goal.returns
returns g c = λ ls s there.
    let doc = g.M.Mark.content c.args.self.now.root.now in
    let beside = c.are_disjoint.ensures c.if-not-are_disjoint.false ls s in
    subst (λ (ms : List Location). MarksStandAt g.M.Mark.located g.M.Mark.stand g.M.Mark.content doc ms c.in_ok-found.found.items) (sym (c.candidates_of_disjoint_in_descents.ensures doc ls c.value_is_document.ensures beside)) (c.in_ok-found.ensures doc ls there)
