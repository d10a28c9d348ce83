use Rattle.jsonpath_nodes.proofs.step.DescentLemmas.{marks_below}
use Rattle.jsonpath_nodes.proofs.steps_on_marks.candidates_below_mark.Goals as goal

pub returns : goal.returns
returns g c =
    marks_below g.M.Mark.located g.M.Mark.stand g.M.Mark.content c.args.mark.now c.new-found.result.items c.add_candidates_below.new.out.items c.new-found.ensures.items c.in_ok-add_candidates_below.ensures.document c.in_ok-add_candidates_below.ensures.gains
