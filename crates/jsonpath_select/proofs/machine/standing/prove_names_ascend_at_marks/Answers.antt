use Rattle.std.proofs.Common.{◌≡◌, take, length, ap, ◌∙◌, subst, arith}
use Rattle.std.proofs.Math.Seq.{take-length}
use Rattle.std.specs.List.{AllByRecursion}
use Rattle.jsonpath_nodes.specs.step.Separate.{HasNamesInOrder}
use Rattle.jsonpath_select.proofs.machine.StandingLemmas.{named_in_order}
use Rattle.jsonpath_select.proofs.machine.standing.prove_names_ascend_at_marks.Goals as goal

pub returns : goal.returns
returns g c = λ doc ls stand.
    let marks = c.args.marks.now in
    let end : c.loop-mark.mark-index ≡ length marks = omega arith in
    let all : take c.loop-mark.mark-index marks ≡ marks = ap (λ n. take n marks) end ∙ take-length marks in
    named_in_order g.M.Mark.located g.M.Mark.stand g.M.Mark.content doc ls marks stand (subst (AllByRecursion (λ m. HasNamesInOrder (g.M.Mark.content m))) all c.loop-mark.invariant)
