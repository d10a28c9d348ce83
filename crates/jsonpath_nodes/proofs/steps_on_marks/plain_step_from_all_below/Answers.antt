use Rattle.std.proofs.Common.{arith}
use Rattle.jsonpath_nodes.specs.step.PlainSteps.{plain_step_of}
use Rattle.jsonpath_nodes.proofs.place.KeptLemmas.{marks_lead_deep}
use Rattle.jsonpath_nodes.proofs.steps_on_marks.plain_step_from_all_below.Goals as goal

pub returns : goal.returns
returns g c = marks_lead_deep g.M.Mark.located g.M.Mark.stand g.M.Mark.content (plain_step_of c.args.plain.now) c.loop-mark.mark-index c.args.marks.now c.loop-mark.found.items (omega arith) c.loop-mark.invariant
