use Rattle.std.proofs.Common.{arith}
use Rattle.jsonpath_nodes.specs.step.PlainSteps.{plain_step_of}
use Rattle.jsonpath_nodes.specs.step.Steps.{single_steps}
use Rattle.jsonpath_nodes.proofs.place.KeptLemmas.{marks_lead}
use Rattle.jsonpath_nodes.proofs.steps_on_marks.selected_children_of_each.Goals as goal

pub returns : goal.returns
returns g c = marks_lead g.M.Mark.located g.M.Mark.stand g.M.Mark.content (single_steps (plain_step_of c.args.plain.now)) c.loop-mark.mark-index c.args.marks.now c.loop-mark.found.items (omega arith) c.loop-mark.invariant
