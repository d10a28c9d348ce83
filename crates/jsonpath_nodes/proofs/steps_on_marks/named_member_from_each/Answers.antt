use Rattle.std.proofs.Common.{arith}
use Rattle.jsonpath_nodes.specs.step.Steps.{single_steps, named}
use Rattle.jsonpath_nodes.proofs.place.KeptLemmas.{marks_lead}
use Rattle.jsonpath_nodes.proofs.steps_on_marks.named_member_from_each.Goals as goal

pub returns : goal.returns
returns g c = marks_lead g.M.Mark.located g.M.Mark.stand g.M.Mark.content (single_steps (named c.args.name.now)) c.loop-mark.mark-index c.args.marks.now c.loop-mark.found.items (omega arith) c.loop-mark.invariant
