use Rattle.jsonpath_nodes.proofs.step.DescentLemmas.{marks_flat}
use Rattle.jsonpath_nodes.proofs.steps_on_marks.flattened_from_mark.Goals as goal

pub returns : goal.returns
returns g c = marks_flat g.M.Mark.located g.M.Mark.stand g.M.Mark.content c.args.mark.now c.new-found.result.items c.add_flattened.new.out.items c.new-found.ensures.items c.in_ok-add_flattened.ensures
