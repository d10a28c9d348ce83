use Rattle.std.proofs.Common.{arith}
use Rattle.jsonpath_nodes.specs.place.SpotPlace.{place_location}
use Rattle.jsonpath_lib.proofs.StepListLemmas.{lists_more, whole_more}
use Rattle.jsonpath_lib.proofs.step_lists.steps_to_each.Goals as goal

pub loop-node-preserved : goal.loop-node-preserved
loop-node-preserved g c = record {
  lists = lists_more (place_location g.T.Name.Name.bytes) c.node-item.result c.loop-node.steps.items c.add_steps.new.steps.items c.in_ok-add_steps.ensures
      c.loop-node.counts.items c.push.new.self.items _ (omega arith) c.in_ok-push.ensures.items c.loop-node.invariant.whole
      c.args.nodes.now c.loop-node.node-index (omega arith) c.node-item.is c.loop-node.invariant.lists;
  whole = whole_more (place_location g.T.Name.Name.bytes) c.node-item.result c.loop-node.steps.items c.add_steps.new.steps.items c.in_ok-add_steps.ensures
      c.loop-node.counts.items c.push.new.self.items _ (omega arith) c.in_ok-push.ensures.items c.loop-node.invariant.whole;
}
