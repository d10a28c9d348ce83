use Rattle.std.proofs.Common.{◌++◌, List, ap, map, arith}
use Rattle.jsonpath_nodes.specs.place.SpotPlace.{step_of}
use Rattle.jsonpath_lib.specs.StepLists.{cut}
use Rattle.json_trees.specs.declared.targets.StepList.{StepList}
use Rattle.jsonpath_lib.proofs.StepListLemmas.{all_cut, cut_off, later_enough, left_enough}
use Rattle.jsonpath_lib.proofs.step_lists.cut_steps.Goals as goal

pub loop-count-init : goal.loop-count-init
loop-count-init c = record {
  all = ap (λ (lists : List StepList). map (λ p. map step_of p.steps.now) lists ++ cut c.args.counts.now (map step_of c.args.steps.now)) c.in_ok-lists.ensures.items;
  enough = omega arith;
}

pub take_front-front-requires : goal.take_front-front-requires
take_front-front-requires c = left_enough c.args.counts.now c.loop-count.count-index c.loop-count.left.steps.now c.loop-count-test.true c.loop-count.invariant.enough

pub loop-count-preserved : goal.loop-count-preserved
loop-count-preserved c = record {
  all = cut_off c.loop-count.lists.items c.push.new.self.items c.args.counts.now c.loop-count.count-index c.loop-count.left.steps.now c.take_front-front.new.left.steps.now c.take_front-front.result _
      c.loop-count-test.true c.take_front-front.ensures.front c.take_front-front.ensures.left c.in_ok-push.ensures.items c.loop-count.invariant.all;
  enough = later_enough c.args.counts.now c.loop-count.count-index c.loop-count.left.steps.now c.take_front-front.new.left.steps.now c.loop-count-test.true c.take_front-front.ensures.left c.loop-count.invariant.enough;
}

pub returns : goal.returns
returns c = all_cut c.loop-count.lists.items c.args.counts.now c.loop-count.count-index c.loop-count.left.steps.now _ c.loop-count-test.false c.loop-count.invariant.all
