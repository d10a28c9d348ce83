use Rattle.std.proofs.Common.{◌≡◌, ◌≤◌, ◌++◌, drop, length, map, sum}
use Rattle.jsonpath_nodes.specs.place.SpotPlace.{step_of}
use Rattle.jsonpath_lib.specs.StepLists.{cut}
use Rattle.jsonpath_lib.proofs.step_lists.cut_steps.Given as goal

abbrev pub invariant-loop-count : goal.invariant-loop-count
invariant-loop-count l = record {
  all : map (λ p. map step_of p.steps.now) l.lists.items ++ cut (drop l.count-index l.counts) (map step_of l.left.steps.now) ≡ cut l.counts (map step_of l.fn.steps);
  enough : sum (drop l.count-index l.counts) ≤ length l.left.steps.now;
}
