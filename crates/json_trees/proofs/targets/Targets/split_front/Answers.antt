use Rattle.std.proofs.lemmas.List.Sums.{prefix_len-le-length}
use Rattle.jsonpath_nodes.specs.place.SpotPlace.{step_of}
use Rattle.json_trees.proofs.TargetsLemmas.{behind_sorted, front_sorted, front_under, later_under}
use Rattle.json_trees.proofs.targets.Targets.split_front.Goals as goal

pub invariant_of-here : goal.invariant_of-here
invariant_of-here c = record {
  sorted = front_sorted c.args.self.depth (step_of c.args.step) c.args.self.paths.now c.count_through-count.ensures c.args.self.sorted c.requires.first c.split_at.result.0.now c.split_at.ensures.front;
}

pub invariant_of-later : goal.invariant_of-later
invariant_of-later c = record { sorted = behind_sorted c.args.self.depth c.count_through-count.result c.args.self.paths.now c.split_at.result.1.now c.split_at.ensures.back c.args.self.sorted }

pub returns-clause-here : goal.returns-clause-here
returns-clause-here c = front_under c.args.self.depth (step_of c.args.step) c.args.self.paths.now c.count_through-count.ensures c.args.self.sorted c.requires.first c.split_at.result.0.now c.split_at.ensures.front

pub returns-clause-later : goal.returns-clause-later
returns-clause-later c = later_under c.args.self.depth (step_of c.args.step) c.args.self.paths.now c.count_through-count.ensures c.split_at.result.1.now c.split_at.ensures.back

pub split_at-requires : goal.split_at-requires
split_at-requires c = rw c.count_through-count.ensures (prefix_len-le-length _ c.args.self.paths.now)
