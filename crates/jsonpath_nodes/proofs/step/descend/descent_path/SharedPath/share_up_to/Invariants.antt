use Rattle.std.proofs.Common.{◌≡◌, ◌+◌, ◌-◌, vec_len}
use Rattle.jsonpath_nodes.specs.place.SpotPlace.{location_at}
use Rattle.jsonpath_nodes.specs.plan.DescentPath.{IsDescentPath}
use Rattle.jsonpath_nodes.proofs.step.descend.descent_path.SharedPath.share_up_to.Given as goal

abbrev pub invariant-loop-self : goal.invariant-loop-self
invariant-loop-self g l = record {
  start : location_at g.N.Name.bytes l.self.start ≡ location_at g.N.Name.bytes l.initial.self.start;
  steps : l.self.steps.items ≡ l.initial.self.steps.items;
  descent : IsDescentPath g.N.Name.bytes l.self;
}

abbrev pub decreases-loop-self : goal.decreases-loop-self
decreases-loop-self g l = l.count + 1 - vec_len l.self.shared
