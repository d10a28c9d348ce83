use Rattle.std.proofs.Common.{◌∷◌, []}
use Rattle.jsonpath_nodes.specs.place.SpotPlace.{location_at}
use Rattle.jsonpath_nodes.proofs.step.DescentPathLemmas.{along_longer}
use Rattle.jsonpath_nodes.proofs.step.descend.descent_path.SharedPath.go_step_down.Goals as goal

pub returns-clause-descent : goal.returns-clause-descent
returns-clause-descent g c =
    rw c.in_ok-push.ensures.items (along_longer g.N.Name.bytes (location_at g.N.Name.bytes c.args.self.now.start) c.args.self.now.steps.items (c.args.step ∷ []) c.args.self.now.shared.items c.requires)
