use Rattle.std.proofs.Common.{refl}
use Rattle.jsonpath_nodes.proofs.place.reversed_steps.last_step_and_path.Goals as goal

pub returns : goal.returns
returns g c = refl
