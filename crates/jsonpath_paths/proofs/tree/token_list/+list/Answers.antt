use Rattle.std.proofs.Common.{arith}
use Rattle.std.proofs.lemmas.Grind.{common_steps}
use Rattle.jsonpath_paths.specs.tree.View.{path_of_out}
use Rattle.jsonpath_paths.proofs.tree.token_list.+list.Goals as goal

pub push_path-loop-step-init : goal.push_path-loop-step-init
push_path-loop-step-init t c = rw (path_of_out c.args.path.now) (grind (arith, common_steps))
