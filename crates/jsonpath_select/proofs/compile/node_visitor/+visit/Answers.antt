use Rattle.std.proofs.Common.{rules, arith}
use Rattle.std.proofs.lemmas.Grind.{common_steps}
use Rattle.jsonpath_paths.specs.tree.View.{path_of_out}
use Rattle.jsonpath_select.proofs.compile.node_visitor.+visit.Goals as goal

pub visit_path-loop-step-init : goal.visit_path-loop-step-init
visit_path-loop-step-init g t c = record {
  stays_failed = search rules;
  given = rw (path_of_out c.args.path.now) (grind (arith, common_steps));
}
