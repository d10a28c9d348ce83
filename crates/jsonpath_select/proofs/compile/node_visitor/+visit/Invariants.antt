use Rattle.std.proofs.Common.{◌≡◌, ◌++◌, true, false, drop}
use Rattle.jsonpath_paths.specs.tree.View.{steps_of_list, path_of}
use Rattle.jsonpath_paths.specs.tree.Visit.{path_tokens, step_tokens}
use Rattle.jsonpath_select.proofs.compile.node_visitor.+visit.Given as goal

abbrev pub invariant-visit_path-loop-step : goal.invariant-visit_path-loop-step
invariant-visit_path-loop-step g l = record {
  stays_failed : g.V.NodeVisitor.has_failed l.fn.visitor ≡ true → g.V.NodeVisitor.has_failed l.visitor ≡ true;
  given : g.V.NodeVisitor.has_failed l.visitor ≡ false → g.V.NodeVisitor.tokens l.visitor ++ step_tokens (steps_of_list (drop l.step-index l.step-items))
      ≡ g.V.NodeVisitor.tokens l.fn.visitor ++ path_tokens (path_of l.path);
}
