use Rattle.std.proofs.Common.{◌≡◌, ◌++◌, drop}
use Rattle.jsonpath_paths.specs.tree.View.{steps_of_list, path_of}
use Rattle.jsonpath_paths.specs.tree.Visit.{path_tokens, step_tokens}
use Rattle.jsonpath_paths.proofs.tree.token_list.+list.Given as goal

abbrev pub invariant-push_path-loop-step : goal.invariant-push_path-loop-step
invariant-push_path-loop-step l = l.tokens.items ++ step_tokens (steps_of_list (drop l.step-index l.step-items)) ≡ l.fn.tokens.items ++ path_tokens (path_of l.path)
