-- The tree that the code's tree stands for.
use Rattle.std.specs.Prelude.{◌≡◌, List, [], ◌∷◌, refl}
use Rattle.std.proofs.Common.{ap, sym, ◌∙◌}
use Rattle.jsonpath_paths.specs.declared.tree.parser_node.ParserNode.{ParserNode, ParserNode', out-ParserNode, outs-ParserNode', Row_of-ParserStep, end_of-ParserStep, more_of-ParserStep, items-the_row-ParserStep, items_shown-the_row-ParserStep-0}
use Rattle.jsonpath_paths.specs.declared.tree.parser_node.ParserStep.{ParserStep}
use Rattle.jsonpath_paths.specs.declared.tree.parser_node.Inner.{Inner, Token, Filter}
use Rattle.jsonpath_paths.specs.declared.tree.parser_node.Condition.{Condition, Lone, Compare, Join'}
use Rattle.jsonpath_paths.specs.declared.tree.parser_node.Term.{Term, Path, Literal}
use Rattle.jsonpath_paths.specs.tree.Tree as tree

abbrev mutual
  pub path_of : ParserNode → tree.Path
  path_of (ParserNode' absolute shape all) = tree.path absolute (row_steps all)

  pub row_steps : {m : _} → Row_of-ParserStep m → tree.PathSteps
  row_steps end_of-ParserStep = tree.no_steps
  row_steps (more_of-ParserStep leaves bracket inner rest) = tree.step_then leaves bracket (inner_of inner) (row_steps rest)

  pub inner_of : Inner → tree.Inner
  inner_of (Token token) = tree.plain token
  inner_of (Filter c) = tree.filter (condition_of c)

  pub condition_of : Condition → tree.Condition
  condition_of (Lone p) = tree.lone (path_of p)
  condition_of (Compare a op b) = tree.compare (term_of a) op (term_of b)
  condition_of (Join' op p a q b) = tree.join op (condition_of a) (condition_of b)

  pub term_of : Term → tree.Term
  term_of (Path p) = tree.at_path (path_of p)
  term_of (Literal token) = tree.literal token

abbrev pub steps_of_list : List ParserStep → tree.PathSteps
steps_of_list [] = tree.no_steps
steps_of_list (s ∷ ss) = tree.step_then s.leaves s.bracket (inner_of s.inner) (steps_of_list ss)

steps_of_row : (n : _) (row : Row_of-ParserStep n) → row_steps row ≡ steps_of_list (items-the_row-ParserStep n row)
steps_of_row n end_of-ParserStep = refl
steps_of_row n (more_of-ParserStep leaves bracket inner rest) = ap (tree.step_then leaves bracket (inner_of inner)) (steps_of_row _ rest)

-- the path that a node stands for, by the node's fields
pub path_of_out : (n : ParserNode) → path_of n ≡ tree.path (out-ParserNode n).absolute (steps_of_list (out-ParserNode n).steps.items)
path_of_out (ParserNode' absolute shape all) =
    ap (tree.path absolute) (steps_of_row _ all ∙ ap steps_of_list (sym (items_shown-the_row-ParserStep-0 shape all)))
    ∙ ap (λ r. tree.path r.absolute (steps_of_list r.steps.items)) (sym (outs-ParserNode' absolute shape all))
