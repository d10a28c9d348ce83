-- The tree that a node stands for, by its fields.
use Rattle.jsonpath_paths.specs.declared.tree.parser_node.Condition.TheViews.{out-roll-ParserNode, roll-ParserNode}
use Rattle.std.proofs.Common.{◌≡◌, ap, ◌∙◌, subst}
use Rattle.jsonpath_paths.specs.declared.tree.parser_node.ParserNode.{ParserNode, out-ParserNode}
use Rattle.jsonpath_paths.specs.tree.Tree.{path}
use Rattle.jsonpath_paths.specs.tree.View.{path_of, path_of_out, steps_of_list}
use Rattle.jsonpath_paths.specs.tree.Visit.{MayReadPath, MayReadSteps}
use Rattle.jsonpath_paths.specs.declared.text.str_reader.StrRange.{StrRange}
use denote.Ref.{Bor}

pub may_read_steps : (pre : Bor StrRange → Type 0) (n : ParserNode) → MayReadPath pre (path_of n) → MayReadSteps pre (steps_of_list (out-ParserNode n).steps.items)
may_read_steps pre n h = subst (MayReadPath pre) (path_of_out n) h

pub path_of_roll : (r : _) → path_of (roll-ParserNode r) ≡ path r.absolute (steps_of_list r.steps.items)
path_of_roll r = path_of_out (roll-ParserNode r) ∙ ap (λ x. path x.absolute (steps_of_list x.steps.items)) (out-roll-ParserNode r)
