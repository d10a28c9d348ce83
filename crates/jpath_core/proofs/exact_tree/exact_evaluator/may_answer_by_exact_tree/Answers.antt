use Rattle.std.proofs.Common.{◌≡◌, ◌&&◌, true, List, ℕ, refl, subst, ap, sym, ◌∙◌}
use Rattle.jsonpath_paths.specs.Spelling.{Spells}
use Rattle.jsonpath_paths.specs.tree.Tree as tree
use Rattle.jsonpath_paths.specs.tree.View.{path_of, path_of_out, steps_of_list}
use Rattle.jsonpath_paths.specs.declared.tree.parser_node.ParserNode.{out-ParserNode}
use Rattle.jpath_core.specs.AlongExactTree.{are_straight, is_straight}
use Rattle.jpath_core.proofs.exact_tree.exact_evaluator.may_answer_by_exact_tree.Goals as goal

pub returns-then-tree : goal.returns-then-tree
returns-then-tree c = λ p spelled.
    let text = c.args.query.now.path in
    let n = c.tree-tree.result.now in
    let mine : path_of n ≡ p = c.one_tree_per_text.ensures text (path_of n) p (subst (λ (t : List ℕ). Spells t (path_of n)) c.path-path.ensures c.tree-tree.ensures.spells) spelled in
    let whole : path_of n ≡ tree.path true (steps_of_list c.as_slice.result.now) = path_of_out n ∙ rw (c.if-tree.true, c.as_slice.ensures.value) refl in
    c.are_straight.ensures ∙ sym (ap is_straight (sym mine ∙ whole))

pub returns-else-tree : goal.returns-else-tree
returns-else-tree c = λ p spelled.
    let text = c.args.query.now.path in
    let n = c.tree-tree.result.now in
    let mine : path_of n ≡ p = c.one_tree_per_text.ensures text (path_of n) p (subst (λ (t : List ℕ). Spells t (path_of n)) c.path-path.ensures c.tree-tree.ensures.spells) spelled in
    c.if-tree.false ∙ sym (ap is_straight (sym mine ∙ path_of_out n) ∙ ap (λ b. b && are_straight (steps_of_list (out-ParserNode n).steps.items)) c.if-tree.false)
