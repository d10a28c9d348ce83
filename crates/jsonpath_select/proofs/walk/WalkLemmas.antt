-- A path in the code, and the path that the meaning is about.
use Rattle.std.proofs.Common.{◌≡◌, ℕ, suc, List, [], ◌∷◌, length, Bool, true, false, cond, not, ◌==◌, refl, sym, ap, ◌∙◌, arith, ne_eqb, ◌≢◌}
use Rattle.jsonpath_nodes.specs.document.Document.{Document}
use Rattle.jsonpath_paths.specs.tree.Tree as tree
use Rattle.jsonpath_paths.specs.tree.View.{path_of, steps_of_list, path_of_out}
use Rattle.jsonpath_paths.specs.declared.tree.parser_node.ParserNode.{ParserNode, out-ParserNode}
use Rattle.jsonpath_paths.specs.declared.tree.parser_node.ParserStep.{ParserStep}
use Rattle.jsonpath_select.specs.Meaning.{has_steps, has_own_step_path, follow, reached}

pub has_steps-list : (ss : List ParserStep) → not (length ss == 0) ≡ has_steps (steps_of_list ss)
has_steps-list [] = refl
has_steps-list (s ∷ ss) = let apart : suc (length ss) ≢ 0 = omega arith in ap not (ne_eqb (suc (length ss)) 0 apart)

-- whether a node is `@` with a step
pub own_step : (n : ParserNode) (b : Bool) → (out-ParserNode n).absolute ≡ b → has_own_step_path (path_of n) ≡ cond b false (not (length (out-ParserNode n).steps.items == 0))
own_step n true is = ap has_own_step_path (path_of_out n) ∙ rw is refl
own_step n false is = ap has_own_step_path (path_of_out n) ∙ rw is (sym (has_steps-list (out-ParserNode n).steps.items))

pub all_steps : (text : List ℕ) (doc : Document) (n : ParserNode) (xs : List ParserStep) → xs ≡ (out-ParserNode n).steps.items → follow text doc (steps_of_list xs) ([] ∷ []) ≡ reached text doc (path_of n) []
all_steps text doc n xs same =
    ap (λ (ss : List ParserStep). follow text doc (steps_of_list ss) ([] ∷ [])) same
    ∙ begin (out-ParserNode n).absolute ∙ sym (ap (λ (p : tree.Path). reached text doc p []) (path_of_out n))
  where
    begin : (b : Bool) → follow text doc (steps_of_list (out-ParserNode n).steps.items) ([] ∷ []) ≡ reached text doc (tree.path b (steps_of_list (out-ParserNode n).steps.items)) []
    begin true = refl
    begin false = refl
