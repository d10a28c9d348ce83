use Rattle.std.proofs.Common.{◌≡◌, ◌∙◌, ℕ, List, Some, None, Ok, Err, Result, codes, refl, sym, rules, IfOk, IsErr}
use Rattle.std.specs.Char.{encode_utf8}
use Rattle.std.specs.Str.{chars, IsUtf8}
use Rattle.std.proofs.lemmas.Result.{IfErr-weaker}
use Rattle.jsonpath_paths.specs.Literals.{truth_of}
use Rattle.jsonpath_paths.specs.Numbers.{index_of, range_step_of, decimal_of, fraction_of}
use Rattle.jsonpath_paths.specs.Spelling.{IsInGrammar, Spells}
use Rattle.jsonpath_paths.specs.WholeText.{place_of_text, tree_of_text}
use Rattle.jsonpath_paths.specs.declared.token.tokens.TokenError.{TokenError}
use Rattle.jsonpath_paths.specs.declared.token.tokens.TokenError.TheVariants.{Position}
use Rattle.jsonpath_paths.specs.plan.ParsedParts.{path_at, plain_at, literal_at, inner_at, array_at, step_at, steps_at, term_at, part_at, condition_by, skip}
use Rattle.jsonpath_paths.specs.tree.Tree.{Path}
use Rattle.jsonpath_uses.proofs.answers.compile_bare_name.Goals as goal

abbrev text : List ℕ
text = codes "$.a[b]"

is_text : IsUtf8 text
unfolding encode_utf8
is_text = (text, (refl, refl))

place : place_of_text text ≡ Some (Position 5)
unfolding index_of range_step_of decimal_of fraction_of truth_of chars
place = refl

no_tree : tree_of_text text ≡ None
unfolding path_at plain_at literal_at inner_at array_at step_at steps_at term_at part_at condition_by skip index_of range_step_of decimal_of fraction_of truth_of chars
no_tree = refl

always_refused : {A : Type 0} (only : (text : List ℕ) (p : Path) → Spells text p → tree_of_text text ≡ Some p) (r : Result A TokenError) → IfOk r (λ _. IsInGrammar text) → IsErr r
always_refused only (Ok x) h = let e : tree_of_text text ≡ Some h.0 = only text h.0 h.1 in cc (e, no_tree)
always_refused only (Err e) h = refl

pub returns-clause-refused : goal.returns-clause-refused
returns-clause-refused c = always_refused c.spelled_tree.ensures.only c.compile.result (search rules)

pub returns-clause-position : goal.returns-clause-position
returns-clause-position c =
    IfErr-weaker c.compile.result _ _
    (λ e h other. let same : Some (Position 5) ≡ Some e = sym place ∙ c.error_position.ensures.only text e is_text (h other) in cc same) c.compile.ensures.refused
