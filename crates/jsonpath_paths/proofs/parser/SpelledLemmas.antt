-- From what the parser reads to what the text spells.
use Rattle.std.proofs.Common.{◌≡◌, ℕ, List, Some, None, Result, Err, ◌∙◌, arith}
use Rattle.std.specs.Prelude.{IfOk, IfErr, IsTrue, ◌↔◌}
use Rattle.jsonpath_paths.specs.Grammar.{Lexemes, SpellsPath, levels}
use Rattle.jsonpath_paths.specs.tree.Tree.{Path, PathSteps, path}
use Rattle.std.proofs.Common.{Vec, Global, ap, subst, Bool, true, false, []}
use Rattle.jsonpath_paths.specs.plan.ParsedParts.{path_at, Read, ◌>>=◌, take_token, steps_at, condition_at, if_end, skip}
use Rattle.jsonpath_paths.specs.plan.Parsing.{Reads}
use Rattle.jsonpath_paths.specs.plan.TokensLeft.{TokensLeft}
use Rattle.jsonpath_paths.specs.tree.View.{path_of, steps_of_list}
use Rattle.jsonpath_paths.specs.declared.tree.parser_node.ParserStep.{ParserStep}
use Rattle.jsonpath_paths.specs.declared.text.str_reader.StrRange.{StrRange}
use Rattle.jsonpath_paths.specs.declared.token.tokens.Kind.TheVariants as k
use Rattle.jsonpath_paths.specs.plan.PathAnswer.{IsPathAnswer}
use Rattle.jsonpath_paths.specs.declared.parser.tree_parser.Refusal.{Refusal}
use Rattle.jsonpath_paths.specs.declared.parser.tree_parser.Refusal.TheVariants as fault
use Rattle.jsonpath_paths.proofs.parser.DerivationLemmas.{sound_path, complete_path}

pub exact_found : {A : Type 0} (view : A → Path) (text : List ℕ) (ts : Lexemes) (r : Result A Refusal) → IsPathAnswer view (path_at text ts) r → IfOk r (λ p. SpellsPath text (view p) ts)
exact_found view text ts r h = grind (arith, sound_path)

pub exact_only : {A : Type 0} (view : A → Path) (text : List ℕ) (ts : Lexemes) (r : Result A Refusal) → IsPathAnswer view (path_at text ts) r
    → IfErr r (λ e. e ≡ fault.Refused → (p : Path) → SpellsPath text p ts → ⊥)
exact_only view text ts r h = grind (arith, complete_path)

abbrev steps_read : List ℕ → Lexemes → Read PathSteps
steps_read text ts = steps_at text (condition_at text levels) ts

path_by : (text : List ℕ) (ts r : Lexemes) (s : StrRange) → take_token k.Absolute ts ≡ Some (s, r) → path_at text ts ≡ (steps_read text r >>= λ ss. if_end text ss.0 (skip ss.1))
unfolding path_at
path_by text ts r s e = ap (λ o. (o >>= λ x. Some x.1) >>= λ r. steps_read text r >>= λ ss. if_end text ss.0 (skip ss.1)) e

pub exact_err : (text : List ℕ) (ts : Lexemes) (s : StrRange) (f : Refusal) (old new : TokensLeft) → take_token k.Absolute ts ≡ Some (s, old.lexemes) → old.text ≡ text
    → Reads (λ (v : Vec ParserStep Global). steps_of_list v.items) (steps_read old.text old.lexemes) (Err f) old new → IsPathAnswer path_of (path_at text ts) (Err f)
exact_err text ts s fault.Refused old new e same h =
    path_by text ts old.lexemes s e ∙ ap (λ o. o >>= λ ss. if_end text ss.0 (skip ss.1)) (subst (λ x. steps_read x old.lexemes ≡ None) same h.0)
exact_err text ts s fault.OutOfMemory old new e same h = tt

pub exact_end : (text : List ℕ) (ts : Lexemes) (s : StrRange) (old new : TokensLeft) (ss : PathSteps) → take_token k.Absolute ts ≡ Some (s, old.lexemes) → old.text ≡ text
    → steps_read old.text old.lexemes ≡ Some (ss, new.lexemes) → path_at text ts ≡ if_end text ss (skip new.lexemes)
exact_end text ts s old new ss e same h =
    path_by text ts old.lexemes s e ∙ ap (λ o. o >>= λ ss. if_end text ss.0 (skip ss.1)) (subst (λ x. steps_read x old.lexemes ≡ Some (ss, new.lexemes)) same h)

pub end_of_none : (b : Bool) (text : List ℕ) (ss : PathSteps) (ps : Lexemes) → (IsTrue b ↔ (ps ≡ [])) → b ≡ true → if_end text ss ps ≡ Some (path true ss)
end_of_none b text ss ps h e = grind arith

pub end_of_some : (b : Bool) (text : List ℕ) (ss : PathSteps) (ps : Lexemes) → (IsTrue b ↔ (ps ≡ [])) → b ≡ false → if_end text ss ps ≡ None
end_of_some b text ss ps h e = grind arith
