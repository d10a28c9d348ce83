-- Where the tokens of conditions stop, a level deeper and behind their first part.
use Rattle.std.proofs.Common.{◌≡◌, ℕ, suc, zero, List, ◌∷◌, ◌++◌, Option, Some, Ok, Err, arith}
use Rattle.jsonpath_paths.specs.Grammar.{Lexemes, connective}
use Rattle.jsonpath_paths.specs.declared.token.tokens.FilterToken.{FilterToken}
use Rattle.jsonpath_paths.specs.declared.token.tokens.Kind.{Kind}
use Rattle.jsonpath_paths.specs.declared.token.tokens.Kind.TheVariants as k
use Rattle.jsonpath_paths.specs.declared.parser.tree_parser.Refusal.{Refusal}
use Rattle.jsonpath_paths.specs.declared.parser.tree_parser.Refusal.TheVariants as fault
use Rattle.jsonpath_paths.specs.plan.ParsedParts.{by_kind, skip}
use Rattle.jsonpath_paths.specs.plan.TokensLeft.{TokensLeft}
use Rattle.jsonpath_paths.specs.plan.Wants.{Want, stop, condition, part, StopsErr, StopsDeeper, blanks, tail}
use Rattle.jsonpath_paths.specs.tree.Tree.{Condition}
use Rattle.jsonpath_paths.specs.plan.ParsedParts.{condition_at}
use Rattle.jsonpath_paths.proofs.parser.StopLemmas.{past_blanks, condition_past_blanks}

-- a condition one level deeper, where a level is left
abbrev pub deeper_stop : List ℕ → List Want → ℕ → Lexemes → Lexemes → Option Lexemes
deeper_stop text ws zero ts us = Some ts
deeper_stop text ws (suc m) ts us = stop text (condition m ∷ ws) us

pub tail_deeper : (text : List ℕ) (ws : List Want) (n : ℕ) (ts us : Lexemes) (o : FilterToken) → by_kind connective ts ≡ Some (o, us) → stop text (tail n ∷ ws) ts ≡ deeper_stop text ws n ts us
tail_deeper text ws n ts us o h = grind arith

-- from the beginning of a condition to what stands behind its first part
pub condition_to_tail : (n : ℕ) (old first part_end second : TokensLeft) → first.lexemes ≡ skip old.lexemes → first.text ≡ old.text
    → ((ws : List Want) → stop first.text (part n ∷ ws) first.lexemes ≡ stop first.text (blanks ∷ tail n ∷ ws) part_end.lexemes) → second.lexemes ≡ skip part_end.lexemes
    → (ws : List Want) → stop old.text (condition n ∷ ws) old.lexemes ≡ stop old.text (tail n ∷ ws) second.lexemes
condition_to_tail n old first part_end second e t h f ws = grind (arith, condition_past_blanks, past_blanks)

-- a condition one level deeper is refused
pub err_deeper : (A : Type 0) (f : Refusal) (n : ℕ) (vs us : List Want) (old mid new last : TokensLeft) (here : Lexemes)
    → ((ws : List Want) → stop old.text (vs ++ ws) old.lexemes ≡ deeper_stop old.text (us ++ ws) n here mid.lexemes) → mid.text ≡ old.text → StopsDeeper {A = A} n (Err f) mid new
    → (n ≡ 0 → last.lexemes ≡ here) → ((n ≡ 0 → ⊥) → last.lexemes ≡ new.lexemes) → StopsErr vs f old last
err_deeper A f n vs us old mid new last here e t h z s = grind arith

-- a condition one level deeper is read
pub ok_deeper : {A : Type 0} (x : A) (c : Condition) (n : ℕ) (vs us : List Want) (old mid new : TokensLeft) (here : Lexemes)
    → ((ws : List Want) → stop old.text (vs ++ ws) old.lexemes ≡ deeper_stop old.text (us ++ ws) n here mid.lexemes) → mid.text ≡ old.text
    → condition_at mid.text n mid.lexemes ≡ Some (c, new.lexemes) → StopsDeeper n (Ok x) mid new → (ws : List Want) → stop old.text (vs ++ ws) old.lexemes ≡ stop old.text (us ++ ws) new.lexemes
ok_deeper x c n vs us old mid new here e t r h = grind arith
