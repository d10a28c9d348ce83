-- The tree of two conditions in parentheses and a connective joins the conditions that the two spell alone.
use Rattle.std.proofs.Common.{◌≡◌, ◌≤◌, ◌+◌, ◌⊎◌, inl, inr, ℕ, suc, Bool, true, false, List, [], ◌∷◌, ◌++◌, length, Some, cond, refl, sym, subst, ap, ap₂, ◌∙◌, arith}
use Rattle.std.specs.Str.{IsUtf8, chars}
use Rattle.std.proofs.lemmas.Str.{chars-encodes, encodes-append, encodes-chars, scalars-chars}
use lib.Utf8.{scalars, encode, encodes}
use Rattle.jsonpath_paths.specs.tree.Alike.{AlikeCondition}
use Rattle.jsonpath_paths.specs.plan.ParsedParts as d
use Rattle.jsonpath_paths.specs.plan.ParsedParts.{◌>>=◌, choose, eat, by_kind, skip}
use Rattle.jsonpath_paths.specs.Grammar as grammar
use Rattle.jsonpath_paths.specs.Grammar.{Lexemes, levels}
use Rattle.jsonpath_paths.specs.tree.Joined.{filter_text, between, joined_text, filter_path, JoinsSides}
use Rattle.jsonpath_paths.specs.token.Kinds.{IsFirst, same_kind}
use Rattle.jsonpath_paths.specs.token.Reading.{first}
use Rattle.jsonpath_paths.specs.Spelling.{Spells, IsInGrammar}
use Rattle.jsonpath_paths.specs.text.Characters.{byte_len}
use Rattle.jsonpath_paths.specs.token.Tokens.{TokensAt, no_token, lexeme}
use Rattle.jsonpath_paths.specs.tree.Tree.{Path, path, PathSteps, step_then, Inner, filter, Condition, join, is_comparison}
use Rattle.jsonpath_paths.specs.declared.token.tokens.FilterToken.{FilterToken}
use Rattle.jsonpath_paths.specs.declared.token.tokens.FilterToken.TheVariants as op
use Rattle.jsonpath_paths.specs.declared.token.tokens.Kind.{Kind}
use Rattle.jsonpath_paths.specs.declared.token.tokens.Kind.TheVariants as k
use Rattle.jsonpath_paths.specs.declared.token.tokens.Lexeme.{Lexeme}
use Rattle.jsonpath_paths.proofs.parser.CompleteLemmas.{complete_condition}
use Rattle.jsonpath_paths.proofs.parser.DerivationLemmas.{complete_path}
use Rattle.jsonpath_paths.proofs.tree.ElsewhereLemmas.{Along, at_rest, one_more, condition_along, condition_deeper}
use Rattle.jsonpath_paths.proofs.tree.FencedLemmas.{scalars_both, Words, Reads, put, end, close, bracket_behind, fenced, token_then, words_then, At, at_next, at_end, words_along}
use Rattle.jsonpath_paths.proofs.token.FoundLemmas.{first_is}
use Rattle.jsonpath_paths.proofs.token.LongestLemmas.{first_has_none}
use Rattle.jsonpath_paths.proofs.parser.ShorterLemmas.{skip_shorter, eats_shorter}
use Rattle.jsonpath_paths.proofs.parser.SameKindLemmas.{same_kind_true}
use Rattle.jsonpath_paths.proofs.parser.SoundLemmas.{then_some, some_same, eat_eats, sound_condition, sound_end}
use Rattle.jsonpath_paths.proofs.token.TokenizedLemmas.{read_so, reads}

-- ---- a filter's tokens

opening : Lexemes → Lexemes
opening rest = lexeme k.Absolute 0 (36 ∷ []) ∷ lexeme k.OpenArray 1 (91 ∷ []) ∷ lexeme k.Question 2 (63 ∷ []) ∷ lexeme k.OpenParenthesis 3 (40 ∷ []) ∷ rest

begun : (cs : List ℕ) (ps : Lexemes) → TokensAt 0 (36 ∷ 91 ∷ 63 ∷ 40 ∷ cs) ps [] → (rest : Lexemes) × TokensAt 4 cs rest [] × (ps ≡ opening rest)
unfolding opening
begun cs ps h = grind (arith, read_so, reads)

same_tokens : (pos : ℕ) (cs : List ℕ) (ps qs : Lexemes) → TokensAt pos cs ps [] → TokensAt pos cs qs [] → ps ≡ qs
same_tokens pos cs ps qs h i = ap (λ r. r.lexemes) (sym (read_so h) ∙ read_so i)

-- ---- a filter's tree

record FilterRead (text : List ℕ) (rest : Lexemes) (p : Path) : Type 0 where
  condition : Condition
  left : Lexemes
  behind : Lexemes
  steps : PathSteps
  last : Lexemes
  found : d.condition_at text levels rest ≡ Some (condition, left)
  closed : eat k.CloseArray (skip left) ≡ Some behind
  more : d.steps_from text (d.condition_at text levels) (suc (suc (suc (length rest)))) behind ≡ Some (steps, last)
  is : p ≡ path true (step_then false true (filter condition) steps)

filter_read : (text : List ℕ) (rest : Lexemes) (p : Path) → d.path_at text (opening rest) ≡ Some p → FilterRead text rest p
unfolding opening d.path_at d.steps_at d.step_at d.array_at d.inner_at skip
filter_read text rest p h =
    let deeper = d.condition_at text levels in
    let inside : Lexemes = lexeme k.Question 2 (63 ∷ []) ∷ lexeme k.OpenParenthesis 3 (40 ∷ []) ∷ rest in
    let tail : Lexemes = lexeme k.OpenArray 1 (91 ∷ []) ∷ inside in
    let ss = then_some (d.steps_at text deeper tail) _ p h in
    let s = then_some (d.step_at text deeper tail) _ ss.0 ss.1 in
    let i = then_some (d.inner_at text deeper inside) _ s.0 s.1 in
    let c = then_some (deeper rest) _ i.0 i.1 in
    let e = then_some (eat k.CloseArray i.0.1) _ s.0 i.2 in
    let z = then_some (d.steps_from text deeper (length tail) s.0.1) _ ss.0 s.2 in
    let filtered : (filter c.0.0, skip c.0.1) ≡ i.0 = some_same _ _ c.2 in
    let step : ((false, true, i.0.0), e.0) ≡ s.0 = some_same _ _ e.2 in
    let stepped : (step_then s.0.0.0 s.0.0.1 s.0.0.2 z.0.0, z.0.1) ≡ ss.0 = some_same _ _ z.2 in
    let ends = sound_end text ss.0.0 (skip ss.0.1) p ss.2 in
    record {
      condition = c.0.0;
      left = c.0.1;
      behind = e.0;
      steps = z.0.0;
      last = z.0.1;
      found = c.1;
      closed = ap (λ (x : Inner × Lexemes). eat k.CloseArray x.1) filtered ∙ e.1;
      more = ap (λ (x : (Bool × Bool × Inner) × Lexemes). d.steps_from text deeper (length tail) x.1) step ∙ z.1;
      is = ends.1
          ∙ sym (ap (λ (x : PathSteps × Lexemes). path true x.0) stepped)
          ∙ sym (ap (λ (x : (Bool × Bool × Inner) × Lexemes). path true (step_then x.0.0 x.0.1 x.0.2 z.0.0)) step)
          ∙ sym (ap (λ (x : Inner × Lexemes). path true (step_then false true x.0 z.0.0)) filtered);
    }

-- a filter that nothing but its bracket follows is the whole
alone : (text : List ℕ) (rest : Lexemes) (i : ℕ) (p : Path) (f : FilterRead text rest p) → f.left ≡ bracket_behind i → p ≡ filter_path f.condition
unfolding skip
alone text rest i p f h = grind arith

-- ---- one side

eaten : (kind : Kind) (p : Lexeme) (ps : Lexemes) → p.kind ≡ kind → eat kind (p ∷ ps) ≡ Some ps
eaten kind p ps h = grind arith

eaten_is : (kind : Kind) (p : Lexeme) (ps to : Lexemes) → eat kind (p ∷ ps) ≡ Some to → p.kind ≡ kind
eaten_is kind p ps to h = grind arith

module _ (here there : List ℕ) (rest other : Lexemes) where
  next_closes : (ps qs e : Lexemes) → eat k.CloseArray ps ≡ Some e → Along here there rest other ps qs → (length ps ≡ length rest → ⊥) → (to : Lexemes) × (eat k.CloseArray qs ≡ Some to)
  next_closes ps qs e h at_rest goes_on = absurd (goes_on refl)
  next_closes ps qs e h (one_more {p = p} {q = q} {ps = xs} {qs = ys} kinds same last along) goes_on = (ys, eaten k.CloseArray q ys (kinds ∙ eaten_is k.CloseArray p xs e h))

  -- where the one comes to a closing bracket, the other does, or both are at their rests
  closes_along : (from from' e : Lexemes) → eat k.CloseArray (skip from) ≡ Some e → Along here there rest other from from'
      → ((from ≡ rest) × (from' ≡ other)) ⊎ ((to : Lexemes) × (eat k.CloseArray (skip from') ≡ Some to))
  unfolding skip
  closes_along from from' e h at_rest = inl (refl, refl)
  closes_along from from' e h (one_more {p = p} {q = q} {ps = ps} {qs = qs} kinds same last along) =
      by_test (same_kind p.kind k.Whitespace) refl (ap (λ x. same_kind x k.Whitespace) kinds) h
    where
      by_test : (b : Bool) → same_kind p.kind k.Whitespace ≡ b → same_kind q.kind k.Whitespace ≡ b → eat k.CloseArray (cond b ps (p ∷ ps)) ≡ Some e
          → ((p ∷ ps ≡ rest) × (q ∷ qs ≡ other)) ⊎ ((to : Lexemes) × (eat k.CloseArray (cond (same_kind q.kind k.Whitespace) qs (q ∷ qs)) ≡ Some to))
      by_test false is is' h = inr (qs, ap (λ b. eat k.CloseArray (cond b qs (q ∷ qs))) is' ∙ eaten k.CloseArray q qs (kinds ∙ eaten_is k.CloseArray p ps e h))
      by_test true is is' h =
          let blank : p.kind ≡ k.Whitespace = same_kind_true p.kind k.Whitespace is in
          let next = next_closes ps qs e h along (λ size. let closing : p.kind ≡ k.CloseParenthesis = last size in cc (blank, closing)) in
          inr (next.0, ap (λ b. eat k.CloseArray (cond b qs (q ∷ qs))) is' ∙ next.1)

-- what follows one side of a connective
abbrev Follows : List ℕ → ℕ → Condition × Lexemes → Condition × Lexemes → Type 0
Follows text n x z =
    choose (eat k.CloseParenthesis (skip x.1)) (λ e. Some (x.0, e)) (by_kind grammar.connective (skip x.1) >>= λ o. d.condition_at text n o.1 >>= λ c. Some (join o.0 x.0 c.0, c.1)) ≡ Some z

no_bracket : (text : List ℕ) (n : ℕ) (x z : Condition × Lexemes) (to : Lexemes) → eat k.CloseArray (skip x.1) ≡ Some to → Follows text n x z → ⊥
no_bracket text n x z to h follows = grind arith

-- a condition that begins with a group
opens : (text : List ℕ) (n i : ℕ) (ts from : Lexemes) (z : Condition × Lexemes) → skip ts ≡ lexeme k.OpenParenthesis i (40 ∷ []) ∷ from → d.condition_at text (suc n) ts ≡ Some z
    → (x : Condition × Lexemes) × (d.condition_at text n from ≡ Some x) × Follows text n x z
unfolding d.condition_by d.part_at
opens text n i ts from z e h = grind (arith, then_some)

one_deeper : (text : List ℕ) (n : ℕ) (ts : Lexemes) (r : Condition × Lexemes) → d.condition_at text n ts ≡ Some r → d.condition_at text (suc n) ts ≡ Some r
one_deeper text n ts r h = grind (arith, complete_condition, condition_deeper, sound_condition)

-- the same words spell the same condition, if what follows them is no closing bracket
side : (here there : List ℕ) (i j : ℕ) (xs after other : List ℕ) (ws : Words) (more : ℕ → Lexemes) → Reads xs ws → At here i (xs ++ 41 ∷ after) → At there j (xs ++ 41 ∷ other)
    → (single : Condition) (left e : Lexemes) → d.condition_at here levels (put i ws (λ q. close q ∷ bracket_behind q)) ≡ Some (single, left) → eat k.CloseArray (skip left) ≡ Some e
    → (c : Condition) (r : Lexemes) → d.condition_at there levels (put j ws (λ q. close q ∷ more q)) ≡ Some (c, r) → ((to : Lexemes) → eat k.CloseArray (skip r) ≡ Some to → ⊥)
    → AlikeCondition here there single c × (left ≡ bracket_behind (end i ws)) × (r ≡ more (end j ws))
side here there i j xs after other ws more is at at' single left e found closed c r found' never =
    let from : Lexemes = put i ws (λ q. close q ∷ bracket_behind q) in
    let from' : Lexemes = put j ws (λ q. close q ∷ more q) in
    let along = words_along ws here there i j xs after other bracket_behind more is at at' in
    let deep = sound_condition here levels from (single, left) found in
    let size : 1 ≤ length left = omega (arith, skip_shorter left, eats_shorter k.CloseArray (skip left) e (eat_eats k.CloseArray (skip left) e closed)) in
    let moved = condition_along here there (bracket_behind (end i ws)) (more (end j ws)) deep.2 from' size along in
    let again : d.condition_at there levels from' ≡ Some (moved.0, moved.1) = ap (λ n. d.condition_at there n from') deep.1 ∙ complete_condition there moved.2 in
    let same : (moved.0, moved.1) ≡ (c, r) = some_same (moved.0, moved.1) (c, r) (sym again ∙ found') in
    by_end moved.1 (ap (λ (x : Condition × Lexemes). x.1) same) (subst (AlikeCondition here there single) (ap (λ (x : Condition × Lexemes). x.0) same) moved.3)
    (closes_along here there (bracket_behind (end i ws)) (more (end j ws)) left moved.1 e closed moved.4)
  where
    by_end : (to' : Lexemes) → to' ≡ r → AlikeCondition here there single c
        → ((left ≡ bracket_behind (end i ws)) × (to' ≡ more (end j ws))) ⊎ ((to : Lexemes) × (eat k.CloseArray (skip to') ≡ Some to))
        → AlikeCondition here there single c × (left ≡ bracket_behind (end i ws)) × (r ≡ more (end j ws))
    by_end to' same alike h = grind arith

-- ---- the connective

by_connective : (P : FilterToken → Type 0) → P op.And → P op.Or → (o : FilterToken) → is_comparison o ≡ false → P o
by_connective P x y o h = grind arith

sign : FilterToken → List ℕ
sign op.Or = 124 ∷ 124 ∷ []
sign _ = 38 ∷ 38 ∷ []

sign_kind : FilterToken → Kind
sign_kind op.Or = k.Or
sign_kind _ = k.And

-- the characters behind the first closing parenthesis, and their tokens

after : FilterToken → List ℕ → List ℕ
after o ys = 32 ∷ (sign o ++ 32 ∷ 40 ∷ (ys ++ 41 ∷ 41 ∷ 93 ∷ []))

last_two : ℕ → Lexemes
last_two i = close (i + byte_len (41 ∷ [])) ∷ bracket_behind (i + byte_len (41 ∷ []))

inner_right : ℕ → Words → Lexemes
inner_right i ws = put (i + byte_len (32 ∷ []) + byte_len (40 ∷ [])) ws (λ q. close q ∷ last_two q)

right_tokens : ℕ → Words → Lexemes
right_tokens i ws = lexeme k.Whitespace i (32 ∷ []) ∷ lexeme k.OpenParenthesis (i + byte_len (32 ∷ [])) (40 ∷ []) ∷ inner_right i ws

behind_sign : FilterToken → ℕ → ℕ
behind_sign o i = i + byte_len (41 ∷ []) + byte_len (32 ∷ []) + byte_len (sign o)

sign_tokens : FilterToken → Words → ℕ → Lexemes
sign_tokens o ws i =
    lexeme k.Whitespace (i + byte_len (41 ∷ [])) (32 ∷ []) ∷ lexeme (sign_kind o) (i + byte_len (41 ∷ []) + byte_len (32 ∷ [])) (sign o) ∷ right_tokens (behind_sign o i) ws

ending : (i : ℕ) → TokensAt i (41 ∷ 41 ∷ 93 ∷ []) (close i ∷ last_two i) []
unfolding last_two first
ending i =
    token_then i (41 ∷ []) (41 ∷ 93 ∷ []) k.CloseParenthesis _ (first_is _ _ _ refl)
    (token_then _ (41 ∷ []) (93 ∷ []) k.CloseParenthesis _ (first_is _ _ _ refl) (token_then _ (93 ∷ []) [] k.CloseArray _ (first_is _ _ _ refl) (no_token (first_has_none [] refl))))

blank_first : (o : FilterToken) → is_comparison o ≡ false → (later : List ℕ) → first (32 ∷ (sign o ++ later)) ≡ Some (k.Whitespace, 1)
unfolding first sign
blank_first o h = by_connective (λ o. (later : List ℕ) → first (32 ∷ (sign o ++ later)) ≡ Some (k.Whitespace, 1)) (λ later. refl) (λ later. refl) o h

sign_first : (o : FilterToken) → is_comparison o ≡ false → (later : List ℕ) → first (sign o ++ later) ≡ Some (sign_kind o, length (sign o))
unfolding first sign sign_kind
sign_first o h = by_connective (λ o. (later : List ℕ) → first (sign o ++ later) ≡ Some (sign_kind o, length (sign o))) (λ later. refl) (λ later. refl) o h

closing_first : (cs : List ℕ) → IsFirst (41 ∷ cs) k.CloseParenthesis 1
unfolding first
closing_first cs = first_is (41 ∷ cs) k.CloseParenthesis 1 refl

gap_first : (cs : List ℕ) → IsFirst (32 ∷ 40 ∷ cs) k.Whitespace 1
unfolding first
gap_first cs = first_is (32 ∷ 40 ∷ cs) k.Whitespace 1 refl

opening_first : (cs : List ℕ) → IsFirst (40 ∷ cs) k.OpenParenthesis 1
unfolding first
opening_first cs = first_is (40 ∷ cs) k.OpenParenthesis 1 refl

middle : (o : FilterToken) → is_comparison o ≡ false → (ys : List ℕ) (ws : Words) → Reads ys ws → (i : ℕ) → TokensAt i (41 ∷ after o ys) (close i ∷ sign_tokens o ws i) []
unfolding after sign_tokens right_tokens inner_right behind_sign
middle o con ys ws is i =
    let later : List ℕ = 40 ∷ (ys ++ 41 ∷ 41 ∷ 93 ∷ []) in
    token_then i (41 ∷ []) (after o ys) k.CloseParenthesis _ (closing_first (after o ys))
    (token_then _ (32 ∷ []) (sign o ++ 32 ∷ later) k.Whitespace _ (first_is _ _ _ (blank_first o con (32 ∷ later)))
    (token_then _ (sign o) (32 ∷ later) (sign_kind o) _ (first_is _ _ _ (sign_first o con (32 ∷ later)))
    (token_then _ (32 ∷ []) later k.Whitespace _ (gap_first (ys ++ 41 ∷ 41 ∷ 93 ∷ []))
    (token_then _ (40 ∷ []) (ys ++ 41 ∷ 41 ∷ 93 ∷ []) k.OpenParenthesis _ (opening_first (ys ++ 41 ∷ 41 ∷ 93 ∷ []))
    (words_then ws _ ys (41 ∷ 93 ∷ []) (λ q. close q ∷ last_two q) is ending)))))

-- what the connective leaves to be read
after_left : (o : FilterToken) → is_comparison o ≡ false → (text : List ℕ) (n i : ℕ) (ws : Words) (x : Condition) (z : Condition × Lexemes) → Follows text n (x, sign_tokens o ws i) z
    → (d.condition_at text n (right_tokens (behind_sign o i) ws) >>= λ c. Some (join o x c.0, c.1)) ≡ Some z
unfolding sign_tokens sign_kind skip
after_left o con = grind arith

after_right : (text : List ℕ) (n i : ℕ) (x : Condition) (z : Condition × Lexemes) → Follows text n (x, last_two i) z → (x, bracket_behind (i + byte_len (41 ∷ []))) ≡ z
unfolding last_two skip
after_right text n i x z h = some_same (x, bracket_behind (i + byte_len (41 ∷ []))) z h

-- ---- the texts

encoded : (a : List ℕ) (xs later : List ℕ) → IsUtf8 a → later ≡ encodes xs → a ++ later ≡ encodes (chars a ++ xs)
encoded a xs later u e = ap₂ (λ x y. x ++ y) (sym (encodes-chars a u)) e ∙ sym (encodes-append (chars a) xs)

filter_chars : List ℕ → List ℕ
filter_chars a = chars a ++ 41 ∷ 93 ∷ []

filter_at : (a : List ℕ) → IsUtf8 a → (chars (filter_text a) ≡ 36 ∷ 91 ∷ 63 ∷ 40 ∷ filter_chars a) × At (filter_text a) 4 (filter_chars a)
unfolding encode filter_chars
filter_at a u =
    let ok : scalars (filter_chars a) ≡ true = scalars_both (chars a) (41 ∷ 93 ∷ []) (scalars-chars a u) refl in
    let tail : a ++ 41 ∷ 93 ∷ [] ≡ encodes (filter_chars a) = encoded a (41 ∷ 93 ∷ []) (41 ∷ 93 ∷ []) u refl in
    let whole : filter_text a ≡ encodes (36 ∷ 91 ∷ 63 ∷ 40 ∷ filter_chars a) = ap (λ xs. 36 ∷ 91 ∷ 63 ∷ 40 ∷ xs) tail in
    (ap chars whole ∙ chars-encodes (36 ∷ 91 ∷ 63 ∷ 40 ∷ filter_chars a) ok, (omega arith, ok, tail))

joined_chars : FilterToken → List ℕ → List ℕ → List ℕ
joined_chars o a b = chars a ++ 41 ∷ after o (chars b)

-- what stands behind the first side
behind_left : (o : FilterToken) → is_comparison o ≡ false → (b : List ℕ) → IsUtf8 b → (between o ++ (b ++ 41 ∷ 41 ∷ 93 ∷ []) ≡ encodes (41 ∷ after o (chars b))) × (scalars (41 ∷ after o (chars b)) ≡ true)
unfolding encode after sign
behind_left o con b u = grind (arith, by_connective, encoded, scalars-chars, scalars_both)

joined_at : (o : FilterToken) → is_comparison o ≡ false → (a b : List ℕ) → IsUtf8 a → IsUtf8 b
    → (chars (joined_text o a b) ≡ 36 ∷ 91 ∷ 63 ∷ 40 ∷ 40 ∷ joined_chars o a b) × At (joined_text o a b) 5 (joined_chars o a b)
unfolding encode joined_chars
joined_at o con a b ua ub =
    let behind = behind_left o con b ub in
    let ok : scalars (joined_chars o a b) ≡ true = scalars_both (chars a) (41 ∷ after o (chars b)) (scalars-chars a ua) behind.1 in
    let tail : a ++ (between o ++ (b ++ 41 ∷ 41 ∷ 93 ∷ [])) ≡ encodes (joined_chars o a b) = encoded a (41 ∷ after o (chars b)) (between o ++ (b ++ 41 ∷ 41 ∷ 93 ∷ [])) ua behind.0 in
    let whole : joined_text o a b ≡ encodes (36 ∷ 91 ∷ 63 ∷ 40 ∷ 40 ∷ joined_chars o a b) = ap (λ xs. 36 ∷ 91 ∷ 63 ∷ 40 ∷ 40 ∷ xs) tail in
    (ap chars whole ∙ chars-encodes (36 ∷ 91 ∷ 63 ∷ 40 ∷ 40 ∷ joined_chars o a b) ok, (omega arith, ok, tail))

right_at : (o : FilterToken) (text : List ℕ) (i : ℕ) (ys : List ℕ) → At text i (41 ∷ after o ys) → At text (behind_sign o i + byte_len (32 ∷ []) + byte_len (40 ∷ [])) (ys ++ 41 ∷ 41 ∷ 93 ∷ [])
unfolding after behind_sign
right_at o text i ys h =
    let inside : List ℕ = ys ++ 41 ∷ 41 ∷ 93 ∷ [] in
    let one = at_next text i (41 ∷ []) (after o ys) h in
    let two = at_next text _ (32 ∷ []) (sign o ++ 32 ∷ 40 ∷ inside) one.2 in
    let three = at_next text _ (sign o) (32 ∷ 40 ∷ inside) two.2 in
    let four = at_next text _ (32 ∷ []) (40 ∷ inside) three.2 in
    (at_next text _ (40 ∷ []) inside four.2).2

-- ---- the whole

-- one side alone
alone_read : (a : List ℕ) (p : Path) → IsUtf8 a → Spells (filter_text a) p
    → (ws : Words) × Reads (chars a) ws × FilterRead (filter_text a) (put 4 ws (λ q. close q ∷ bracket_behind q)) p
unfolding filter_chars
alone_read a p u h =
    let text : List ℕ = filter_text a in
    let start = begun (filter_chars a) h.tokens (subst (λ cs. TokensAt 0 cs h.tokens []) (filter_at a u).0 h.read) in
    let words = fenced 4 (chars a) start.0 start.1 in
    let same : h.tokens ≡ opening (put 4 words.0 (λ q. close q ∷ bracket_behind q)) = start.2 ∙ ap opening words.2 in
    (words.0, words.1, filter_read text (put 4 words.0 (λ q. close q ∷ bracket_behind q)) p (ap (d.path_at text) (sym same) ∙ complete_path text h.tokens p h.spelled))

from_left : FilterToken → Words → Words → Lexemes
from_left o ws vs = put 5 ws (λ q. close q ∷ sign_tokens o vs q)

both_read : (o : FilterToken) → is_comparison o ≡ false → (a b : List ℕ) (p : Path) (ws vs : Words) → IsUtf8 a → IsUtf8 b → Reads (chars a) ws → Reads (chars b) vs → Spells (joined_text o a b) p
    → FilterRead (joined_text o a b) (lexeme k.OpenParenthesis 4 (40 ∷ []) ∷ from_left o ws vs) p
unfolding joined_chars from_left
both_read o con a b p ws vs ua ub isa isb h =
    let text : List ℕ = joined_text o a b in
    let start = begun (40 ∷ joined_chars o a b) h.tokens (subst (λ cs. TokensAt 0 cs h.tokens []) (joined_at o con a b ua ub).0 h.read) in
    let rest : Lexemes = lexeme k.OpenParenthesis 4 (40 ∷ []) ∷ from_left o ws vs in
    let built : TokensAt 4 (40 ∷ joined_chars o a b) rest [] =
    token_then 4 (40 ∷ []) (joined_chars o a b) k.OpenParenthesis (from_left o ws vs) (opening_first (joined_chars o a b))
    (words_then ws 5 (chars a) (after o (chars b)) (λ q. close q ∷ sign_tokens o vs q) isa (middle o con (chars b) vs isb)) in
    let same : h.tokens ≡ opening rest = start.2 ∙ ap opening (same_tokens 4 (40 ∷ joined_chars o a b) start.0 rest start.1 built) in
    filter_read text rest p (ap (d.path_at text) (sym same) ∙ complete_path text h.tokens p h.spelled)

gap_skipped : (i : ℕ) (ws : Words) → skip (right_tokens i ws) ≡ lexeme k.OpenParenthesis (i + byte_len (32 ∷ [])) (40 ∷ []) ∷ inner_right i ws
unfolding right_tokens skip
gap_skipped i ws = refl

group_skipped : (i : ℕ) (ts : Lexemes) → skip (lexeme k.OpenParenthesis i (40 ∷ []) ∷ ts) ≡ lexeme k.OpenParenthesis i (40 ∷ []) ∷ ts
unfolding skip
group_skipped i ts = refl

pub joins_sides : (o : FilterToken) (a b : List ℕ) (p : Path) → is_comparison o ≡ false → IsUtf8 a → IsUtf8 b → IsInGrammar (filter_text a) → IsInGrammar (filter_text b) → Spells (joined_text o a b) p
    → JoinsSides o a b p
unfolding from_left inner_right filter_chars joined_chars
joins_sides o a b p con ua ub ga gb h =
    let text : List ℕ = joined_text o a b in
    let one = alone_read a ga.0 ua ga.1 in
    let two = alone_read b gb.0 ub gb.1 in
    let ws : Words = one.0 in
    let vs : Words = two.0 in
    let whole = both_read o con a b p ws vs ua ub one.1 two.1 h in
    let at = (joined_at o con a b ua ub).1 in
    let x = opens text 999 4 (lexeme k.OpenParenthesis 4 (40 ∷ []) ∷ from_left o ws vs) (from_left o ws vs) (whole.condition, whole.left) (group_skipped 4 (from_left o ws vs)) whole.found in
    let left = side (filter_text a) text 4 5 (chars a) (93 ∷ []) (after o (chars b)) ws (sign_tokens o vs) one.1 (filter_at a ua).1 at one.2.condition one.2.left one.2.behind one.2.found one.2.closed
    x.0.0 x.0.1 (one_deeper text 999 (from_left o ws vs) x.0 x.1) (λ to e. no_bracket text 999 x.0 (whole.condition, whole.left) to e x.2) in
    let i : ℕ = end 5 ws in
    let j : ℕ = behind_sign o i in
    let behind = after_left o con text 999 i vs x.0.0 (whole.condition, whole.left) (subst (λ r. Follows text 999 (x.0.0, r) (whole.condition, whole.left)) left.2 x.2) in
    let y = then_some (d.condition_at text 999 (right_tokens j vs)) _ (whole.condition, whole.left) behind in
    let z = opens text 998 (j + byte_len (32 ∷ [])) (right_tokens j vs) (inner_right j vs) y.0 (gap_skipped j vs) y.1 in
    let right = side (filter_text b) text 4 (j + byte_len (32 ∷ []) + byte_len (40 ∷ [])) (chars b) (93 ∷ []) (41 ∷ 93 ∷ []) vs last_two two.1 (filter_at b ub).1
    (right_at o text i (chars b) (at_end ws text 5 (chars a) (after o (chars b)) one.1 at)) two.2.condition two.2.left two.2.behind two.2.found two.2.closed
    z.0.0 z.0.1 (one_deeper text 999 (inner_right j vs) z.0 (one_deeper text 998 (inner_right j vs) z.0 z.1)) (λ to e. no_bracket text 998 z.0 y.0 to e z.2) in
    let e : ℕ = end (j + byte_len (32 ∷ []) + byte_len (40 ∷ [])) vs in
    let last = after_right text 998 e z.0.0 y.0 (subst (λ r. Follows text 998 (z.0.0, r) y.0) right.2 z.2) in
    let joined : (join o x.0.0 y.0.0, y.0.1) ≡ (whole.condition, whole.left) = some_same (join o x.0.0 y.0.0, y.0.1) (whole.condition, whole.left) y.2 in
    let all : (join o x.0.0 z.0.0, bracket_behind (e + byte_len (41 ∷ []))) ≡ (whole.condition, whole.left) = ap (λ (r : Condition × Lexemes). (join o x.0.0 r.0, r.1)) last ∙ joined in
    record {
      left = x.0.0;
      right = z.0.0;
      left_alone = one.2.condition;
      right_alone = two.2.condition;
      is = alone text (lexeme k.OpenParenthesis 4 (40 ∷ []) ∷ from_left o ws vs) (e + byte_len (41 ∷ [])) p whole (sym (ap (λ (r : Condition × Lexemes). r.1) all))
          ∙ sym (ap (λ (r : Condition × Lexemes). filter_path r.0) all);
      spells_left = subst (Spells (filter_text a)) (alone (filter_text a) (put 4 ws (λ q. close q ∷ bracket_behind q)) (end 4 ws) ga.0 one.2 left.1) ga.1;
      spells_right = subst (Spells (filter_text b)) (alone (filter_text b) (put 4 vs (λ q. close q ∷ bracket_behind q)) (end 4 vs) gb.0 two.2 right.1) gb.1;
      same_left = left.0;
      same_right = right.0;
    }
