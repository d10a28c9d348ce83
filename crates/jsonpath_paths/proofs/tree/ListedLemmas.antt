-- Each span in a tree that a text spells has a word or a quoted text.
use Rattle.std.proofs.Common.{◌≡◌, ◌+◌, ℕ, suc, Bool, true, false, List, [], ◌∷◌, ◌++◌, refl, sym, ap, ◌∙◌, arith}
use Rattle.std.specs.Prelude.{Contains}
use Rattle.std.specs.List.{list_all}
use Rattle.std.specs.Str.{chars, IsUtf8, IsCharBoundary}
use Rattle.std.proofs.lemmas.Bool.{and_from}
use Rattle.std.proofs.lemmas.List.Folds.{list_all-append}
use denote.Ref.{Bor}
use Rattle.jsonpath_paths.specs.token.Kinds.{is_name}
use Rattle.jsonpath_paths.specs.text.Spans.{IsSpan, slice_at, is_boundary}
use Rattle.jsonpath_paths.specs.text.Characters.{bytes_at}
use Rattle.jsonpath_paths.specs.tree.Tree.{Path, path, PathSteps, no_steps, step_then, Inner, plain, filter, Condition, lone, compare, join, Term, at_path, literal}
use Rattle.jsonpath_paths.specs.tree.Visit.{MayRead, MayReadPath, MayReadSteps, MayReadInner, MayReadCondition, MayReadTerm, one_step, path_tokens, step_tokens, inner_tokens, condition_tokens, term_tokens}
use Rattle.jsonpath_paths.specs.declared.text.str_reader.StrRange.{StrRange}
use Rattle.jsonpath_paths.specs.declared.token.tokens.ParseToken.{ParseToken}
use Rattle.jsonpath_paths.specs.declared.token.tokens.ParseToken.TheVariants as t
use Rattle.jsonpath_paths.specs.Spelling.{Spells}
use Rattle.jsonpath_paths.specs.Listed.{is_name_at, has_names_of_token, IsListOfText}
use Rattle.jsonpath_paths.proofs.tree.SpanNameLemmas.{names_read}
use Rattle.jsonpath_paths.proofs.tree.WellSpelledLemmas.{path_well}

at_boundary : (text : List ℕ) (i : ℕ) → IsCharBoundary text i → is_boundary text i ≡ true
at_boundary text i h = grind arith

-- what stands at a span that lies in a text and cuts no character
slice_is_bytes : (text : List ℕ) (s : StrRange) → IsSpan text s → slice_at text s ≡ bytes_at text s
unfolding slice_at
slice_is_bytes text s span = rw (at_boundary text s.pos span.start, at_boundary text (s.pos + s.offset) span.end) refl

module _ (text : List ℕ) where
  abbrev IsNamed : StrRange → Type 0
  IsNamed s = is_name_at text s ≡ true

  sliced : (s : StrRange) → IsSpan text s → is_name (chars (bytes_at text s)) ≡ true → IsNamed s
  sliced s span h = ap (λ bytes. is_name (chars bytes)) (slice_is_bytes text s span) ∙ h

  abbrev lent : StrRange → Bor StrRange
  lent s = record { ref_ptr = (0, 0); now = s }

  all_named : (ss : List StrRange) → ((s : StrRange) → Contains ss s → IsNamed s) → list_all (is_name_at text) ss ≡ true
  all_named [] h = refl
  all_named (s ∷ ss) h =
      and_from (is_name_at text s) (list_all (is_name_at text) ss) (h s (0, omega arith, refl)) (all_named ss (λ x c. h x (suc c.0, omega (arith, c.1), c.2)))

  -- what a reader finds at a span of the tree
  abbrev reads : Bor StrRange → Type 0
  reads s = IsSpan text s.now × (is_name (chars (bytes_at text s.now)) ≡ true)

  named_there : (s : StrRange) → reads (lent s) → IsNamed s
  named_there s h = sliced s h.0 h.1

  token_named : (token : ParseToken) → MayRead reads token → has_names_of_token text token ≡ true
  token_named (t.Key s) h = named_there s (h (lent s) (0, omega arith, refl))
  token_named (t.Keys ss) h = all_named ss (λ s within. named_there s (h (lent s) within))
  token_named _ h = refl

  abbrev all_have : List ParseToken → Bool
  all_have ts = list_all (has_names_of_token text) ts

  have_both : (ts us : List ParseToken) → all_have ts ≡ true → all_have us ≡ true → all_have (ts ++ us) ≡ true
  have_both ts us h g = list_all-append (has_names_of_token text) ts us ∙ and_from (all_have ts) (all_have us) h g

  have_one : (token : ParseToken) → has_names_of_token text token ≡ true → all_have (token ∷ []) ≡ true
  have_one token h = and_from (has_names_of_token text token) true h refl

  step_named : (leaves bracket : Bool) (inner : List ParseToken) → all_have inner ≡ true → all_have (one_step leaves bracket inner) ≡ true
  step_named false false inner h = have_both inner [] h refl
  step_named true false inner h = have_both inner [] h refl
  step_named false true inner h = have_both inner (t.ArrayEof ∷ []) h refl
  step_named true true inner h = have_both inner (t.ArrayEof ∷ []) h refl

  mutual
    path_named : (p : Path) → MayReadPath reads p → all_have (path_tokens p) ≡ true
    path_named (path true ss) h = steps_named ss h
    path_named (path false ss) h = steps_named ss h

    steps_named : (ss : PathSteps) → MayReadSteps reads ss → all_have (step_tokens ss) ≡ true
    steps_named no_steps h = refl
    steps_named (step_then leaves bracket inner ss) h =
        have_both (one_step leaves bracket (inner_tokens inner)) (step_tokens ss) (step_named leaves bracket (inner_tokens inner) (inner_named inner h.0)) (steps_named ss h.1)

    inner_named : (inner : Inner) → MayReadInner reads inner → all_have (inner_tokens inner) ≡ true
    inner_named (plain token) h = have_one token (token_named token h)
    inner_named (filter c) h = condition_named c h

    condition_named : (c : Condition) → MayReadCondition reads c → all_have (condition_tokens c) ≡ true
    condition_named (lone p) h = path_named p h
    condition_named (compare a op b) h = have_both (term_tokens a) (term_tokens b ++ t.Filter op ∷ []) (term_named a h.0) (have_both (term_tokens b) (t.Filter op ∷ []) (term_named b h.1) refl)
    condition_named (join op a b) h = have_both (condition_tokens a) (condition_tokens b ++ t.Filter op ∷ []) (condition_named a h.0) (have_both (condition_tokens b) (t.Filter op ∷ []) (condition_named b h.1) refl)

    term_named : (a : Term) → MayReadTerm reads a → all_have (term_tokens a) ≡ true
    term_named (at_path p) h = path_named p h
    term_named (literal token) h = have_one token (token_named token h)

-- the token list of the tree that a text spells
pub list_of_text : (text : List ℕ) (p : Path) (tokens : List ParseToken) → IsUtf8 text → Spells text p → path_tokens p ≡ tokens → IsListOfText text tokens
list_of_text text p tokens u spelled is = record {
  path = p;
  spelled = spelled;
  holds = record {
    path = path_well text p _ spelled.spelled;
    list = is;
    names = ap (λ (ts : List ParseToken). list_all (has_names_of_token text) ts) (sym is) ∙ path_named text p (names_read text p u spelled);
  };
}
