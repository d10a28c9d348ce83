-- A path's tokens fit.
use Rattle.std.proofs.Common.{◌≡◌, Bool, true, false, not, List, [], ◌∷◌, ◌++◌, Some, refl, sym, ap, ◌∙◌, append_assoc, append-nil, IsTrue}
use Rattle.jsonpath_paths.specs.tree.Tree.{Path, path, PathSteps, no_steps, step_then, Inner, plain, filter, Condition, lone, compare, join, Term, at_path, literal, is_comparison}
use Rattle.jsonpath_paths.specs.tree.Visit.{path_tokens, step_tokens, one_step, inner_tokens, condition_tokens, term_tokens}
use Rattle.jsonpath_paths.specs.tree.WellFormed.{IsPath, IsTree, AreSteps, IsInner, IsCondition, IsTerm, IsBracketWord, is_dot_word, is_literal}
use Rattle.jsonpath_paths.specs.declared.token.tokens.FilterToken.{FilterToken}
use Rattle.jsonpath_paths.specs.declared.token.tokens.ParseToken.{ParseToken}
use Rattle.jsonpath_paths.specs.declared.token.tokens.ParseToken.TheVariants as t
use Rattle.jsonpath_select.specs.plan.Fits.{Entry, ready, dotted, opened, a_word, condition, may_stand_alone_in_brackets, may_stand_in_brackets, is_term_entry, is_condition_entry, pushed, worded, fits, fits_from, is_one_path_from_root, is_token_list_of_path}
use Rattle.jsonpath_select.proofs.compile.BracketWordLemmas.{bracket_test}

-- where a word begins an entry of its own
abbrev is_free : List Entry → Bool
is_free [] = true
is_free (dotted absolute leaves ∷ ks) = false
is_free (k ∷ ks) = true

abbrev path_entry : Path → Entry
path_entry (path absolute ss) = ready absolute

abbrev condition_entry : Condition → Entry
condition_entry (lone p) = path_entry p
condition_entry (compare a op b) = condition
condition_entry (join op a b) = condition

abbrev term_entry : Term → Entry
term_entry (at_path p) = path_entry p
term_entry (literal token) = a_word (may_stand_alone_in_brackets token) (is_literal token)

condition_inner : (c : Condition) → IsCondition c → may_stand_in_brackets (condition_entry c) ≡ true
condition_inner (lone (path absolute ss)) h = ap not h.0
condition_inner _ h = refl

condition_condition : (c : Condition) → IsCondition c → is_condition_entry (condition_entry c) ≡ true
condition_condition (lone (path absolute ss)) h = ap not h.0
condition_condition _ h = refl

term_term : (a : Term) → IsTerm a → is_term_entry (term_entry a) ≡ true
term_term (at_path (path absolute ss)) h = refl
term_term (literal token) h = h

free_pushed : (token : ParseToken) (ks : List Entry) → is_free ks ≡ true → worded token ks ≡ Some (pushed token ks)
free_pushed token (dotted absolute leaves ∷ ks) h = cc
free_pushed token _ h = refl

-- ---- words

dot_word : (token : ParseToken) → IsTrue (is_dot_word token) → (absolute leaves : Bool) (ks : List Entry) → fits token (dotted absolute leaves ∷ ks) ≡ Some (ready absolute ∷ ks)
dot_word t.All h absolute leaves ks = refl
dot_word (t.Key span) h absolute leaves ks = refl
dot_word _ h absolute leaves ks = cc h

bracket_word : (token : ParseToken) → IsBracketWord token → (absolute leaves : Bool) (ks : List Entry) → fits token (opened absolute leaves ∷ ks) ≡ Some (pushed token (opened absolute leaves ∷ ks))
bracket_word t.All h absolute leaves ks = refl
bracket_word (t.Key span) h absolute leaves ks = refl
bracket_word (t.Keys spans) h absolute leaves ks = refl
bracket_word (t.Union ns) h absolute leaves ks = refl
bracket_word (t.Range first last by) h absolute leaves ks = refl
bracket_word (t.Number d) h absolute leaves ks = refl
bracket_word _ h absolute leaves ks = absurd h

literal_word : (token : ParseToken) → IsTrue (is_literal token) → (ks : List Entry) → is_free ks ≡ true → fits token ks ≡ Some (pushed token ks)
literal_word (t.Key span) h ks free = free_pushed (t.Key span) ks free
literal_word (t.Number d) h ks free = free_pushed (t.Number d) ks free
literal_word (t.Bool b) h ks free = free_pushed (t.Bool b) ks free
literal_word _ h ks free = cc h

one_more : (token : ParseToken) (rest : List ParseToken) (ks new : List Entry) → fits token ks ≡ Some new → fits_from (token ∷ rest) ks ≡ fits_from rest new
one_more token rest ks new h = rw h refl

after_condition : (c : Condition) (ks : List Entry) → is_free (condition_entry c ∷ ks) ≡ true
after_condition (lone (path absolute ss)) ks = refl
after_condition _ ks = refl

after_term : (a : Term) (ks : List Entry) → is_free (term_entry a ∷ ks) ≡ true
after_term (at_path (path absolute ss)) ks = refl
after_term (literal token) ks = refl

-- ---- the ends of brackets, comparisons and connectives

bracket_ends : (k : Entry) (absolute leaves : Bool) (rest : List ParseToken) (ks : List Entry) → may_stand_in_brackets k ≡ true → fits_from (t.ArrayEof ∷ rest) (k ∷ opened absolute leaves ∷ ks) ≡ fits_from rest (ready absolute ∷ ks)
bracket_ends k absolute leaves rest ks h = rw h refl

compares_two : (op : FilterToken) (x y : Entry) (rest : List ParseToken) (ks : List Entry) → IsTrue (is_comparison op) → is_term_entry x ≡ true → is_term_entry y ≡ true
    → fits_from (t.Filter op ∷ rest) (y ∷ x ∷ ks) ≡ fits_from rest (condition ∷ ks)
compares_two op x y rest ks h a b = let is : is_comparison op ≡ true = h in rw (is, a, b) refl

joins_two : (op : FilterToken) (x y : Entry) (rest : List ParseToken) (ks : List Entry) → is_comparison op ≡ false → is_condition_entry x ≡ true → is_condition_entry y ≡ true
    → fits_from (t.Filter op ∷ rest) (y ∷ x ∷ ks) ≡ fits_from rest (condition ∷ ks)
joins_two op x y rest ks h a b = rw (h, a, b) refl

plain_in_bracket : (token : ParseToken) → IsBracketWord token → (absolute leaves : Bool) (rest : List ParseToken) (ks : List Entry)
    → fits_from (token ∷ t.ArrayEof ∷ rest) (opened absolute leaves ∷ ks) ≡ fits_from rest (ready absolute ∷ ks)
plain_in_bracket token h absolute leaves rest ks =
    one_more token (t.ArrayEof ∷ rest) (opened absolute leaves ∷ ks) (pushed token (opened absolute leaves ∷ ks)) (bracket_word token h absolute leaves ks)
    ∙ bracket_ends (a_word (may_stand_alone_in_brackets token) (is_literal token)) absolute leaves rest ks (bracket_test token h)

mutual
  pub fits_path : (p : Path) → IsTree p → (rest : List ParseToken) (ks : List Entry) → fits_from (path_tokens p ++ rest) ks ≡ fits_from rest (path_entry p ∷ ks)
  fits_path (path true ss) h rest ks = fits_steps ss h true rest ks
  fits_path (path false ss) h rest ks = fits_steps ss h false rest ks

  fits_steps : (ss : PathSteps) → AreSteps ss → (absolute : Bool) (rest : List ParseToken) (ks : List Entry) → fits_from (step_tokens ss ++ rest) (ready absolute ∷ ks) ≡ fits_from rest (ready absolute ∷ ks)
  fits_steps no_steps h absolute rest ks = refl
  fits_steps (step_then leaves bracket inner ss) h absolute rest ks =
      ap (λ (ts : List ParseToken). fits_from ts (ready absolute ∷ ks)) (append_assoc (one_step leaves bracket (inner_tokens inner)) (step_tokens ss) rest)
      ∙ fits_inner inner leaves bracket h.0 absolute (step_tokens ss ++ rest) ks
      ∙ fits_steps ss h.1 absolute rest ks

  fits_inner : (inner : Inner) (leaves bracket : Bool) → IsInner bracket inner → (absolute : Bool) (rest : List ParseToken) (ks : List Entry)
      → fits_from (one_step leaves bracket (inner_tokens inner) ++ rest) (ready absolute ∷ ks) ≡ fits_from rest (ready absolute ∷ ks)
  fits_inner (plain token) false false h absolute rest ks = one_more token rest (dotted absolute false ∷ ks) (ready absolute ∷ ks) (dot_word token h absolute false ks)
  fits_inner (plain token) true false h absolute rest ks = one_more token rest (dotted absolute true ∷ ks) (ready absolute ∷ ks) (dot_word token h absolute true ks)
  fits_inner (plain token) false true h absolute rest ks = plain_in_bracket token h absolute false rest ks
  fits_inner (plain token) true true h absolute rest ks = plain_in_bracket token h absolute true rest ks
  fits_inner (filter c) leaves false h absolute rest ks = absurd h
  fits_inner (filter c) false true h absolute rest ks =
      ap (λ (ts : List ParseToken). fits_from ts (opened absolute false ∷ ks)) (append_assoc (condition_tokens c) (t.ArrayEof ∷ []) rest)
      ∙ fits_condition c h (t.ArrayEof ∷ rest) (opened absolute false ∷ ks) refl
      ∙ bracket_ends (condition_entry c) absolute false rest ks (condition_inner c h)
  fits_inner (filter c) true true h absolute rest ks =
      ap (λ (ts : List ParseToken). fits_from ts (opened absolute true ∷ ks)) (append_assoc (condition_tokens c) (t.ArrayEof ∷ []) rest)
      ∙ fits_condition c h (t.ArrayEof ∷ rest) (opened absolute true ∷ ks) refl
      ∙ bracket_ends (condition_entry c) absolute true rest ks (condition_inner c h)

  fits_condition : (c : Condition) → IsCondition c → (rest : List ParseToken) (ks : List Entry) → is_free ks ≡ true → fits_from (condition_tokens c ++ rest) ks ≡ fits_from rest (condition_entry c ∷ ks)
  fits_condition (lone (path absolute ss)) h rest ks free = fits_path (path absolute ss) h.1 rest ks
  fits_condition (compare a op b) h rest ks free =
      ap (λ (ts : List ParseToken). fits_from ts ks) (append_assoc (term_tokens a) (term_tokens b ++ t.Filter op ∷ []) rest)
      ∙ fits_term a h.0 ((term_tokens b ++ t.Filter op ∷ []) ++ rest) ks free
      ∙ ap (λ (ts : List ParseToken). fits_from ts (term_entry a ∷ ks)) (append_assoc (term_tokens b) (t.Filter op ∷ []) rest)
      ∙ fits_term b h.2 (t.Filter op ∷ rest) (term_entry a ∷ ks) (after_term a ks)
      ∙ compares_two op (term_entry a) (term_entry b) rest ks h.1 (term_term a h.0) (term_term b h.2)
  fits_condition (join op a b) h rest ks free =
      ap (λ (ts : List ParseToken). fits_from ts ks) (append_assoc (condition_tokens a) (condition_tokens b ++ t.Filter op ∷ []) rest)
      ∙ fits_condition a h.0 ((condition_tokens b ++ t.Filter op ∷ []) ++ rest) ks free
      ∙ ap (λ (ts : List ParseToken). fits_from ts (condition_entry a ∷ ks)) (append_assoc (condition_tokens b) (t.Filter op ∷ []) rest)
      ∙ fits_condition b h.2 (t.Filter op ∷ rest) (condition_entry a ∷ ks) (after_condition a ks)
      ∙ joins_two op (condition_entry a) (condition_entry b) rest ks h.1 (condition_condition a h.0) (condition_condition b h.2)

  fits_term : (a : Term) → IsTerm a → (rest : List ParseToken) (ks : List Entry) → is_free ks ≡ true → fits_from (term_tokens a ++ rest) ks ≡ fits_from rest (term_entry a ∷ ks)
  fits_term (at_path p) h rest ks free = fits_path p h rest ks
  fits_term (literal token) h rest ks free = one_more token rest ks (pushed token ks) (literal_word token h ks free)

pub whole_fits : (p : Path) → IsPath p → is_token_list_of_path (path_tokens p) ≡ true
whole_fits (path absolute ss) h =
    ap (λ (ts : List ParseToken). is_token_list_of_path ts) (sym (append-nil (path_tokens (path absolute ss)))) ∙ ap is_one_path_from_root (fits_path (path absolute ss) h.1 [] []) ∙ h.0
