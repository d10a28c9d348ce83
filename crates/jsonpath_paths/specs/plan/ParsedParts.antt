-- The one tree that tokens spell, found part by part from left to right. Each function answers the part and the tokens that are left.
use Rattle.std.specs.Prelude.{ℕ, zero, suc, Bool, true, false, ◌||◌, List, [], ◌∷◌, ◌++◌, length, Option, Some, None, is_some, ℤ, if◌then◌else◌}
use Rattle.jsonpath_paths.specs.declared.text.str_reader.StrRange.{StrRange}
use Rattle.jsonpath_paths.specs.declared.decimal.Decimal.{Decimal}
use Rattle.jsonpath_paths.specs.declared.token.tokens.FilterToken.{FilterToken}
use Rattle.jsonpath_paths.specs.declared.token.tokens.Kind.{Kind}
use Rattle.jsonpath_paths.specs.declared.token.tokens.Kind.TheVariants as k
use Rattle.jsonpath_paths.specs.declared.token.tokens.ParseToken.{ParseToken}
use Rattle.jsonpath_paths.specs.declared.token.tokens.ParseToken.TheVariants as t
use Rattle.jsonpath_paths.specs.Grammar.{Lexemes, comparison, connective, whole_number, levels}
use Rattle.jsonpath_paths.specs.token.Kinds.{same_kind}
use Rattle.jsonpath_paths.specs.Numbers.{index_of, range_step_of, decimal_of}
use Rattle.jsonpath_paths.specs.Literals.{truth_of}
use Rattle.jsonpath_paths.specs.text.Characters.{bytes_at}
use Rattle.jsonpath_paths.specs.tree.Tree.{Path, PathSteps, Inner, Condition, Term}
use Rattle.jsonpath_paths.specs.tree.Tree as tree

abbrev pub Read : Type 0 → Type 0
Read A = Option (A × Lexemes)

infixl 10 ◌>>=◌
abbrev pub ◌>>=◌ : {A B : Type 0} → Option A → (A → Option B) → Option B
None >>= f = None
(Some x) >>= f = f x

-- by what was found, or else the other answer
abbrev pub choose : {A B : Type 0} → Option A → (A → Option B) → Option B → Option B
choose None f other = other
choose (Some x) f other = f x

abbrev pub only_if : {A : Type 0} → Bool → A → Option A
only_if true x = Some x
only_if false x = None

-- without the blanks at the front, which are one token
unfoldable pub skip : Lexemes → Lexemes
skip [] = []
skip (p ∷ ps) = if same_kind p.kind k.Whitespace then ps else p ∷ ps

-- the span of the first token, if it is of this kind
abbrev pub take_token : Kind → Lexemes → Read StrRange
take_token kind [] = None
take_token kind (p ∷ ps) = only_if (same_kind p.kind kind) (p.span, ps)

-- the tokens behind the first, if that is of this kind
abbrev pub eat : Kind → Lexemes → Option Lexemes
eat kind ts = take_token kind ts >>= λ s. Some s.1

-- a quoted text
abbrev pub quoted_at : Lexemes → Read StrRange
quoted_at ts = choose (take_token k.DoubleQuoted ts) (λ s. Some s) (take_token k.SingleQuoted ts)

-- the first token by its kind
abbrev pub by_kind : {A : Type 0} → (Kind → Option A) → Lexemes → Read A
by_kind f [] = None
by_kind f (p ∷ ps) = f p.kind >>= λ x. Some (x, ps)

module _ (text : List ℕ) where
  abbrev pub index_at : Lexemes → Read ℤ
  index_at ts = take_token k.Key ts >>= λ w. index_of (bytes_at text w.0) >>= λ n. Some (n, w.1)

  abbrev pub rest_of_number : List ℕ → Lexemes → Read Decimal
  rest_of_number w ts = choose (eat k.Dot ts)
      (λ d. take_token k.Key d >>= λ f. decimal_of w (bytes_at text f.0) >>= λ x. Some (x, f.1))
      (decimal_of w [] >>= λ x. Some (x, ts))

  abbrev pub range_bound_at : Lexemes → Read (Option ℤ)
  range_bound_at ts = choose (take_token k.Key ts) (λ w. index_of (bytes_at text w.0) >>= λ n. Some (Some n, skip w.1)) (Some (None, ts))

  abbrev pub optional_range_step : Lexemes → Read (Option ℕ)
  optional_range_step ts = choose (take_token k.Key ts) (λ w. range_step_of (bytes_at text w.0) >>= λ n. Some (Some n, skip w.1)) (Some (None, ts))

  abbrev pub range_step_part_at : Lexemes → Read (Option ℕ)
  range_step_part_at ts = choose (eat k.Split ts) (λ c. optional_range_step (skip c)) (Some (None, ts))

  abbrev pub more_indexes_at : ℕ → Lexemes → Read (List ℤ)
  more_indexes_at zero ts = None
  more_indexes_at (suc fuel) ts = choose (eat k.Comma ts)
      (λ c. index_at (skip c) >>= λ n. more_indexes_at fuel n.1 >>= λ ns. Some (n.0 ∷ ns.0, ns.1))
      (Some ([], skip ts))

  abbrev pub more_names_at : ℕ → Lexemes → Read (List StrRange)
  more_names_at zero ts = None
  more_names_at (suc fuel) ts = choose (eat k.Comma ts)
      (λ c. quoted_at (skip c) >>= λ s. more_names_at fuel (skip s.1) >>= λ ss. Some (s.0 ∷ ss.0, ss.1))
      (Some ([], ts))

  -- these indexes or names, and those that follow
  abbrev pub with_more_indexes : List ℤ → Lexemes → Read (List ℤ)
  with_more_indexes done ts = more_indexes_at (suc (length ts)) ts >>= λ ns. Some (done ++ ns.0, ns.1)

  abbrev pub with_more_names : List StrRange → Lexemes → Read (List StrRange)
  with_more_names done ts = more_names_at (suc (length ts)) ts >>= λ ss. Some (done ++ ss.0, ss.1)

  abbrev pub step_word_at : Lexemes → Read ParseToken
  step_word_at ts = choose (take_token k.Key ts) (λ w. Some (t.Key w.0, w.1)) (eat k.Asterisk ts >>= λ a. Some (t.All, a))

  -- a range of which the index before the colon is read
  abbrev pub rest_of_range : Option ℤ → Lexemes → Read ParseToken
  rest_of_range first ts = range_bound_at (skip ts) >>= λ last. range_step_part_at last.1 >>= λ step. Some (t.Range first last.0 step.0, step.1)

  abbrev pub rest_of_union : ℤ → Lexemes → Read ParseToken
  rest_of_union n ts = index_at (skip ts) >>= λ m. with_more_indexes (n ∷ m.0 ∷ []) m.1 >>= λ ns. Some (t.Union ns.0, ns.1)

  abbrev pub index_union_or_range : ℤ → Lexemes → Read ParseToken
  index_union_or_range n ts = choose (eat k.Comma ts) (rest_of_union n) (choose (eat k.Split ts) (rest_of_range (Some n)) (Some (t.Number (whole_number n), ts)))

  abbrev pub rest_of_name_list : StrRange → Lexemes → Read ParseToken
  rest_of_name_list s ts = quoted_at (skip ts) >>= λ s'. with_more_names (s ∷ s'.0 ∷ []) (skip s'.1) >>= λ ss. Some (t.Keys ss.0, ss.1)

  abbrev pub name_or_name_list : StrRange → Lexemes → Read ParseToken
  name_or_name_list s ts = choose (eat k.Comma ts) (rest_of_name_list s) (Some (t.Key s, skip ts))

  abbrev pub indexes_or_range : List ℕ → Lexemes → Read ParseToken
  indexes_or_range word ts = index_of word >>= λ n. index_union_or_range n (skip ts)

  abbrev pub quoted_names_at : Lexemes → Read ParseToken
  quoted_names_at ts = quoted_at ts >>= λ s. name_or_name_list s.0 s.1

  abbrev pub range_or_names : Lexemes → Read ParseToken
  range_or_names ts = choose (eat k.Split ts) (rest_of_range None) (quoted_names_at ts)

  abbrev pub indexes_range_or_names : Lexemes → Read ParseToken
  indexes_range_or_names ts = choose (take_token k.Key ts) (λ w. indexes_or_range (bytes_at text w.0) w.1) (range_or_names ts)

  unfoldable pub plain_at : Lexemes → Read ParseToken
  plain_at ts = choose (eat k.Asterisk ts) (λ a. Some (t.All, skip a)) (indexes_range_or_names ts)

  -- true or false, or a number
  abbrev pub literal_from_word : List ℕ → Lexemes → Read ParseToken
  literal_from_word w ts = choose (truth_of w) (λ b. Some (t.Bool b, ts)) (rest_of_number w ts >>= λ d. Some (t.Number d.0, d.1))

  unfoldable pub literal_at : Lexemes → Read ParseToken
  literal_at ts = choose (take_token k.Key ts) (λ w. literal_from_word (bytes_at text w.0) w.1) (quoted_at ts >>= λ s. Some (t.Key s.0, s.1))

  -- what `deeper` reads stands one level deeper
  module _ (deeper : Lexemes → Read Condition) where
    unfoldable pub inner_at : Lexemes → Read Inner
    inner_at ts = choose (eat k.Question ts) (λ q. eat k.OpenParenthesis q >>= λ o. deeper o >>= λ c. Some (tree.filter c.0, skip c.1))
        (plain_at ts >>= λ p. Some (tree.plain p.0, p.1))

    unfoldable pub array_at : Bool → Lexemes → Read (Bool × Bool × Inner)
    array_at leaves ts = inner_at ts >>= λ i. eat k.CloseArray i.1 >>= λ e. Some ((leaves, true, i.0), e)

    abbrev pub word_step : Bool → Lexemes → Read (Bool × Bool × Inner)
    word_step leaves ts = step_word_at ts >>= λ w. Some ((leaves, false, tree.plain w.0), w.1)

    abbrev pub after_dots : Lexemes → Read (Bool × Bool × Inner)
    after_dots ts = choose (eat k.OpenArray ts) (λ o. array_at true (skip o)) (word_step true ts)

    abbrev pub after_dot : Lexemes → Read (Bool × Bool × Inner)
    after_dot ts = choose (eat k.Dot ts) after_dots (choose (eat k.OpenArray ts) (array_at false) (word_step false ts))

    abbrev pub begins_step : Lexemes → Bool
    begins_step ts = is_some (take_token k.Dot ts) || is_some (take_token k.OpenArray ts)

    unfoldable pub step_at : Lexemes → Read (Bool × Bool × Inner)
    step_at ts = choose (eat k.OpenArray ts) (λ o. array_at false (skip o)) (eat k.Dot ts >>= after_dot)

    abbrev pub steps_from : ℕ → Lexemes → Read PathSteps
    steps_from zero ts = None
    steps_from (suc fuel) ts =
        if begins_step ts then (step_at ts >>= λ s. steps_from fuel s.1 >>= λ ss. Some (tree.step_then s.0.0 s.0.1 s.0.2 ss.0, ss.1)) else Some (tree.no_steps, ts)

    unfoldable pub steps_at : Lexemes → Read PathSteps
    steps_at ts = steps_from (suc (length ts)) ts

    unfoldable pub term_at : Lexemes → Read Term
    term_at ts = choose (eat k.At ts) (λ a. steps_at a >>= λ ss. Some (tree.at_path (tree.path false ss.0), ss.1))
        (choose (eat k.Absolute ts) (λ a. steps_at a >>= λ ss. Some (tree.at_path (tree.path true ss.0), ss.1))
        (literal_at ts >>= λ l. Some (tree.literal l.0, l.1)))

    abbrev pub rest_of_comparison : Term → FilterToken × Lexemes → Read Condition
    rest_of_comparison left o = term_at (skip o.1) >>= λ right. Some (tree.compare left o.0 right.0, right.1)

    -- what stands behind a path from the candidate with these steps
    abbrev pub comparison_or_lone_at : PathSteps → Lexemes → Read Condition
    comparison_or_lone_at ss ts = choose (by_kind comparison (skip ts)) (rest_of_comparison (tree.at_path (tree.path false ss))) (Some (tree.lone (tree.path false ss), ts))

    -- a path from the candidate, alone or compared
    abbrev pub candidate_condition_at : Lexemes → Read Condition
    candidate_condition_at ts = steps_at ts >>= λ ss. comparison_or_lone_at ss.0 ss.1

    abbrev pub comparison_at : Lexemes → Read Condition
    comparison_at ts = term_at ts >>= λ left. by_kind comparison (skip left.1) >>= rest_of_comparison left.0

    unfoldable pub part_at : Lexemes → Read Condition
    part_at ts = choose (eat k.OpenParenthesis ts) deeper
        (choose (eat k.At ts) candidate_condition_at (comparison_at ts))

    unfoldable pub condition_by : Lexemes → Read Condition
    condition_by ts = part_at (skip ts) >>= λ p. choose (eat k.CloseParenthesis (skip p.1)) (λ e. Some (p.0, e))
        (by_kind connective (skip p.1) >>= λ o. deeper o.1 >>= λ c. Some (tree.join o.0 p.0 c.0, c.1))

  -- a condition at one of so many levels
  abbrev pub condition_at : ℕ → Lexemes → Read Condition
  condition_at zero ts = None
  condition_at (suc left) ts = condition_by (condition_at left) ts

  abbrev pub if_end : PathSteps → Lexemes → Option Path
  if_end ss [] = Some (tree.path true ss)
  if_end ss (p ∷ ps) = None

  unfoldable pub path_at : Lexemes → Option Path
  path_at ts = eat k.Absolute ts >>= λ r. steps_at (condition_at levels) r >>= λ ss. if_end ss.0 (skip ss.1)
