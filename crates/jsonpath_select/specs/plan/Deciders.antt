-- What stands for many values on the right of a comparison: the farthest of each kind, two that differ, or a look-up.
use Rattle.std.specs.Prelude.{◌≡◌, ◌<◌, ℕ, ℤ, Bool, true, false, List, map, length, slice_index_or}
use Rattle.std.specs.Cmp.Lexicographic.{slice_cmp}
use Rattle.std.specs.List.{list_any}
use Rattle.std.specs.Ordering.{nat_cmp, is_eq}
use Rattle.jsonpath_paths.specs.declared.token.tokens.FilterToken.{FilterToken}
use Rattle.jsonpath_paths.specs.declared.token.tokens.FilterToken.TheVariants.{Little, LittleOrEqual, Greater, GreaterOrEqual}
use Rattle.jsonpath_nodes.specs.compare.Atoms.{seen_with}
use Rattle.jsonpath_nodes.specs.compare.Comparisons.{Seen, null_value, truth, fraction, text, fraction_cmp}
use Rattle.jsonpath_select.specs.Parts.{is_pair}
use Rattle.jsonpath_select.specs.declared.comparison.decider.Decider.{Decider}
use Rattle.jsonpath_select.specs.declared.comparison.decider.Decider.TheVariants.{All, Few, ValueSet as Looked}
use Rattle.jsonpath_select.specs.declared.comparison.pairs.KeptAtom.{KeptAtom}
use Rattle.jsonpath_select.specs.declared.comparison.value_set.ValueSet.{ValueSet}

-- `<`, `<=`, `>` and `>=`
abbrev pub is_order : FilterToken → Bool
is_order Little = true
is_order LittleOrEqual = true
is_order Greater = true
is_order GreaterOrEqual = true
is_order _ = false

-- the comparison that holds where this one holds with its sides changed
abbrev pub with_sides_swapped : FilterToken → FilterToken
with_sides_swapped Little = Greater
with_sides_swapped LittleOrEqual = GreaterOrEqual
with_sides_swapped Greater = Little
with_sides_swapped GreaterOrEqual = LittleOrEqual
with_sides_swapped op = op

-- some of these satisfy the comparison with a value on its left
abbrev pub some_right : FilterToken → Seen → List Seen → Bool
some_right op x ys = list_any (λ y. is_pair op x y) ys

-- what holds of the value holds of some of these
abbrev pub IsAmong : Seen → List Seen → Type 0
IsAmong y ys = (test : Seen → Bool) → test y ≡ true → list_any test ys ≡ true

-- truth values, numbers and texts have an order, each kind its own
abbrev pub kind : Seen → ℕ
kind (truth b) = 1
kind (fraction a m) = 2
kind (text s) = 3
kind _ = 0

-- for values whose numbers are of one type, by the fraction that each is
module _ {N : Type 0} (f : N → ℤ × ℕ) where
  abbrev pub seen_kept : KeptAtom N → Seen
  seen_kept kept = seen_with f kept.atom.now

  -- at this place is one of a kind
  abbrev pub IsOfKindAt : ℕ → List (KeptAtom N) → ℕ → Type 0
  IsOfKindAt i few n = (i < length few) × ((d : KeptAtom N) → kind (seen_kept (slice_index_or few i d)) ≡ n)

  abbrev pub is_among_known : ValueSet N → Seen → Bool
  is_among_known k null_value = k.has_null
  is_among_known k (truth true) = k.has_true
  is_among_known k (truth false) = k.has_false
  is_among_known k (fraction a m) = list_any (λ d. is_eq (fraction_cmp a m (f d.now).0 (f d.now).1)) k.numbers.keys
  is_among_known k (text s) = list_any (λ t. is_eq (slice_cmp nat_cmp s t.now)) k.texts.keys
  is_among_known k _ = false

  -- whether a left value and some right value satisfy the comparison
  abbrev pub decided : FilterToken → Decider N → Seen → Bool
  decided op (All atoms) x = some_right op x (map (seen_with f) atoms.now)
  decided op (Few atoms) x = some_right op x (map seen_kept atoms.items)
  decided op (Looked k) x = is_among_known k x

  abbrev pub DecidesFor : FilterToken → List Seen → Decider N → Type 0
  DecidesFor op ys d = (x : Seen) → decided op d x ≡ some_right op x ys
