-- Updates by a path that selects one location alone.
use Rattle.std.proofs.Common.{◌≡◌, ℕ, List, [], ◌∷◌, Option, Some, None, Bool, true, false, cond, is_some, refl, sym, ap, subst, ◌∙◌}
use Rattle.std.specs.List.Sorted.{IsStrictlySortedBy}
use Rattle.jsonpath_nodes.specs.document.Document.{Document, null}
use Rattle.jsonpath_paths.specs.Spelling.{Spells}
use Rattle.jsonpath_paths.specs.tree.Tree.{Path}
use Rattle.jsonpath_nodes.specs.DocumentLaws.{OnceInOrderAscends, NullsInTurn, TakesFromTheBack, ChangesNothing}
use Rattle.jsonpath_nodes.specs.place.Location.{Location, at, location_cmp}
use Rattle.jsonpath_nodes.specs.place.Order.{once_in_order}
use Rattle.jsonpath_nodes.specs.update.Run.{update_each, update_each_back}
use Rattle.jsonpath_nodes.specs.update.Topmost.{nulled, taken}
use Rattle.jsonpath_nodes.specs.update.Update.{target, update}
use Rattle.jsonpath_select.specs.SelectionLaws.{where_it_is}
use Rattle.jsonpath_select.specs.Meaning.{sel}
use Rattle.jsonpath_lib.specs.update.UpdateLaws.{TargetsPlace, DeletesPlace, RemovesPlace}
use Rattle.jsonpath_select.specs.Targets.{targets}

one_in_order : (b : Bool) (l : Location) → once_in_order (cond b (l ∷ []) []) ≡ cond b (l ∷ []) []
one_in_order true l = refl
one_in_order false l = refl

no_target : (doc : Document) (l : Location) → at doc l ≡ None → target l doc ≡ None
no_target doc [] none = refl
no_target doc (s ∷ l) none = none

module _ (one_tree_per_text : (text : List ℕ) (p q : Path) → Spells text p → Spells text q → p ≡ q) where
  pub targets_place : TargetsPlace
  targets_place text doc l p printed spelled =
      ap once_in_order (ap (sel text doc) (one_tree_per_text text p printed.path spelled printed.spelled) ∙ sym printed.holds) ∙ one_in_order (is_some (at doc l)) l

module _ (nowhere : ChangesNothing) where
  -- the run of updates at the location, if something stands there, is the single update
  by_place : (answer : Option Document) (doc : Document) (l : Location) (run : List Location → Document) → run [] ≡ doc → run (l ∷ []) ≡ update l answer doc → run (where_it_is doc l) ≡ update l answer doc
  by_place answer doc l run none one = by_value (at doc l) refl
    where
      by_value : (o : Option Document) → at doc l ≡ o → run (cond (is_some o) (l ∷ []) []) ≡ update l answer doc
      by_value None e = none ∙ sym (nowhere answer l doc (no_target doc l e))
      by_value (Some d) e = one

  pub each_there : (answer : Option Document) (doc : Document) (l : Location) → update_each answer (where_it_is doc l) doc ≡ update l answer doc
  each_there answer doc l = by_place answer doc l (λ ls. update_each answer ls doc) refl refl

  back_there : (answer : Option Document) (doc : Document) (l : Location) → update_each_back answer (where_it_is doc l) doc ≡ update l answer doc
  back_there answer doc l = by_place answer doc l (λ ls. update_each_back answer ls doc) refl refl

  pub deletes_place : TargetsPlace → NullsInTurn → DeletesPlace
  deletes_place targets_of in_turn text before after l printed deleted =
      deleted.holds ∙ ap (λ ls. nulled ls before) (targets_of text before l deleted.path printed deleted.spelled) ∙ sym (in_turn before (where_it_is before l)) ∙ each_there (Some null) before l

  pub removes_place : TargetsPlace → TakesFromTheBack → OnceInOrderAscends → RemovesPlace
  removes_place targets_of from_back ascends text before after l printed removed =
      let same : targets text before removed.path ≡ where_it_is before l = targets_of text before l removed.path printed removed.spelled in
      let sorted : IsStrictlySortedBy location_cmp (where_it_is before l) = subst (IsStrictlySortedBy location_cmp) same (ascends (sel text before removed.path)) in
      removed.holds ∙ ap (λ ls. taken ls before) same ∙ sym (from_back before (where_it_is before l) sorted) ∙ back_there None before l
