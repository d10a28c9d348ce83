-- The first value of an answer, from marks that begin as it does, and whether an answer has any, from its set.
use Rattle.std.specs.List.{cons_option}
use Rattle.std.proofs.Common.{◌≡◌, ◌==◌, ◌<◌, ℕ, zero, suc, Bool, true, false, List, [], ◌∷◌, take, length, Option, Some, None, refl, sym, ap, ◌∙◌, subst, arith, filter_map, option_map, is_some, not, Contains, slice_get, slice_index_or}
use Rattle.std.proofs.Math.Dec.{eqb-suc-zero}
use Rattle.jsonpath_nodes.specs.document.Document.{Document}
use Rattle.jsonpath_nodes.specs.DocumentLaws.{OnceInOrderKeepsMembers}
use Rattle.jsonpath_nodes.specs.place.Location.{Location, at}
use Rattle.jsonpath_nodes.specs.place.Mark.{shown, look_kept, MarksStandAt}
use Rattle.jsonpath_nodes.specs.place.Order.{once_in_order}
use Rattle.jsonpath_select.specs.plan.First.{BeginAs}

module _ {M : Type 0} (b : Bool) (stand : M → Location) (content : M → Document) (doc : Document) where
  pub first_answered : (ls : List Location) (marks : List M) → BeginAs b stand content doc ls marks → option_map content (slice_get marks 0) ≡ slice_get (filter_map (at doc) ls) 0
  first_answered ls marks h = by ls h.0 marks h.1 h.2
    where
      by : (ls front : List Location) (marks : List M) → MarksStandAt b stand content doc front marks → take 1 ls ≡ take 1 front → option_map content (slice_get marks 0) ≡ slice_get (filter_map (at doc) ls) 0
      by [] [] [] stands e = refl
      by [] [] (m ∷ ms) stands e = cc
      by [] (l ∷ front) marks stands e = cc
      by (l ∷ ls) [] marks stands e = cc
      by (l ∷ ls) (k ∷ front) [] stands e = cc
      by (l ∷ ls) (k ∷ front) (m ∷ ms) stands e =
          let same : l ≡ k = cc in
          let here : shown stand content m ≡ look_kept b doc k = cc in
          let there : at doc l ≡ Some (content m) = ap (at doc) same ∙ sym (ap (λ (x : Location × Option Document). x.1) here) in
          rw there refl

-- there is a first value where there is any
pub some_answered : {X : Type 0} (f : X → Document) (first : Option X) (values : List Document) → option_map f first ≡ slice_get values 0 → is_some first ≡ not (length values == 0)
some_answered f None [] e = refl
some_answered f None (d ∷ values) e = cc
some_answered f (Some x) [] e = cc
some_answered f (Some x) (d ∷ values) e = ap not (sym (eqb-suc-zero (length values)))

-- an answer isn't empty where one of the locations has a value
one_answered : (doc : Document) (l : Location) (d : Document) → at doc l ≡ Some d → (ls : List Location) → Contains ls l → (length (filter_map (at doc) ls) == 0) ≡ false
one_answered doc l d there ls held = by ls held.0 held.1 held.2
  where
    more : (o : Option Document) (ds : List Document) → (length ds == 0) ≡ false → (length (cons_option o ds) == 0) ≡ false
    more None ds e = e
    more (Some x) ds e = eqb-suc-zero (length ds)

    by : (ls : List Location) (i : ℕ) → i < length ls → slice_index_or ls i l ≡ l → (length (filter_map (at doc) ls) == 0) ≡ false
    by [] i less is = absurd (omega (arith, less))
    by (k ∷ ls) zero less is =
        let here : at doc k ≡ Some d = ap (at doc) is ∙ there in
        rw here (eqb-suc-zero (length (filter_map (at doc) ls)))
    by (k ∷ ls) (suc i) less is = more (at doc k) (filter_map (at doc) ls) (by ls i (omega (arith, less)) is)

module _ (members : OnceInOrderKeepsMembers) where
  never_none : (l : Location) (ls : List Location) → once_in_order [] ≡ once_in_order (l ∷ ls) → ⊥
  never_none l ls e =
      let there : Contains (l ∷ ls) l = (0, omega arith, refl) in
      let kept : Contains (once_in_order []) l = subst (λ (ms : List Location). Contains ms l) (sym e) ((members (l ∷ ls) l).1 there) in
      let bad = (members [] l).0 kept in
      omega (arith, bad.1)

  -- a set has a member where the answer has a value
  pub any_answered : {M : Type 0} (stand : M → Location) (content : M → Document) (doc : Document) (set : List M) (ls sel : List Location)
      → MarksStandAt true stand content doc ls set → once_in_order ls ≡ once_in_order sel → (length set == 0) ≡ (length (filter_map (at doc) sel) == 0)
  any_answered stand content doc [] [] [] stands same = refl
  any_answered stand content doc [] [] (k ∷ sel) stands same = absurd (never_none k sel same)
  any_answered stand content doc [] (l ∷ ls) sel stands same = cc
  any_answered stand content doc (m ∷ ms) [] sel stands same = cc
  any_answered stand content doc (m ∷ ms) (l ∷ ls) sel stands same =
      let here : shown stand content m ≡ look_kept true doc l = cc in
      let there : at doc l ≡ Some (content m) = sym (ap (λ (x : Location × Option Document). x.1) here) in
      let kept : Contains sel l = (members sel l).0 (subst (λ (ks : List Location). Contains ks l) same ((members (l ∷ ls) l).1 (0, omega arith, refl))) in
      eqb-suc-zero (length ms) ∙ sym (one_answered doc l (content m) there sel kept)
