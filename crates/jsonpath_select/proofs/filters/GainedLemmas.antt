-- Lists of marks that gain what a walk sees from one mark after the other.
use Rattle.std.proofs.Common.{◌≡◌, ℕ, suc, ◌+◌, ◌<◌, Bool, true, false, List, [], ◌∷◌, ◌++◌, map, take, drop, length, get_or, Option, Some, refl, sym, ap, ap₂, ◌∙◌, append-nil, drop-cons, arith, option_map, option_and_then, unwrap_or}
use Rattle.std.proofs.lemmas.Grind.{flat_map-append}
use Rattle.std.proofs.lemmas.List.{map-append, take_more}
use Rattle.jsonpath_nodes.specs.document.Document.{Document}
use Rattle.jsonpath_nodes.specs.place.Location.{Location, at}
use Rattle.jsonpath_nodes.specs.place.Mark.{kept_location, shown, look_kept, look_kept_from, MarksStandAt, MarksGain}
use Rattle.jsonpath_nodes.specs.step.Steps.{from, from_each}
use Rattle.jsonpath_select.proofs.answer.AllThereLemmas.{at_more}
use Rattle.jsonpath_select.proofs.walk.MarkLemmas.{left_marks, length-marks}

kept-twice : (b : Bool) (l m : Location) → kept_location b (kept_location b l ++ m) ≡ kept_location b (l ++ m)
kept-twice true l m = refl
kept-twice false l m = refl

at-below : (doc d : Document) (l m : Location) → at doc l ≡ Some d → at doc (l ++ m) ≡ at d m
at-below doc d l m h = at_more l m doc ∙ ap (option_and_then (λ e. at e m)) h

module _ {M : Type 0} (b : Bool) (stand : M → Location) (content : M → Document) (f : Document → List Location) (doc : Document) where
  -- what is seen from a mark of the document is what stands there
  seen : (l : Location) (m : M) (ks : List Location) → shown stand content m ≡ look_kept b doc l → map (look_kept_from b (stand m) (content m)) ks ≡ map (look_kept b doc) (map (λ k. l ++ k) ks)
  seen l m [] h = refl
  seen l m (k ∷ ks) h =
      let same : stand m ≡ kept_location b l = ap (λ (x : Location × Option Document). x.0) h in
      let there : at doc l ≡ Some (content m) = sym (ap (λ (x : Location × Option Document). x.1) h) in
      let place : kept_location b (stand m ++ k) ≡ kept_location b (l ++ k) = ap (λ (n : Location). kept_location b (n ++ k)) same ∙ kept-twice b l k in
      ap₂ (λ (x : Location × Option Document) (xs : List (Location × Option Document)). x ∷ xs) (ap₂ (λ (n : Location) (o : Option Document). (n, o)) place (sym (at-below doc (content m) l k there))) (seen l m ks h)

  seen_from : (l : Location) (m : M) → shown stand content m ≡ look_kept b doc l → map (look_kept_from b (stand m) (content m)) (f (content m)) ≡ map (look_kept b doc) (from doc f l)
  seen_from l m h =
      let there : at doc l ≡ Some (content m) = sym (ap (λ (x : Location × Option Document). x.1) h) in
      seen l m (f (content m)) h ∙ ap (λ (o : Option Document). map (look_kept b doc) (map (λ k. l ++ k) (unwrap_or (option_map f o) []))) (sym there)

  pub one_more : (ls : List Location) (marks : List M) (i : ℕ) (m : M) (before after : List M) → MarksStandAt b stand content doc ls marks → i < length marks → m ≡ get_or marks i m
      → MarksGain b stand content f (stand m) (content m) before after → MarksStandAt b stand content doc (from_each doc f (take i ls)) before → MarksStandAt b stand content doc (from_each doc f (take (i + 1) ls)) after
  one_more ls marks i m before after there below is gains held =
      let one = left_marks b stand content doc ls marks i m there below in
      let l = one.0 in
      let here : shown stand content m ≡ look_kept b doc l = ap (shown stand content) is ∙ one.1 in
      let same : length marks ≡ length ls = length-marks b stand content doc ls marks there in
      let within : i < length ls = omega arith in
      let cut : get_or ls i l ∷ drop (suc i) ls ≡ l ∷ drop (suc i) ls = sym (drop-cons ls i l within) ∙ one.2 in
      let first : get_or ls i l ≡ l = cc in
      let more : take (i + 1) ls ≡ take i ls ++ l ∷ [] = take_more ls i l within ∙ ap (λ (k : Location). take i ls ++ k ∷ []) first in
      let all : from_each doc f (take i ls) ++ from doc f l ≡ from_each doc f (take (i + 1) ls) =
      ap (λ (ks : List Location). from_each doc f (take i ls) ++ ks) (sym (append-nil (from doc f l))) ∙ sym (flat_map-append (from doc f) (take i ls) (l ∷ [])) ∙ ap (from_each doc f) (sym more) in
      gains ∙ ap₂ (λ (xs ys : List (Location × Option Document)). xs ++ ys) held (seen_from l m here)
      ∙ sym (map-append (look_kept b doc) (from_each doc f (take i ls)) (from doc f l)) ∙ ap (map (look_kept b doc)) all
