-- Marks that stand at locations of a document.
use Rattle.std.proofs.Common.{Option, ◌≡◌, ℕ, zero, suc, ◌<◌, Bool, List, [], ◌∷◌, map, length, drop, Some, refl, sym, ap, ◌∙◌, get_or, arith, filter_map}
use Rattle.std.specs.List.{cons_option}
use Rattle.std.proofs.lemmas.List.{length-map}
use Rattle.jsonpath_nodes.specs.document.Document.{Document}
use Rattle.jsonpath_nodes.specs.place.Location.{Location, at}
use Rattle.jsonpath_nodes.specs.place.Mark.{shown, look_kept, MarksStandAt}
use Rattle.jsonpath_select.specs.plan.Shown.{MarkStandsAt}

-- ---- lists that are seen alike

filter_map-map : {X Y Z : Type 0} (g : Y → Option Z) (f : X → Y) (xs : List X) → filter_map g (map f xs) ≡ filter_map (λ x. g (f x)) xs
filter_map-map g f [] = refl
filter_map-map g f (x ∷ xs) = ap (cons_option (g (f x))) (filter_map-map g f xs)

pub filter_map-some : {X Y : Type 0} (f : X → Y) (xs : List X) → filter_map (λ x. Some (f x)) xs ≡ map f xs
filter_map-some f [] = refl
filter_map-some f (x ∷ xs) = ap (λ ys. f x ∷ ys) (filter_map-some f xs)

pub found_alike : {A B Y Z : Type 0} (g : Y → Option Z) (s : A → Y) (l : B → Y) (xs : List A) (ys : List B) → map s xs ≡ map l ys → filter_map (λ x. g (s x)) xs ≡ filter_map (λ y. g (l y)) ys
found_alike g s l xs ys h = sym (filter_map-map g s xs) ∙ ap (filter_map g) h ∙ filter_map-map g l ys

-- ---- marks

module _ {M : Type 0} (located : Bool) (stand_of : M → Location) (content_of : M → Document) where
  pub length-marks : (doc : Document) (ls : List Location) (marks : List M) → MarksStandAt located stand_of content_of doc ls marks → length marks ≡ length ls
  length-marks doc ls marks h = sym (length-map marks (shown stand_of content_of)) ∙ ap length h ∙ length-map ls (look_kept located doc)

  -- the marks from a place on, and their locations
  pub left_marks : (doc : Document) (ls : List Location) (marks : List M) (i : ℕ) (d : M) → MarksStandAt located stand_of content_of doc ls marks → i < length marks
      → (l : Location) × MarkStandsAt located stand_of content_of doc l (get_or marks i d) × (drop i ls ≡ l ∷ drop (suc i) ls)
  left_marks doc ls [] i d stand below = absurd (omega arith)
  left_marks doc [] (m ∷ marks) i d stand below = cc
  left_marks doc (l ∷ ls) (m ∷ marks) zero d stand below = (l, cc, refl)
  left_marks doc (l ∷ ls) (m ∷ marks) (suc i) d stand below =
      let later : MarksStandAt located stand_of content_of doc ls marks = cc in
      left_marks doc ls marks i d later (omega arith)

  -- the values that stand there
  pub contents-at : (doc : Document) (ls : List Location) (marks : List M) → MarksStandAt located stand_of content_of doc ls marks → map content_of marks ≡ filter_map (at doc) ls
  contents-at doc ls marks h = sym (filter_map-some content_of marks) ∙ found_alike (λ x. x.1) (shown stand_of content_of) (look_kept located doc) marks ls h
