-- Spots in document order, and the topmost of them, one spot after the other.
use Rattle.std.proofs.Common.{◌≡◌, ℕ, zero, suc, ◌+◌, ◌<◌, ◌≤◌, List, [], ◌∷◌, ◌++◌, map, length, take, drop, get_or, Option, Some, None, Bool, true, false, cond, is_eq, ◌||◌, refl, sym, ap, ap₂, ◌∙◌, append_assoc, append-nil, arith, add-one, drop-cons, drop_of_length-le}
use Rattle.std.proofs.lemmas.List.{map-append, take_more, drop-map, length-map}
use Rattle.std.proofs.lemmas.Simd.{map-map}
use Rattle.std.proofs.lemmas.List.Sums.{fold-append}
use Rattle.std.proofs.Math.Seq.{take-length}
use Rattle.std.specs.BTreeSet.{insert_key}
use Rattle.std.specs.Cmp.{on_total}
use Rattle.std.specs.List.{AllByRecursion, list_any}
use Rattle.std.specs.List.Sorted.{IsStrictlySortedBy}
use Rattle.std.specs.Ordering.{on}
use Rattle.jsonpath_nodes.specs.document.Document.{Document}
use Rattle.jsonpath_nodes.specs.place.Location.{Location, location_cmp, is_same}
use Rattle.jsonpath_nodes.specs.place.NumbersWhere.{numbers_where}
use Rattle.jsonpath_nodes.specs.place.Order.{location_total, once_in_order}
use Rattle.jsonpath_nodes.specs.place.SpotPlace.{look, place_location, place_sight}
use Rattle.jsonpath_nodes.specs.plan.OrderedSpots.{IsShownIn as shows_in, ordered_spot_location as ordered_at, ordered_spot_sight as ordered_sight}
use Rattle.jsonpath_nodes.specs.step.SameMembers.{is_at_or_below, topmost_after}
use Rattle.jsonpath_nodes.specs.declared.place.document_order.OrderedSpot.{OrderedSpot}
use Rattle.jsonpath_nodes.specs.declared.place.spot.TreeNode.{TreeNode}
use Rattle.jsonpath_nodes.proofs.place.OrderLemmas.{all_insert}
use Rattle.jsonpath_nodes.proofs.step.InOrderLemmas.{once_sorted}
use Rattle.jsonpath_nodes.proofs.place.SightLemmas.{Sight}

module _ {T N : Type 0} (bytes : N → List ℕ) (content : T → Document) where
  abbrev Node : Type 0
  Node = TreeNode T N

  abbrev location_of : Node → Location
  location_of = place_location bytes

  abbrev sight_of : Node → Sight
  sight_of = place_sight bytes content

  -- the nodes stand at these locations of the document
  abbrev StandAt : Document → List Location → List Node → Type 0
  StandAt doc ls nodes = map sight_of nodes ≡ map (look doc) ls

  abbrev StandsAt : Document → Location → Node → Type 0
  StandsAt doc l node = sight_of node ≡ look doc l

  abbrev Ordered : Type 0
  Ordered = OrderedSpot T N

  abbrev ordered_spot_location : Ordered → Location
  ordered_spot_location = ordered_at bytes

  abbrev ordered_spot_sight : Ordered → Sight
  ordered_spot_sight = ordered_sight bytes content

  abbrev IsShownIn : Document → Ordered → Type 0
  IsShownIn = shows_in bytes content

  -- ---- where spots stand

  pub spot_there : (doc : Document) (ls : List Location) (spots : List Node) (i : ℕ) (d : Node) → StandAt doc ls spots → i < length spots
      → (l : Location) × StandsAt doc l (get_or spots i d) × (drop i ls ≡ l ∷ drop (suc i) ls)
  spot_there doc ls [] i d stand below = absurd (omega arith)
  spot_there doc [] (s ∷ spots) i d stand below = cc
  spot_there doc (l ∷ ls) (s ∷ spots) zero d stand below = (l, cc, refl)
  spot_there doc (l ∷ ls) (s ∷ spots) (suc i) d stand below =
      let later : StandAt doc ls spots = cc in
      spot_there doc ls spots i d later (omega arith)

  pub looked : (doc : Document) (ls : List Location) → map (λ (x : Sight). x.0) (map (look doc) ls) ≡ ls
  looked doc [] = refl
  looked doc (l ∷ ls) = ap (λ (ms : List Location). l ∷ ms) (looked doc ls)

  pub locations-StandAt : (doc : Document) (ls : List Location) (spots : List Node) → StandAt doc ls spots → map location_of spots ≡ ls
  locations-StandAt doc ls spots stand = sym (map-map (λ (x : Sight). x.0) sight_of spots) ∙ ap (map (λ (x : Sight). x.0)) stand ∙ looked doc ls

  -- ---- in document order

  places_inserted : (ps : List Ordered) (p : Ordered) → map ordered_spot_location (insert_key (on ordered_spot_location location_cmp) ps p) ≡ insert_key location_cmp (map ordered_spot_location ps) (ordered_spot_location p)
  places_inserted [] p = refl
  places_inserted (q ∷ ps) p = grind (arith, places_inserted ps p)

  all_shown : (doc : Document) (ps : List Ordered) → AllByRecursion (IsShownIn doc) ps → map ordered_spot_sight ps ≡ map (look doc) (map ordered_spot_location ps)
  all_shown doc [] h = refl
  all_shown doc (p ∷ ps) h = ap₂ (λ (x : Sight) (xs : List Sight). x ∷ xs) h.0 (all_shown doc ps h.1)

  pub order_next : (spots : List Node) (i : ℕ) (s : Node) (p : Ordered) (ps qs : List Ordered) → i < length spots → s ≡ get_or spots i s → ordered_spot_location p ≡ location_of s
      → qs ≡ insert_key (on ordered_spot_location location_cmp) ps p → map ordered_spot_location ps ≡ once_in_order (map location_of (take i spots)) → map ordered_spot_location qs ≡ once_in_order (map location_of (take (i + 1) spots))
  order_next spots i s p ps qs within is here more before =
      let taken : take (i + 1) spots ≡ take i spots ++ s ∷ [] = take_more spots i s within ∙ ap (λ (y : Node). take i spots ++ y ∷ []) (sym is) in
      ap (map ordered_spot_location) more
      ∙ places_inserted ps p
      ∙ ap₂ (insert_key location_cmp) before here
      ∙ sym (fold-append (insert_key location_cmp) [] (map location_of (take i spots)) (location_of s ∷ []))
      ∙ ap once_in_order (sym (map-append location_of (take i spots) (s ∷ [])) ∙ ap (map location_of) (sym taken))

  pub shown_next : (doc : Document) (ls : List Location) (spots : List Node) (i : ℕ) (s : Node) (p : Ordered) (ps qs : List Ordered) → StandAt doc ls spots → i < length spots → s ≡ get_or spots i s
      → ordered_spot_location p ≡ location_of s → ordered_spot_sight p ≡ sight_of s → qs ≡ insert_key (on ordered_spot_location location_cmp) ps p → AllByRecursion (IsShownIn doc) ps → AllByRecursion (IsShownIn doc) qs
  shown_next doc ls spots i s p ps qs stand within is here shows more before =
      let there = spot_there doc ls spots i s stand within in
      let at : sight_of s ≡ look doc there.0 = ap sight_of is ∙ there.1 in
      let place : location_of s ≡ there.0 = ap (λ (x : Sight). x.0) at in
      let shown : IsShownIn doc p = shows ∙ at ∙ ap (look doc) (sym place ∙ sym here) in
      subst_all more (all_insert (on_total ordered_spot_location location_total) (IsShownIn doc) p ps shown before)
    where
      subst_all : qs ≡ insert_key (on ordered_spot_location location_cmp) ps p → AllByRecursion (IsShownIn doc) (insert_key (on ordered_spot_location location_cmp) ps p) → AllByRecursion (IsShownIn doc) qs
      subst_all e h = rw e h

  pub order_done : (spots : List Node) (i : ℕ) (ps : List Ordered) → i ≡ length spots → map ordered_spot_location ps ≡ once_in_order (map location_of (take i spots)) → map ordered_spot_location ps ≡ once_in_order (map location_of spots)
  order_done spots i ps end order = order ∙ ap (λ n. once_in_order (map location_of (take n spots))) end ∙ ap (λ (xs : List Node). once_in_order (map location_of xs)) (take-length spots)

  pub order_stands : (doc : Document) (ls : List Location) (spots : List Node) (ps : List Ordered) (found : List Node) → StandAt doc ls spots
      → map sight_of found ≡ map ordered_spot_sight ps → map ordered_spot_location ps ≡ once_in_order (map location_of spots) → AllByRecursion (IsShownIn doc) ps → StandAt doc (once_in_order ls) found
  order_stands doc ls spots ps found stand are order shown = grind (arith, all_shown, locations-StandAt)

  -- ---- numbers of those that stand among others

  pub looked_up : (p : Ordered) (ps : List Ordered) → list_any (λ q. is_eq (location_cmp (ordered_spot_location p) (ordered_spot_location q))) ps ≡ list_any (is_same (ordered_spot_location p)) (map ordered_spot_location ps)
  looked_up p [] = refl
  looked_up p (q ∷ ps) = ap (λ (b : Bool). is_eq (location_cmp (ordered_spot_location p) (ordered_spot_location q)) || b) (looked_up p ps)

  more : (b : Bool) (n : ℕ) (out new later all : List ℕ) → new ≡ cond b (out ++ n ∷ []) out → out ++ cond b (n ∷ later) later ≡ all → new ++ later ≡ all
  more true n out new later all e g = ap (λ (ns : List ℕ). ns ++ later) e ∙ append_assoc out (n ∷ []) later ∙ g
  more false n out new later all e g = ap (λ (ns : List ℕ). ns ++ later) e ∙ g

  pub number_next : (test : Location → Bool) (spots : List Node) (n : ℕ) (s : Node) (b : Bool) (out new : List ℕ) → n < length spots → s ≡ get_or spots n s → b ≡ test (location_of s)
      → new ≡ cond b (out ++ n ∷ []) out → out ++ numbers_where test n (drop n (map location_of spots)) ≡ numbers_where test 0 (map location_of spots)
      → new ++ numbers_where test (n + 1) (drop (n + 1) (map location_of spots)) ≡ numbers_where test 0 (map location_of spots)
  number_next test spots n s b out new within is passes added held =
      let rest = drop (n + 1) (map location_of spots) in
      let left : drop n (map location_of spots) ≡ location_of s ∷ rest =
      drop-map location_of n spots ∙ ap (map location_of) (drop-cons spots n s within) ∙ ap₂ (λ (x : Node) (ls : List Location). location_of x ∷ ls) (sym is) (sym (drop-map location_of (suc n) spots) ∙ rw add-one refl) in
      let ahead : numbers_where test n (drop n (map location_of spots)) ≡ cond b (n ∷ numbers_where test (n + 1) rest) (numbers_where test (n + 1) rest) =
      ap (numbers_where test n) left ∙ ap₂ (λ (t : Bool) (k : ℕ). cond t (n ∷ numbers_where test k rest) (numbers_where test k rest)) (sym passes) (rw add-one refl) in
      more b n out new (numbers_where test (n + 1) rest) (numbers_where test 0 (map location_of spots)) added (ap (λ (ns : List ℕ). out ++ ns) (sym ahead) ∙ held)

  pub numbers_done : (test : Location → Bool) (spots : List Node) (n : ℕ) (out : List ℕ) → length spots ≤ n
      → out ++ numbers_where test n (drop n (map location_of spots)) ≡ numbers_where test 0 (map location_of spots) → out ≡ numbers_where test 0 (map location_of spots)
  numbers_done test spots n out over held =
      let none : drop n (map location_of spots) ≡ [] = drop-map location_of n spots ∙ ap (map location_of) (drop_of_length-le spots {i = n} over) in
      sym (append-nil out) ∙ ap (λ (ls : List Location). out ++ numbers_where test n ls) (sym none) ∙ held

  -- ---- the topmost

  pub topmost_next : (doc : Document) (ls : List Location) (spots kept kept' : List Node) (i : ℕ) (s : Node) (last last' : Option Location) → StandAt doc ls spots → i < length spots → s ≡ get_or spots i s
      → last' ≡ cond (is_at_or_below last (location_of s)) last (Some (location_of s))
      → map sight_of kept' ≡ map sight_of kept ++ cond (is_at_or_below last (location_of s)) [] (sight_of s ∷ [])
      → map sight_of kept ++ map (look doc) (topmost_after last (drop i ls)) ≡ map (look doc) (topmost_after None ls)
      → map sight_of kept' ++ map (look doc) (topmost_after last' (drop (i + 1) ls)) ≡ map (look doc) (topmost_after None ls)
  topmost_next doc ls spots kept kept' i s last last' stand within is goes added held =
      let there = spot_there doc ls spots i s stand within in
      let l = there.0 in
      let at : sight_of s ≡ look doc l = ap sight_of is ∙ there.1 in
      let place : location_of s ≡ l = ap (λ (x : Sight). x.0) at in
      let rest = drop (suc i) ls in
      by l rest place at there.2 (is_at_or_below last l) refl refl
    where
      by : (l : Location) (rest : List Location) → location_of s ≡ l → sight_of s ≡ look doc l → drop i ls ≡ l ∷ rest → (b : Bool) → is_at_or_below last l ≡ b → rest ≡ drop (suc i) ls
          → map sight_of kept' ++ map (look doc) (topmost_after last' (drop (i + 1) ls)) ≡ map (look doc) (topmost_after None ls)
      by l rest place at left true covered same =
          let b : is_at_or_below last (location_of s) ≡ true = ap (is_at_or_below last) place ∙ covered in
          let stays : last' ≡ last = goes ∙ ap (λ t. cond t last (Some (location_of s))) b in
          let kept_is : map sight_of kept' ≡ map sight_of kept = added ∙ ap (λ t. map sight_of kept ++ cond t [] (sight_of s ∷ [])) b ∙ append-nil (map sight_of kept) in
          let ahead : topmost_after last (drop i ls) ≡ topmost_after last rest = ap (topmost_after last) left ∙ ap (λ t. cond t (topmost_after last rest) (l ∷ topmost_after (Some l) rest)) covered in
          rw (add-one, kept_is, stays) (ap (λ (ms : List Location). map sight_of kept ++ map (look doc) (topmost_after last ms)) (sym same) ∙ ap (λ (ms : List Location). map sight_of kept ++ map (look doc) ms) (sym ahead) ∙ held)
      by l rest place at left false free same =
          let b : is_at_or_below last (location_of s) ≡ false = ap (is_at_or_below last) place ∙ free in
          let new : last' ≡ Some l = goes ∙ ap (λ t. cond t last (Some (location_of s))) b ∙ ap (λ (m : Location). let o : Option Location = Some m in o) place in
          let kept_is : map sight_of kept' ≡ map sight_of kept ++ look doc l ∷ [] = added ∙ ap (λ t. map sight_of kept ++ cond t [] (sight_of s ∷ [])) b ∙ ap (λ (x : Sight). map sight_of kept ++ x ∷ []) at in
          let ahead : topmost_after last (drop i ls) ≡ l ∷ topmost_after (Some l) rest = ap (topmost_after last) left ∙ ap (λ t. cond t (topmost_after last rest) (l ∷ topmost_after (Some l) rest)) free in
          rw (add-one, kept_is, new) (append_assoc (map sight_of kept) (look doc l ∷ []) (map (look doc) (topmost_after (Some l) (drop (suc i) ls)))
          ∙ ap (λ (ms : List Location). map sight_of kept ++ look doc l ∷ map (look doc) (topmost_after (Some l) ms)) (sym same)
          ∙ ap (λ (ms : List Location). map sight_of kept ++ map (look doc) ms) (sym ahead) ∙ held)

  pub clone_next : (spots same same' : List Node) (i : ℕ) (s copy : Node) → i < length spots → s ≡ get_or spots i s → sight_of copy ≡ sight_of s → same' ≡ same ++ copy ∷ []
      → map sight_of same ≡ map sight_of (take i spots) → map sight_of same' ≡ map sight_of (take (i + 1) spots)
  clone_next spots same same' i s copy within is shows more before =
      let taken : take (i + 1) spots ≡ take i spots ++ s ∷ [] = take_more spots i s within ∙ ap (λ (y : Node). take i spots ++ y ∷ []) (sym is) in
      ap (map sight_of) more ∙ map-append sight_of same (copy ∷ []) ∙ ap₂ (λ (xs : List Sight) (x : Sight). xs ++ x ∷ []) before shows
      ∙ sym (ap (map sight_of) taken ∙ map-append sight_of (take i spots) (s ∷ []))

  pub topmost_done : (doc : Document) (ls : List Location) (spots kept : List Node) (i : ℕ) (last : Option Location) → StandAt doc ls spots → length spots ≤ i
      → map sight_of kept ++ map (look doc) (topmost_after last (drop i ls)) ≡ map (look doc) (topmost_after None ls) → map sight_of kept ≡ map (look doc) (topmost_after None ls)
  topmost_done doc ls spots kept i last stand over held =
      let same : length ls ≡ length spots = sym (length-map ls (look doc)) ∙ sym (ap length stand) ∙ length-map spots sight_of in
      let none : drop i ls ≡ [] = drop_of_length-le ls {i = i} (omega (arith, same)) in
      sym (append-nil (map sight_of kept)) ∙ ap (λ (ms : List Location). map sight_of kept ++ map (look doc) (topmost_after last ms)) (sym none) ∙ held

  -- ---- spots that stand in order as they are

  pub order_kept : (doc : Document) (ls : List Location) (spots found : List Node) → StandAt doc ls spots → map sight_of found ≡ map sight_of spots
      → IsStrictlySortedBy location_cmp (map location_of spots) → StandAt doc (once_in_order ls) found
  order_kept doc ls spots found stand same ordered = grind (arith, locations-StandAt, once_sorted)
