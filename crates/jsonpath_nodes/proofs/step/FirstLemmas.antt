-- Each location once, at its first place: spot by spot, with the set of the locations that were kept.
use Rattle.std.proofs.Common.{◌≡◌, ℕ, List, [], ◌∷◌, ◌++◌, map, Bool, true, false, cond, not, refl, sym, ap, ap₂, ◌∙◌, append-nil, arith}
use Rattle.std.specs.List.{list_any}
use Rattle.std.specs.BTreeSet.{BTreeSet, contains}
use Rattle.std.specs.Bool.{OnFalse}
use Rattle.std.proofs.lemmas.List.{map-append}
use Rattle.std.proofs.lemmas.List.Folds.{list_any-append}
use Rattle.jsonpath_nodes.specs.document.Document.{Document}
use Rattle.jsonpath_nodes.specs.place.Location.{Location, location_cmp, is_same}
use Rattle.jsonpath_nodes.specs.step.Steps.{each_once}
use Rattle.jsonpath_nodes.specs.place.SpotPlace.{look, place_location, place_sight}
use Rattle.jsonpath_nodes.specs.declared.place.spot.TreeNode.{TreeNode}
use Rattle.jsonpath_nodes.proofs.place.SightLemmas.{Sight}
use Rattle.jsonpath_nodes.proofs.place.OrderedSpotLemmas.{looked}
use Rattle.jsonpath_nodes.proofs.step.RepeatLemmas.{each_once_after-append}
use Rattle.jsonpath_nodes.proofs.step.SeparateLemmas.{same_turned}

module _ {T N : Type 0} (bytes : N → List ℕ) (content : T → Document) where
  abbrev Node : Type 0
  Node = TreeNode T N

  abbrev location_of : Node → Location
  location_of = place_location bytes

  abbrev sight_of : Node → Sight
  sight_of = place_sight bytes content

  -- the nodes stand at these locations of the document
  abbrev StandAt : Document → List Location → List Node → Type 0
  StandAt doc ls nodes = map sight_of nodes ≡ map (look doc) ls

  abbrev StandsAt : Document → Location → Node → Type 0
  StandsAt doc l node = sight_of node ≡ look doc l

  -- ---- where spots stand

  -- the locations of spots
  abbrev pub places : List Node → List Location
  places spots = map (λ (x : Sight). x.0) (map sight_of spots)

  places-StandAt : (doc : Document) (ls : List Location) (spots : List Node) → StandAt doc ls spots → places spots ≡ ls
  places-StandAt doc ls spots stand = ap (map (λ (x : Sight). x.0)) stand ∙ looked bytes content doc ls

  last_of : (doc : Document) (ls : List Location) (spots : List Node) (s : Node) → StandAt doc ls (spots ++ s ∷ [])
      → (ms : List Location) × (l : Location) × (ls ≡ ms ++ l ∷ []) × StandAt doc ms spots × StandsAt doc l s
  last_of doc [] (x ∷ spots) s h = cc
  last_of doc (l ∷ []) [] s h = ([], l, refl, refl, cc)
  last_of doc (l ∷ ls) (x ∷ spots) s h =
      let here : sight_of x ≡ look doc l = cc in
      let later : StandAt doc ls (spots ++ s ∷ []) = cc in
      let rest = last_of doc ls spots s later in
      (l ∷ rest.0, rest.1, ap (λ (ms : List Location). l ∷ ms) rest.2, ap₂ (λ (y : Sight) (ys : List Sight). y ∷ ys) here rest.3, rest.4)
  last_of doc _ [] s h = cc

  -- ---- the loop

  kept_by : (doc : Document) (b added : Bool) (l : Location) (s : Node) (ms : List Location) (kept kept' : List Node) → StandAt doc ms kept → StandsAt doc l s → added ≡ not b
      → map sight_of kept' ≡ map sight_of kept ++ cond added (sight_of s ∷ []) [] → StandAt doc (ms ++ cond b [] (l ∷ [])) kept'
  kept_by doc b added l s ms kept kept' stand here is more = grind (arith, map-append)

  pub firsts_next : (s : Node) (added : Bool) (given kept kept' : List Node) → ((doc : Document) (ls : List Location) → StandAt doc ls given → StandAt doc (each_once ls) kept)
      → added ≡ not (list_any (is_same (location_of s)) (places kept)) → map sight_of kept' ≡ map sight_of kept ++ cond added (sight_of s ∷ []) []
      → (doc : Document) (ls : List Location) → StandAt doc ls (given ++ s ∷ []) → StandAt doc (each_once ls) kept'
  firsts_next s added given kept kept' before is more doc ls stand = grind (arith, each_once_after-append, kept_by, last_of, places-StandAt)

  -- ---- the set

  any-snoc : (test : Location → Bool) (ls : List Location) (l : Location) → list_any test (ls ++ l ∷ []) ≡ cond (test l) true (list_any test ls)
  any-snoc test ls l = grind (arith, list_any-append)

  kept_places : (added : Bool) (s : Node) (kept kept' : List Node) → map sight_of kept' ≡ map sight_of kept ++ cond added (sight_of s ∷ []) [] → places kept' ≡ places kept ++ cond added (location_of s ∷ []) []
  kept_places added s kept kept' more = grind (arith, map-append)

  -- the set holds exactly the locations that were kept
  abbrev pub Holds : BTreeSet Location → List Node → Type 0
  Holds set kept = (m : Location) → contains location_cmp set m ≡ list_any (is_same m) (places kept)

  pub held_next : (s : Node) (k : Location) (added : Bool) (old new : BTreeSet Location) (kept kept' : List Node) → k ≡ location_of s → Holds old kept
      → ((m : Location) → contains location_cmp new m ≡ cond (is_same k m) true (contains location_cmp old m)) → OnFalse added (new.keys ≡ old.keys)
      → map sight_of kept' ≡ map sight_of kept ++ cond added (sight_of s ∷ []) [] → Holds new kept'
  held_next s k true old new kept kept' is before updated same more m =
      updated m ∙ ap₂ (λ (a b : Bool). cond a true b) (same_turned k m ∙ ap (is_same m) is) (before m)
      ∙ sym (ap (list_any (is_same m)) (kept_places true s kept kept' more) ∙ any-snoc (is_same m) (places kept) (location_of s))
  held_next s k false old new kept kept' is before updated same more m =
      ap (list_any (is_same m)) same ∙ before m ∙ sym (ap (list_any (is_same m)) (kept_places false s kept kept' more ∙ append-nil (places kept)))

  -- ---- before the loop

  pub nothing_yet : (doc : Document) (ls : List Location) (kept : List Node) → kept ≡ [] → StandAt doc ls [] → StandAt doc (each_once ls) kept
  nothing_yet doc [] kept none h = ap (map sight_of) none
  nothing_yet doc (l ∷ ls) kept none h = cc

  pub held_nothing : (set : BTreeSet Location) (kept : List Node) → set.keys ≡ [] → kept ≡ [] → Holds set kept
  held_nothing set kept empty none m = ap (list_any (is_same m)) empty ∙ sym (ap (λ (ss : List Node). list_any (is_same m) (places ss)) none)
