-- What leads on: the places after each step of a path, those of them from which the later steps lead somewhere, and how the code
-- holds them.
use Rattle.std.specs.Prelude.{◌≡◌, ◌<◌, ℕ, suc, Bool, false, List, [], ◌∷◌, filter, length, take, drop}
use Rattle.std.specs.List.{list_any}
use Rattle.std.proofs.Math.ListN.{get_or}
use Rattle.jsonpath_nodes.specs.document.Document.{Document}
use Rattle.jsonpath_nodes.specs.place.Location.{Location, is_same}
use Rattle.jsonpath_nodes.specs.place.Order.{once_in_order}
use Rattle.jsonpath_paths.specs.tree.Tree.{Inner, lone, path}
use Rattle.jsonpath_paths.specs.tree.View.{inner_of, steps_of_list}
use Rattle.jsonpath_paths.specs.declared.tree.parser_node.ParserStep.{ParserStep}
use Rattle.jsonpath_select.specs.Meaning.{holds, is_some_location}
use Rattle.jsonpath_select.specs.plan.Machine.{Tagged, places}
use Rattle.jsonpath_select.specs.plan.Walk.{led_in, set_after}
use Rattle.jsonpath_select.specs.plan.Shown.{Shows}
use Rattle.jsonpath_select.specs.declared.tagged.marks.TaggedMarks.{TaggedMarks}

-- the set of the places after some steps
abbrev pub set_along : Bool → List ℕ → Document → List ParserStep → List Location → List Location
set_along sets text doc [] ls = ls
set_along sets text doc (s ∷ ss) ls = set_along sets text doc ss (set_after sets text doc (inner_of s.inner) s.leaves ls)

-- .. after the first n steps from the root
abbrev pub set_from_root : Bool → List ℕ → Document → List ParserStep → ℕ → List Location
set_from_root sets text doc ss n = set_along sets text doc (take n ss) ([] ∷ [])

-- whether the steps behind the first n lead somewhere
abbrev pub leads_on : List ℕ → Document → List ParserStep → ℕ → Location → Bool
leads_on text doc ss n l = holds text doc (lone (path false (steps_of_list (drop n ss)))) l

-- the places after the first n steps from which the others lead somewhere
abbrev pub leading_from_root : Bool → List ℕ → Document → List ParserStep → ℕ → List Location
leading_from_root sets text doc ss n = filter (leads_on text doc ss n) (set_from_root sets text doc ss n)

abbrev pub is_among : List Location → Location → Bool
is_among ms l = list_any (is_same l) (once_in_order ms)

-- those places from which a step leads to one of the others
abbrev pub leading_to : Bool → List ℕ → Document → Inner → Bool → List Location → List Location → List Location
leading_to sets text doc inner leaves ms ls = filter (λ c. is_some_location (filter (is_among ms) (led_in sets text doc inner leaves (c ∷ [])))) ls

-- ---- how they are held

-- the marks stand at these places, whatever their tags are
abbrev pub AreAt : {M : Type 0} → Bool → (M → Location) → (M → Document) → Document → List Location → TaggedMarks M → Type 0
AreAt b stand content doc ls found = (ps : List Tagged) × Shows b stand content doc ps found × (places ps ≡ ls)

-- after each step there are marks at the places that f gives for the number of steps
abbrev pub AreAfterEach : {M : Type 0} → Bool → (M → Location) → (M → Document) → Document → (ℕ → List Location) → List (TaggedMarks M) → Type 0
AreAfterEach {M} b stand content doc f all = (k : ℕ) (t : TaggedMarks M) → k < length all → AreAt b stand content doc (f (suc k)) (get_or all k t)
