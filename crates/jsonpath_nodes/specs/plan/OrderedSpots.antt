-- Nodes beside the steps to them.
use Rattle.std.specs.Prelude.{◌≡◌, ℕ, List, map, reverse, Option, Some, None, option_map, Bool, true}
use Rattle.std.specs.Ordering.{is_lt}
use Rattle.jsonpath_nodes.specs.document.Document.{Document}
use Rattle.jsonpath_nodes.specs.place.Location.{Location, location_cmp}
use Rattle.jsonpath_nodes.specs.place.SpotPlace.{look, place_sight}
use Rattle.jsonpath_nodes.specs.plan.Way.{down_step}
use Rattle.jsonpath_nodes.specs.declared.place.document_order.OrderedSpot.{OrderedSpot}
use Rattle.jsonpath_nodes.specs.declared.step.descends.DownStep.{DownStep}
use Rattle.std.specs.Global.{Vec}

-- the location whose steps are these, the last one first
abbrev pub from_top : {N : Type 0} → (N → List ℕ) → List (DownStep N) → Location
from_top bytes up = reverse (map (down_step bytes) up)

abbrev pub ordered_spot_location : {T N : Type 0} → (N → List ℕ) → OrderedSpot T N → Location
ordered_spot_location bytes p = from_top bytes p.up.items

abbrev pub ordered_spot_sight : {T N : Type 0} → (N → List ℕ) → (T → Document) → OrderedSpot T N → Location × Option Document
ordered_spot_sight bytes content p = place_sight bytes content p.spot

-- what is held is what the document has at the location
abbrev pub IsShownIn : {T N : Type 0} → (N → List ℕ) → (T → Document) → Document → OrderedSpot T N → Type 0
IsShownIn bytes content doc p = ordered_spot_sight bytes content p ≡ look doc (ordered_spot_location bytes p)

-- the location whose steps are held, if there are any
abbrev pub last_location : {N : Type 0} → (N → List ℕ) → Option (Vec (DownStep N)) → Option Location
last_location {N} bytes last = option_map (λ (up : Vec (DownStep N)). from_top bytes up.items) last

-- whether a location comes behind the one before it, if there is one
abbrev pub comes_behind : Option Location → Location → Bool
comes_behind None l = true
comes_behind (Some before) l = is_lt (location_cmp before l)
