-- What a list of marks stands for: of each location the marks keep all (spots) or nothing (references), and of each the value there.
use Rattle.std.specs.Prelude.{◌≡◌, ℕ, ◌+◌, length, List, [], ◌∷◌, ◌++◌, map, flat_map, Bool, true, false, Option, Some}
use Rattle.jsonpath_nodes.specs.document.Document.{Document}
use Rattle.jsonpath_nodes.specs.place.Location.{Location, at}

-- what a mark keeps of a location: all of it, or nothing
abbrev pub kept_location : Bool → Location → Location
kept_location true l = l
kept_location false l = []

-- what a mark shows, by where it stands and the value it has
abbrev pub shown : {M : Type 0} → (M → Location) → (M → Document) → M → Location × Option Document
shown stand content m = (stand m, Some (content m))

-- what marks at a location of a document show
abbrev pub look_kept : Bool → Document → Location → Location × Option Document
look_kept b doc l = (kept_location b l, at doc l)

-- what marks show at a location that goes on by m from l, where the value d stands
abbrev pub look_kept_from : Bool → Location → Document → Location → Location × Option Document
look_kept_from b l d m = (kept_location b (l ++ m), at d m)

-- the marks stand at these locations of the document, in this order, and hold what it has there
abbrev pub MarksStandAt : {M : Type 0} → Bool → (M → Location) → (M → Document) → Document → List Location → List M → Type 0
MarksStandAt b stand content doc ls marks = map (shown stand content) marks ≡ map (look_kept b doc) ls

-- in each document, wherever the first marks stand, the found ones stand where f leads from there
abbrev pub MarksLeadBy : {M : Type 0} → Bool → (M → Location) → (M → Document) → (Document → List Location → List Location) → List M → List M → Type 0
MarksLeadBy b stand content f marks found = (doc : Document) → (ls : List Location) → MarksStandAt b stand content doc ls marks → MarksStandAt b stand content doc (f doc ls) found

-- a list of marks has gained what f sees of the value d at the location l
abbrev pub MarksGain : {M : Type 0} → Bool → (M → Location) → (M → Document) → (Document → List Location) → Location → Document → List M → List M → Type 0
MarksGain b stand content f l d before after = map (shown stand content) after ≡ map (shown stand content) before ++ map (look_kept_from b l d) (f d)

-- a list of marks has gained one, which keeps what it keeps of the location l, and has the value d
abbrev pub MarksGainOne : {M : Type 0} → Bool → (M → Location) → (M → Document) → Location → Document → List M → List M → Type 0
MarksGainOne b stand content l d before after = map (shown stand content) after ≡ map (shown stand content) before ++ (kept_location b l, Some d) ∷ []

-- in each document, wherever the marks stand, a list has gained so many, which stand where f leads from there
abbrev pub MarksGainBy : {M : Type 0} → Bool → (M → Location) → (M → Document) → (Document → List Location → List Location) → List M → List M → List M → Type 0
MarksGainBy b stand content f marks before after =
    (n : ℕ) × (length after ≡ length before + n)
    × ((doc : Document) (ls : List Location) → MarksStandAt b stand content doc ls marks → map (shown stand content) after ≡ map (shown stand content) before ++ map (look_kept b doc) (f doc ls))

-- what f sees from each mark
abbrev pub seen_from_each : {M : Type 0} → Bool → (M → Location) → (M → Document) → (Document → List Location) → List M → List (Location × Option Document)
seen_from_each b stand content f marks = flat_map (λ m. map (look_kept_from b (stand m) (content m)) (f (content m))) marks
