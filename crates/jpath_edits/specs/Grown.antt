-- A document in which something was made: a member at an object's end, an item at a list's end, or a name in place of another; and its text.
use Rattle.std.specs.Prelude.{◌≡◌, ℕ, zero, suc, ◌-◌, ◌||◌, List, [], ◌∷◌, ◌++◌, length, map, flat_map, take, slice_range, Bool, true, false, if◌then◌else◌, Some}
use Rattle.std.specs.Str.{bytes_eq}
use Rattle.json.specs.Json.{Json, string, array, object, Items, no_items, item, Members, no_members, member}
use Rattle.json.specs.Tree.{HasNumbers}
use Rattle.json.specs.Value.{value_view}
use Rattle.jsonpath_nodes.specs.place.Location.{name, index, Location}
use Rattle.jsonpath_nodes.specs.step.SameMembers.{topmost}
use Rattle.json_trees.specs.Exact.{exact_of}
use Rattle.jpath_edits.specs.declared.growth.Growth.{Growth}
use Rattle.jpath_edits.specs.declared.growth.Growth.TheVariants.{Member, Item, Name}
use Rattle.jpath_edits.specs.declared.growth.seam.Seam.{Seam}

-- ---- in one object or list

abbrev pub has_name : List ℕ → Members → Bool
has_name k no_members = false
has_name k (member m j ms) = bytes_eq k m || has_name k ms

abbrev pub with_last_item : Json → Items → Items
with_last_item v no_items = item v no_items
with_last_item v (item j js) = item j (with_last_item v js)

abbrev pub with_last_member : List ℕ → Json → Members → Members
with_last_member k v no_members = member k v no_members
with_last_member k v (member m j ms) = member m j (with_last_member k v ms)

-- the members and one more of a name that none of them has
unfoldable pub with_member : List ℕ → Json → Members → Members
with_member k v ms = if has_name k ms then ms else with_last_member k v ms

abbrev pub each_renamed : List ℕ → List ℕ → Members → Members
each_renamed k n no_members = no_members
each_renamed k n (member m j ms) = member (if bytes_eq k m then n else m) j (each_renamed k n ms)

-- the members, those of a name with another one that none of them has
unfoldable pub with_name : List ℕ → List ℕ → Members → Members
with_name k n ms = if has_name n ms then ms else each_renamed k n ms

-- what is made in an object or a list; all else stays as it is
abbrev pub grown_here : Growth → Json → Json
grown_here (Member k v) (object ms) = object (with_member k.now (value_view v.now) ms)
grown_here (Member k v) j = j
grown_here (Item v) (array js) = array (with_last_item (value_view v.now) js)
grown_here (Item v) j = j
grown_here (Name k n) (object ms) = object (with_name k.now n.now ms)
grown_here (Name k n) j = j

-- ---- in a document

-- another value in place of an item
abbrev pub in_item : (Json → Json) → ℕ → Items → Items
in_item f i no_items = no_items
in_item f zero (item j js) = item (f j) js
in_item f (suc i) (item j js) = item j (in_item f i js)

-- another value in place of that of the last member of a name
abbrev pub in_member : (Json → Json) → List ℕ → Members → Members
in_member f k no_members = no_members
in_member f k (member m j ms) = if has_name k ms then member m j (in_member f k ms) else (if bytes_eq k m then member m (f j) ms else member m j ms)

abbrev pub in_list : (Json → Json) → ℕ → Json → Json
in_list f i (array js) = array (in_item f i js)
in_list f i j = j

abbrev pub in_object : (Json → Json) → List ℕ → Json → Json
in_object f k (object ms) = object (in_member f k ms)
in_object f k j = j

-- what is made in the object or list at a location
abbrev pub grown : Growth → Location → Json → Json
grown g [] j = grown_here g j
grown g (name k ∷ l) j = in_object (grown g l) k j
grown g (index i ∷ l) j = in_list (grown g l) i j

-- the same at each of these locations
abbrev pub grown_all : Growth → List Location → Json → Json
grown_all g [] j = j
grown_all g (l ∷ ls) j = grown g l (grown_all g ls j)

-- the object or list in which something is made for a location: there, or around a member that gets another name
abbrev pub container_of : Growth → Location → Location
container_of (Member k v) l = l
container_of (Item v) l = l
container_of (Name k n) l = take (length l - 1) l

abbrev pub containers_of : Growth → List Location → List Location
containers_of g ls = map (container_of g) (topmost ls)

-- the position is that of the last member of the name
abbrev pub IsLastNamed : List ℕ → ℕ → Members → Type 0
IsLastNamed k i no_members = ⊥
IsLastNamed k zero (member m j ms) = (bytes_eq k m ≡ true) × (has_name k ms ≡ false)
IsLastNamed k (suc i) (member m j ms) = IsLastNamed k i ms

-- ---- in the text

-- a stretch of a text that stays, the stretch behind it that goes, and what is put there
pub record Filled : Type 0 where
  pub kept : List ℕ
  pub gone : List ℕ
  pub put : List ℕ

-- Each of these stretches gave way to what is put there; every other byte stays, in its order.
pub record IsFilled (text written : List ℕ) : Type 0 where
  pub fills : List Filled
  pub rest : List ℕ
  pub before : text ≡ flat_map (λ f. f.kept ++ f.gone) fills ++ rest
  pub after : written ≡ flat_map (λ f. f.kept ++ f.put) fills ++ rest

-- The stretches are those of the seams.
pub record IsFilledAt (seams : List Seam) (text written : List ℕ) : Type 0 where
  pub filled : IsFilled text written
  pub gone : map (λ f. f.gone) filled.fills ≡ map (λ s. slice_range text s.start s.end) seams

-- what gives way: nothing, or the name that changes
abbrev pub IsGoneFor : Growth → List ℕ → Type 0
IsGoneFor (Member k v) gone = gone ≡ []
IsGoneFor (Item v) gone = gone ≡ []
IsGoneFor (Name k n) gone = exact_of gone ≡ Some (string k.now)

abbrev pub AreGoneFor : Growth → List (List ℕ) → Type 0
AreGoneFor g [] = Unit {0}
AreGoneFor g (gone ∷ more) = IsGoneFor g gone × AreGoneFor g more

-- the value that is made has numbers alone that can be written
abbrev pub CanBeWritten : Growth → Type 0
CanBeWritten (Member k v) = HasNumbers (value_view v.now)
CanBeWritten (Item v) = HasNumbers (value_view v.now)
CanBeWritten (Name k n) = Unit {0}

-- Read again, the text is the document in which this is made for the topmost of the locations, and nothing else; every byte of the text stays, in its order, but those of a name that changes.
pub record IsGrownAt (growth : Growth) (tree : Json) (locations : List Location) (text written : List ℕ) : Type 0 where
  pub filled : IsFilled text written
  pub gone : AreGoneFor growth (map (λ f. f.gone) filled.fills)
  pub reads : exact_of written ≡ Some (grown_all growth (containers_of growth locations) tree)
