-- A text of which some parts have given way to other bytes, and that these are what stands at the targets.
use Rattle.std.specs.Prelude.{◌≡◌, ℕ, ◌-◌, ◌≤◌, List, [], ◌∷◌, ◌++◌, length, map, flat_map, count_by, slice_index, slice_range, false, ◌==◌, ◌||◌, Option, Some, None, IsPermutation}
use Rattle.std.specs.List.{AllPass}
use Rattle.json.specs.Json.{Json, string}
use Rattle.json.specs.Word.{is_space}
use Rattle.jsonpath_nodes.specs.document.Document.{Document}
use Rattle.jsonpath_nodes.specs.place.Location.{Step, name, index, Location}
use Rattle.jsonpath_nodes.specs.step.SameMembers.{topmost}
use Rattle.jsonpath_nodes.specs.update.Topmost.{with_answer_at_topmost}
use Rattle.json_trees.specs.Exact.{exact_of}
use Rattle.json_trees.specs.ExactAt.{exact_at, values_by}
use Rattle.json_trees.specs.ExactDocument.{exact_document}
use Rattle.jpath_edits.specs.declared.change.Change.{Change}
use Rattle.jpath_edits.specs.declared.change.Change.TheVariants.{Put, Take}
use Rattle.jpath_edits.specs.declared.parts.part.Part.{Part}

-- a stretch of a text that stays, and the part behind it that goes
pub record Cut : Type 0 where
  pub kept : List ℕ
  pub gone : List ℕ

-- the stretches that stay, each with the part behind it
abbrev pub whole : List Cut → List ℕ
whole cuts = flat_map (λ c. c.kept ++ c.gone) cuts

-- the same with these bytes in place of each part
abbrev pub replaced : List ℕ → List Cut → List ℕ
replaced put cuts = flat_map (λ c. c.kept ++ put) cuts

-- Some parts of the text gave way to these bytes; every other byte stays, in its order.
pub record IsSpliced (put text written : List ℕ) : Type 0 where
  pub cuts : List Cut
  pub rest : List ℕ
  pub before : text ≡ whole cuts ++ rest
  pub after : written ≡ replaced put cuts ++ rest

-- the text of a part
abbrev pub part_text : List ℕ → Part → List ℕ
part_text text part = slice_range text part.start part.end

-- Just these parts of the text gave way to these bytes.
pub record IsSplicedAt (parts : List Part) (put text written : List ℕ) : Type 0 where
  pub spliced : IsSpliced put text written
  pub gone : map (λ c. c.gone) spliced.cuts ≡ map (part_text text) parts

-- no blank stands at either end
abbrev pub IsBare : List ℕ → Type 0
IsBare text = (is_space (slice_index text 0) ≡ false) × (is_space (slice_index text (length text - 1)) ≡ false)

-- The text is that of the value that stands at the location, with no blank around it.
abbrev pub IsTextAt : Json → Location → List ℕ → Type 0
IsTextAt tree l text = (j : Json) × (exact_of text ≡ Some j) × (exact_at tree l ≡ Some j) × IsBare text

-- Each text is that of the value that stands at the location beside it, and there are as many as locations.
abbrev pub AreTextsAt : Json → List Location → List (List ℕ) → Type 0
AreTextsAt tree [] [] = Unit {0}
AreTextsAt tree [] (text ∷ texts) = ⊥
AreTextsAt tree (l ∷ ls) [] = ⊥
AreTextsAt tree (l ∷ ls) (text ∷ texts) = IsTextAt tree l text × AreTextsAt tree ls texts

-- Blanks, and so many of this byte among them.
pub record IsBlankBut (mark count : ℕ) (text : List ℕ) : Type 0 where
  pub blank : AllPass (λ x. is_space x || x == mark) text
  pub marks : count_by (λ x. x == mark) text ≡ count

-- blanks, with at most one comma among them
abbrev pub IsEdge : List ℕ → Type 0
IsEdge text = (commas : ℕ) × (commas ≤ 1) × IsBlankBut 44 commas text

-- The text is a name with its colon.
pub record IsNameText (key text : List ℕ) : Type 0 where
  pub word : List ℕ
  pub colon : List ℕ
  pub parts : text ≡ word ++ colon
  pub read : exact_of word ≡ Some (string key)
  pub one_colon : IsBlankBut 58 1 colon

-- what stands before the value that a step leads to: of a member its name and colon, of an item nothing
abbrev pub IsLabel : Step → List ℕ → Type 0
IsLabel (name k) text = IsNameText k text
IsLabel (index i) text = text ≡ []

-- The text is a member or an item: its value, behind its name and colon where it is a member, and at either end blanks with at most one comma.
pub record IsChildText (step : Step) (j : Json) (text : List ℕ) : Type 0 where
  pub before : List ℕ
  pub label : List ℕ
  pub own : List ℕ
  pub behind : List ℕ
  pub parts : text ≡ before ++ (label ++ (own ++ behind))
  pub begins : IsEdge before
  pub labelled : IsLabel step label
  pub read : exact_of own ≡ Some j
  pub ends : IsEdge behind

-- The texts begin with the members or items that have these values, in their order; the others stand behind these.
abbrev pub AreChildrenBefore : Step → List Json → List (List ℕ) → List (List ℕ) → Type 0
AreChildrenBefore step [] texts others = texts ≡ others
AreChildrenBefore step (j ∷ js) [] others = ⊥
AreChildrenBefore step (j ∷ js) (text ∷ texts) others = IsChildText step j text × AreChildrenBefore step js texts others

-- The texts begin with the members or the item at the location; the others stand behind these.
pub record IsTakenBefore (tree : Json) (l : Location) (texts others : List (List ℕ)) : Type 0 where
  pub above : Location
  pub step : Step
  pub last : l ≡ above ++ step ∷ []
  pub parent : Json
  pub stands : exact_at tree above ≡ Some parent
  pub children : AreChildrenBefore step (values_by step parent) texts others

-- The texts are the members and items at the locations, in their order, each of the members of a name that comes again.
abbrev pub AreTakenAt : Json → List Location → List (List ℕ) → Type 0
AreTakenAt tree [] texts = texts ≡ []
AreTakenAt tree (l ∷ ls) texts = (others : List (List ℕ)) × IsTakenBefore tree l texts others × AreTakenAt tree ls others

-- the locations but the root, which in document order comes first
abbrev pub below_root : List Location → List Location
below_root [] = []
below_root ([] ∷ ls) = ls
below_root ((s ∷ l) ∷ ls) = (s ∷ l) ∷ ls

-- what takes the place of each part: the text of a value, or nothing
abbrev pub put_by : Change → List ℕ
put_by (Put text) = text.now
put_by Take = []

-- The texts give way at these locations: where a value is put, they are the texts of what stands there; where it is taken, the members and items there.
abbrev pub GiveWayAt : Change → Json → List Location → List (List ℕ) → Type 0
GiveWayAt (Put new) tree locations texts = AreTextsAt tree locations texts
GiveWayAt Take tree locations texts = AreTakenAt tree locations texts

-- The same at the topmost of these locations, whatever the order in which the texts stand.
pub record GiveWay (change : Change) (tree : Json) (locations : List Location) (texts : List (List ℕ)) : Type 0 where
  pub ordered : List (List ℕ)
  pub same : IsPermutation texts ordered
  pub there : GiveWayAt change tree (topmost locations) ordered

-- What gave way in the text is what stands at the topmost of the locations below the root; every other byte stays, in its order.
pub record IsChangedAt (change : Change) (tree : Json) (locations : List Location) (text written : List ℕ) : Type 0 where
  pub spliced : IsSpliced (put_by change) text written
  pub parts : GiveWay change tree (below_root locations) (map (λ c. c.gone) spliced.cuts)

-- Read again, the text is the document, its numbers as they are written, with the answer at the topmost of the locations below the root.
abbrev pub ReadsWith : Option Document → List Location → Json → List ℕ → Type 0
ReadsWith answer ls before written = (after : Json) × (exact_of written ≡ Some after) × (exact_document after ≡ with_answer_at_topmost answer ls (exact_document before))

-- The same with a value, whose text is JSON, or without what stands there.
abbrev pub ReadsChanged : Change → List Location → Json → List ℕ → Type 0
ReadsChanged (Put text) ls before written = (value : Json) × (exact_of text.now ≡ Some value) × ReadsWith (Some (exact_document value)) ls before written
ReadsChanged Take ls before written = ReadsWith None ls before written
