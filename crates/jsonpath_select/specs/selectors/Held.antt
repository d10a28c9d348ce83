-- What a selector and an update type hold, a path or none and a value or none, and what a selector answers by that.
use Rattle.std.specs.Prelude.{◌≡◌, ℕ, List, length, map, true, false, Option, Some, None, IsSome, option_map, refl, String}
use Rattle.std.specs.declared.alloc.Global.{Global}
use Rattle.std.specs.Coded.{Coded, code_by, coded×, coded_ℕ, coded_list, coded_option}
use Rattle.serde_json.specs.Data.{Data}
use Rattle.jsonpath_nodes.specs.document.Document.{Document}
use Rattle.serde_json.specs.contracts.value.Value as value
use Rattle.jsonpath_nodes.specs.document.OfData.{document_of, value_document}
use Rattle.serde_json.specs.declared.value.Value.{Value}
use Rattle.jsonpath_nodes.specs.place.Location.{Location}
use Rattle.jsonpath_nodes.specs.place.SpotPlace.{Spot}
use Rattle.jsonpath_select.specs.Meaning.{Selects, SelectsAt, SelectsSpots}
use Rattle.jsonpath_select.specs.ErrorCases.{ByCase, NoMessage}
use Rattle.jsonpath_select.specs.answer.AnswerText.{list_text, holds_unread, SaysUnread}
use Rattle.jsonpath_select.specs.declared.selectors.walked_path.WalkedPath.{WalkedPath}
use Rattle.jsonpath_select.specs.declared.selectors.walked_path.WalkedPath.TheVariants.{Own, Lent}
use Rattle.jsonpath_select.specs.declared.error.JsonPathError.{JsonPathError}

-- ---- what is held

-- the text of a path, and a value
pub record Held : Type 0 where
  pub path : Option (List ℕ)
  pub value : Option Value

-- its code, by which proofs tell its values apart
abbrev pub held_code : Coded Held
held_code =
    code_by (Option (List ℕ) × Option Value) (coded× (coded_option (coded_list coded_ℕ)) (coded_option value.the_row.coded)) (λ h. (h.path, h.value)) (λ p. record { path = p.0; value = p.1 }) (λ _. refl)

-- the document that the value stands for
abbrev pub document : Held → Option Document
document h = option_map value_document h.value

-- the text of a path of its own, or of one that is lent
abbrev pub text_held : WalkedPath → List ℕ
text_held (Own node) = node
text_held (Lent node) = node.now

-- ---- what is answered

-- spots at what the held path selects in the held value
abbrev pub AreSpotsFor : Option (List ℕ) → Option Document → List Spot → Type 0
AreSpotsFor None value spots = ⊥
AreSpotsFor (Some path) None spots = ⊥
AreSpotsFor (Some path) (Some value) spots = SelectsSpots path value spots

-- the locations that the held path selects in the held value
abbrev pub AreLocationsFor : Option (List ℕ) → Option Document → List Location → Type 0
AreLocationsFor None value locations = ⊥
AreLocationsFor (Some path) None locations = ⊥
AreLocationsFor (Some path) (Some value) locations = SelectsAt path value locations

-- the values that the held path selects in the held value
abbrev pub AreValuesFor : Option (List ℕ) → Option Document → List Document → Type 0
AreValuesFor None value values = ⊥
AreValuesFor (Some path) None values = ⊥
AreValuesFor (Some path) (Some value) values = Selects path value values

-- their text
abbrev pub IsTextFor : Option (List ℕ) → Option Document → List ℕ → Type 0
IsTextFor path value text = (values : List Data) × AreValuesFor path value (map document_of values) × (list_text values ≡ Some text)

-- so many values are selected, and no unread number stands in them
abbrev pub IsCountFor : Option (List ℕ) → Option Document → ℕ → Type 0
IsCountFor path value count = (values : List Data) × AreValuesFor path value (map document_of values) × (count ≡ length values) × (holds_unread values ≡ false)

-- ---- how a call is refused: for a missing path first, then for a missing value, and for memory only where both are held

abbrev pub IsRefusedHeld : Option (List ℕ) → Option Document → (String Global → Type 0) → JsonPathError → Type 0
IsRefusedHeld path value serde error = ByCase (path ≡ None) (IsSome path × (value ≡ None)) NoMessage serde (IsSome path × IsSome value) error

abbrev pub IsSelectRefused : Option (List ℕ) → Option Document → JsonPathError → Type 0
IsSelectRefused path value error = IsRefusedHeld path value NoMessage error

-- the text is also refused, with the message for an unread number, exactly where one stands in the selected values
abbrev pub IsTextRefusedFor : Option (List ℕ) → Option Document → JsonPathError → Type 0
IsTextRefusedFor path value error =
    IsRefusedHeld path value (λ message. (values : List Data) × AreValuesFor path value (map document_of values) × (list_text values ≡ None) × SaysUnread message) error

-- typed values are also refused for an unread number, which the message then names, or by `serde_json`
abbrev pub IsTypedRefusedFor : Option (List ℕ) → Option Document → JsonPathError → Type 0
IsTypedRefusedFor path value error =
    IsRefusedHeld path value (λ message. (values : List Data) × AreValuesFor path value (map document_of values) × (holds_unread values ≡ true → SaysUnread message)) error
