-- How an answer is given, as text or as typed values, and how it is refused.
use Rattle.std.specs.Prelude.{◌≡◌, ℕ, List, length, map, true, false, Some, None}
use Rattle.serde_json.specs.Data.{Data}
use Rattle.jsonpath_nodes.specs.document.Document.{Document}
use Rattle.jsonpath_nodes.specs.document.OfData.{document_of}
use Rattle.jsonpath_select.specs.answer.AnswerText.{list_text, holds_unread, IsUnreadError}
use Rattle.jsonpath_select.specs.declared.error.JsonPathError.{JsonPathError}
use Rattle.jsonpath_select.specs.declared.error.JsonPathError.TheVariants.{EmptyPath, EmptyValue, Path, Serde, OutOfMemory}

-- the text of the values answered
abbrev pub IsTextOfAnswer : (List Document → Type 0) → List ℕ → Type 0
IsTextOfAnswer Answers text = (values : List Data) × Answers (map document_of values) × (list_text values ≡ Some text)

-- so many values are answered, and no unread number stands in them
abbrev pub IsTypedCountOf : (List Document → Type 0) → ℕ → Type 0
IsTypedCountOf Answers count = (values : List Data) × Answers (map document_of values) × (count ≡ length values) × (holds_unread values ≡ false)

-- how an answer is refused a text: it has none, for an unread number, or memory ran out
abbrev pub IsTextRefusedOf : (List Document → Type 0) → JsonPathError → Type 0
IsTextRefusedOf Answers EmptyPath = ⊥
IsTextRefusedOf Answers EmptyValue = ⊥
IsTextRefusedOf Answers (Path message) = ⊥
IsTextRefusedOf Answers (Serde message) = (values : List Data) × Answers (map document_of values) × (list_text values ≡ None) × IsUnreadError (Serde message)
IsTextRefusedOf Answers OutOfMemory = Unit {0}

-- how typed values are refused: for an unread number, which the message then names, by `serde_json`, or memory ran out
abbrev pub IsTypedRefusedOf : (List Document → Type 0) → JsonPathError → Type 0
IsTypedRefusedOf Answers EmptyPath = ⊥
IsTypedRefusedOf Answers EmptyValue = ⊥
IsTypedRefusedOf Answers (Path message) = ⊥
IsTypedRefusedOf Answers (Serde message) = (values : List Data) × Answers (map document_of values) × (holds_unread values ≡ true → IsUnreadError (Serde message))
IsTypedRefusedOf Answers OutOfMemory = Unit {0}
