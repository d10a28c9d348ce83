-- The document of which a text's tree was read, and the text of what changes make of it.
use Rattle.std.specs.Prelude.{◌≡◌, ℕ, List, length, map, Some, None, true, false}
use Rattle.json.specs.Value.{value_view}
use Rattle.json_trees.specs.AsRead.{document_as_read}
use Rattle.json_trees.specs.declared.printing.Replacement.{Replacement}
use Rattle.json_trees.specs.declared.printing.Replacement.TheVariants.{Null, Nothing}
use Rattle.json_trees.specs.declared.printing.Unprinted.{Unprinted}
use Rattle.json_trees.specs.declared.printing.Unprinted.TheVariants as unprinted
use Rattle.serde_json.specs.Data.{Data}
use Rattle.serde_json.specs.Written.{compact_text}
use Rattle.jsonpath_nodes.specs.document.Document.{Document}
use Rattle.jsonpath_nodes.specs.document.OfData.{document_of}
use Rattle.jsonpath_select.specs.answer.AnswerText.{document_text, holds_unread, SaysUnread, IsUnreadError}
use Rattle.jsonpath_select.specs.ErrorCases.{NoMessage, IsRefusedBy}
use Rattle.jsonpath_select.specs.declared.error.JsonPathError.{JsonPathError}
use Rattle.jsonpath_select.specs.declared.error.JsonPathError.TheVariants.{OutOfMemory}
use Rattle.jsonpath_lib.specs.declared.text.Text.{Text}
use Rattle.jsonpath_lib.specs.update.Masked.{IsMasked, AreRemoved}

-- the text stands for this document of `serde_json`'s
abbrev pub IsTreeOf : Text → Data → Type 0
IsTreeOf text document = document_as_read (value_view text.tree.exact) ≡ document_of document

-- where the documents are those of data, these are the data's compact texts, and no number in them is unread
abbrev pub AreTextsOf : List Document → List (List ℕ) → Type 0
AreTextsOf documents texts = (values : List Data) → map document_of values ≡ documents → (holds_unread values ≡ false) × (texts ≡ map compact_text values)

-- how documents are refused their texts: a number in the data is unread, or memory ran out
abbrev pub AreTextsRefused : List Document → JsonPathError → Type 0
AreTextsRefused documents error = IsRefusedBy NoMessage (λ message. ((values : List Data) → map document_of values ≡ documents → holds_unread values ≡ true) × SaysUnread message) error

-- where the documents are those of data, so many typed values are made of it, and no number in it is unread
abbrev pub AreTyped : List Document → ℕ → Type 0
AreTyped documents count = (values : List Data) → map document_of values ≡ documents → (holds_unread values ≡ false) × (count ≡ length values)

-- how documents are refused typed values: for an unread number in the data, which the message then names, by `serde_json`, or memory ran out
abbrev pub AreTypedRefused : List Document → JsonPathError → Type 0
AreTypedRefused documents error = IsRefusedBy NoMessage (λ message. (values : List Data) → map document_of values ≡ documents → holds_unread values ≡ true → SaysUnread message) error

-- the text is that of a document that a change makes
abbrev pub IsTextOfChanged : (Document → Type 0) → List ℕ → Type 0
IsTextOfChanged Makes text = (after : Data) × Makes (document_of after) × (document_text after ≡ Some text)

-- how the document that a change makes is refused a text: it has none, for an unread number, or memory ran out
abbrev pub IsChangedTextRefused : (Document → Type 0) → JsonPathError → Type 0
IsChangedTextRefused Makes error = IsRefusedBy NoMessage (λ message. (after : Data) × Makes (document_of after) × (document_text after ≡ None) × SaysUnread message) error

-- what stands in place of the values that several paths select
abbrev pub Replaces : Replacement → List (List ℕ) → Document → Document → Type 0
Replaces Null paths before after = IsMasked paths before after
Replaces Nothing paths before after = AreRemoved paths before after

-- the error says why there is no text
abbrev pub IsWhyUnprinted : Unprinted → JsonPathError → Type 0
IsWhyUnprinted unprinted.UnreadNumber error = IsUnreadError error
IsWhyUnprinted unprinted.OutOfMemory error = error ≡ OutOfMemory
