-- How a document of a stream is refused: why, where, and with which message.
use Rattle.std.specs.Prelude.{◌≡◌, ℕ, ◌+◌, ◌^◌, ◌≤◌, List, ◌++◌, take, length, codes, decimal, string_bytes, Bool, true, false, String}
use Rattle.std.specs.declared.alloc.Global.{Global}
use Rattle.serde_json.specs.Data.{Data}
use Rattle.jsonpath_select.specs.ErrorCases.{IsRefusedBy, NoMessage}
use Rattle.jsonpath_select.specs.answer.AnswerText.{IsTextOf}
use Rattle.jsonpath_select.specs.declared.error.JsonPathError.TheVariants as error
use Rattle.json_recognizer.specs.Blanks.{is_blank_text}
use Rattle.json_recognizer.specs.Lines.{place_behind, place_at_end}
use Rattle.json_recognizer.specs.Stream.{found_in}
use Rattle.json_recognizer.specs.declared.buffer.piece.LineColumn.{LineColumn}
use Rattle.json_recognizer.specs.declared.stream.Found.TheVariants.{GoesOn, Ends, Refused}
use Rattle.jsonpath_lib.specs.declared.stream.document_fault.DocumentFault.{DocumentFault}
use Rattle.jsonpath_lib.specs.declared.stream.document_fault.FaultKind.{FaultKind}
use Rattle.jsonpath_lib.specs.declared.stream.document_fault.FaultKind.TheVariants.{WrongByte, CutShort, Unread, ReadFailed, OutOfMemory, TooLong}

abbrev pub place_of_fault : DocumentFault → LineColumn
place_of_fault fault = record { line = fault.line; column = fault.column }

-- how a message names a place, at its end
abbrev pub place_text : LineColumn → List ℕ
place_text place = codes " at line " ++ (decimal place.line ++ (codes " column " ++ decimal place.column))

-- The message is these words with the place of the fault, or memory ran out as it was made.
abbrev pub Says : List ℕ → DocumentFault → Type 0
Says words fault = IsRefusedBy NoMessage (λ message. string_bytes message ≡ words ++ place_text (place_of_fault fault)) fault.error

-- The message names the place of the fault behind some words, and the text is no document's for `serde_json`; or memory ran out.
abbrev pub IsUnreadMessage : List ℕ → DocumentFault → String Global → Type 0
IsUnreadMessage text fault message = ((words : List ℕ) × (string_bytes message ≡ words ++ place_text (place_of_fault fault))) × ((document : Data) → ¬ IsTextOf text document)

-- `serde_json` refuses a text that the recognizer has as a document, at a place of its own, or memory ran out
abbrev pub IsUnread : FaultKind → List ℕ → DocumentFault → Type 0
IsUnread Unread text fault = IsRefusedBy NoMessage (IsUnreadMessage text fault) fault.error
IsUnread OutOfMemory text fault = fault.error ≡ error.OutOfMemory
IsUnread other text fault = ⊥

-- How a stream is refused behind these bytes, that goes on with those read so far, and whether a read failed. The place is that of the first wrong byte; that of the last byte, where the stream ends within a document; or where reading stopped.
abbrev pub IsFault : FaultKind → List ℕ → List ℕ → List ℕ → Bool → DocumentFault → Type 0
IsFault WrongByte passed here stream has_failed fault = (n : ℕ) × (found_in stream ≡ Refused n) × (place_of_fault fault ≡ place_behind (passed ++ take n stream)) × Says (codes "invalid JSON") fault
IsFault CutShort passed here stream has_failed fault = (found_in stream ≡ GoesOn) × (is_blank_text stream ≡ false) × (place_of_fault fault ≡ place_at_end (passed ++ stream)) × Says (codes "EOF while parsing") fault
IsFault Unread passed here stream has_failed fault = (n : ℕ) × (found_in stream ≡ Ends n) × IsUnread Unread (take n stream) fault
IsFault ReadFailed passed here stream has_failed fault = (has_failed ≡ true) × (place_of_fault fault ≡ place_behind (passed ++ here)) × Says (codes "a read failed") fault
IsFault OutOfMemory passed here stream has_failed fault = fault.error ≡ error.OutOfMemory
IsFault TooLong passed here stream has_failed fault = (n : ℕ) × (found_in stream ≡ Ends n) × (2 ^ 64 ≤ length passed + n) × (place_of_fault fault ≡ place_behind passed) × Says (codes "too many bytes") fault
