-- Where and why a piece of a stream is refused, and what is printed of it.
use Rattle.std.specs.Prelude.{◌≡◌, ◌≢◌, ℕ, List, ◌++◌, take, length, codes, decimal, true}
use Rattle.json_recognizer.specs.Machine.{move, top_of}
use Rattle.json_recognizer.specs.State.{frames}
use Rattle.json_recognizer.specs.Stream.{later, found_at, found_in}
use Rattle.json_recognizer.specs.Wanted.{names, wanted_words}
use Rattle.json_recognizer.specs.declared.class.Class.{Class}
use Rattle.json_recognizer.specs.declared.machine.Move.TheVariants as move
use Rattle.json_recognizer.specs.declared.state.State.{State}
use Rattle.json_recognizer.specs.declared.stream.Found.{Found}
use Rattle.json_recognizer.specs.declared.stream.Found.TheVariants as found
use Rattle.json_recognizer.specs.declared.wanted.Wanted.{Wanted}
use Rattle.json_recognizer.specs.Blanks.{blanks_len}
use Rattle.json_trees.specs.declared.refusal.DocumentRefusal.{DocumentRefusal}
use Rattle.json_trees.specs.declared.refusal.DocumentRefusal.TheVariants.{NotADocument, HugeExponent, EditNests, EditDiffers, OutOfMemory}
use Rattle.jpath_files.specs.declared.refused_document.Reason.{Reason}
use Rattle.jpath_files.specs.declared.refused_document.Reason.TheVariants as reason
use Rattle.jpath_files.specs.declared.refused_document.RefusedDocument.{RefusedDocument}

-- ---- where and why

-- These words fit behind some bytes: what the bytes lead to goes on with each byte that the words name.
abbrev pub Fits : Wanted → List ℕ → Type 0
Fits wanted front = (s : State) × ((more : List ℕ) → found_in (front ++ more) ≡ later (length front) (found_at s more)) × ((c : Class) → names wanted c ≡ true → move s.mode (top_of (frames s.depth s.kinds)) c ≢ move.Wrong)

-- A text that is no document is refused at its first wrong byte, with words that fit there; or at its end, where it is cut short.
abbrev IsNoDocument : Found → List ℕ → ℕ → Reason → Type 0
IsNoDocument (found.Refused k) bytes at why = (at ≡ k) × ((wanted : Wanted) × (why ≡ reason.Wrong wanted) × Fits wanted (take k bytes))
IsNoDocument found.GoesOn bytes at why = (at ≡ length bytes) × (why ≡ reason.EndsTooEarly)
IsNoDocument (found.Ends k) bytes at why = (at ≡ blanks_len bytes) × (why ≡ reason.Other NotADocument)

-- It is refused at this byte, and for this reason; what is read and can't be used, at its first byte that is no blank.
abbrev pub IsRefusedAt : DocumentRefusal → List ℕ → ℕ → Reason → Type 0
IsRefusedAt NotADocument bytes at why = IsNoDocument (found_in bytes) bytes at why
IsRefusedAt refusal bytes at why = (at ≡ blanks_len bytes) × (why ≡ reason.Other refusal)

-- ---- what is printed

abbrev refusal_words : DocumentRefusal → List ℕ
refusal_words NotADocument = codes "no JSON"
refusal_words HugeExponent = codes "a number is compared whose exponent has more than 38 digits"
refusal_words EditNests = codes "the edited document would nest deeper than 127 levels"
refusal_words EditDiffers = codes "the edited text is another document than it should be, so it is not written"
refusal_words OutOfMemory = codes "out of memory"

abbrev pub reason_words : Reason → List ℕ
reason_words (reason.Wrong wanted) = wanted_words wanted
reason_words reason.EndsTooEarly = codes "the document ends too early"
reason_words (reason.Other refusal) = refusal_words refusal

-- the file, the line, the column, the sentence
abbrev pub refused_words : RefusedDocument → List ℕ
refused_words refused = codes "jpath: " ++ refused.name.now ++ codes ":" ++ decimal refused.place.line ++ codes ":" ++ decimal refused.place.column ++ codes ": " ++ reason_words refused.reason
