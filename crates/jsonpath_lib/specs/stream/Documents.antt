-- The documents of a stream, one after another: which comes next, or how it is refused, and what is then left.
use Rattle.std.specs.Prelude.{◌≡◌, ℕ, ◌+◌, ◌-◌, ◌^◌, ◌<◌, List, [], ◌++◌, take, drop, length, Bool, true, false, if◌then◌else◌, Option, Some, None, Result}
use Rattle.std.specs.declared.result.Result.TheVariants.{Ok, Err}
use Rattle.serde_json.specs.View.{view}
use Rattle.serde_json.specs.declared.value.Value.{Value}
use Rattle.jsonpath_select.specs.answer.AnswerText.{IsTextOf}
use Rattle.json_recognizer.specs.Blanks.{is_blank_text}
use Rattle.json_recognizer.specs.Buffer.{left, piece_of, MayCome, StandsBehind}
use Rattle.json_recognizer.specs.Stream.{found_in}
use Rattle.json_recognizer.specs.declared.stream.Found.TheVariants.{Ends}
use Rattle.jsonpath_lib.specs.stream.Faults.{IsFault}
use Rattle.jsonpath_lib.specs.declared.stream.document_fault.DocumentFault.{DocumentFault}
use Rattle.jsonpath_lib.specs.declared.stream.documents.Documents.{Documents}

-- what is read of the stream and not yet given
abbrev pub read_ahead : {R : Type 0} → Documents R → List ℕ
read_ahead documents = left documents.buffer

-- nothing is read or passed
pub record IsNew {R : Type 0} (documents : Documents R) : Type 0 where
  pub unread : read_ahead documents ≡ []
  pub place : StandsBehind documents.buffer []
  pub count : documents.count ≡ 0
  pub open_ : documents.is_over ≡ false
  pub more : documents.buffer.is_whole ≡ false

-- the piece at hand is passed
pub record IsPassed {R : Type 0} (before after : Documents R) : Type 0 where
  pub left : read_ahead after ≡ drop (length (piece_of before.buffer)) (read_ahead before)
  pub place : (passed : List ℕ) → StandsBehind before.buffer passed → StandsBehind after.buffer (passed ++ piece_of before.buffer)
  pub count : after.count ≡ before.count + length (piece_of before.buffer)
  pub fits : after.count < 2 ^ 64
  pub open_ : after.is_over ≡ false

module _ {R : Type 0} (given : R → List ℕ) (has_ended has_failed : R → Bool) where
  -- These bytes were passed. Where the buffer says that the stream is read to its end, the reader says so.
  pub record IsBehind (documents : Documents R) (passed : List ℕ) : Type 0 where
    pub place : StandsBehind documents.buffer passed
    pub count : documents.count ≡ length passed
    pub ended : documents.buffer.is_whole ≡ true → has_ended documents.input ≡ true

  -- Of a stream behind the bytes that were passed, which goes on with those read so far: its first document is read, and what stands behind it is left; there are blanks alone; or it is refused.
  abbrev pub IsNext : List ℕ → List ℕ → List ℕ → Option (Result Value DocumentFault) → Documents R → List ℕ → Type 0
  IsNext passed here stream None after later = (is_blank_text stream ≡ true) × (has_ended after.input ≡ true) × (after.is_over ≡ true)
  IsNext passed here stream (Some (Ok document)) after later =
      (n : ℕ) × (found_in stream ≡ Ends n) × IsTextOf (take n stream) (view document) × (read_ahead after ++ later ≡ drop n stream) × IsBehind after (passed ++ take n stream) × (after.is_over ≡ false)
  IsNext passed here stream (Some (Err fault)) after later = IsFault fault.kind passed here stream (has_failed after.input) fault × (after.is_over ≡ true)

  -- What a call reads and gives. Whatever comes later, the stream is what was left, what is read now, and that.
  pub record GivesNext (before : Documents R) (result : Option (Result Value DocumentFault)) (after : Documents R) : Type 0 where
    pub read : List ℕ
    pub is_read : given after.input ≡ given before.input ++ read
    pub next : (passed : List ℕ) → IsBehind before passed → (later : List ℕ) → MayCome after.buffer later → IsNext passed (read_ahead before ++ read) (read_ahead before ++ (read ++ later)) result after later

  -- The next is given, unless an error or the stream's end was.
  pub record Gives (before : Documents R) (result : Option (Result Value DocumentFault)) (after : Documents R) : Type 0 where
    pub over : before.is_over ≡ true → (result ≡ None) × (after ≡ before)
    pub goes : before.is_over ≡ false → GivesNext before result after

-- at most so many come: each has a byte at least, and more than can be counted are refused
abbrev pub most_left : {R : Type 0} → Documents R → ℕ
most_left documents = if documents.is_over then 0 else (2 ^ 64 - documents.count) + 1
