-- The bytes of a stream that are read and not yet passed, and its next piece.
use Rattle.std.specs.Prelude.{◌≡◌, ℕ, ◌-◌, ◌+◌, ◌≤◌, nat_lt, List, [], ◌∷◌, ◌++◌, take, drop, length, slice_range, true, false, Bool, if◌then◌else◌}
use Rattle.json_recognizer.specs.Blanks.{is_blank_text}
use Rattle.json_recognizer.specs.Grammar.{max_depth}
use Rattle.json_recognizer.specs.Lines.{place_behind, place_at_end}
use Rattle.json_recognizer.specs.Stream.{is_over, later, found_at, found_in}
use Rattle.json_recognizer.specs.declared.stream.Found.{Found}
use Rattle.json_recognizer.specs.declared.stream.Found.TheVariants.{GoesOn, Ends, Refused}
use Rattle.json_recognizer.specs.declared.buffer.stream_buffer.StreamBuffer.{StreamBuffer}
use Rattle.json_recognizer.specs.declared.buffer.piece.LineColumn.{LineColumn}
use Rattle.json_recognizer.specs.declared.buffer.piece.Kind.{Kind}
use Rattle.json_recognizer.specs.declared.buffer.piece.Kind.TheVariants as kinds

-- they begin with the piece at hand
abbrev pub left : StreamBuffer → List ℕ
left feed = drop feed.start feed.bytes.items

abbrev pub piece_of : StreamBuffer → List ℕ
piece_of feed = slice_range feed.bytes.items feed.start feed.end

-- more bytes may come behind them, but not where the stream was read to its end
abbrev pub MayCome : StreamBuffer → List ℕ → Type 0
MayCome feed more = feed.is_whole ≡ true → more ≡ []

abbrev pub mark : List ℕ
mark = 239 ∷ 187 ∷ 191 ∷ []

-- a byte order mark, or none
abbrev pub mark_if : Bool → List ℕ
mark_if is_marked = if is_marked then mark else []

-- its places are in order, and within the bytes
pub record IsSound (feed : StreamBuffer) : Type 0 where
  pub ordered : feed.start ≤ feed.end
  pub within : feed.end ≤ length feed.bytes.items
  pub behind : feed.start ≤ feed.seen
  pub seen : feed.seen ≤ length feed.bytes.items

-- its state is where the bytes that were looked through lead, and the document isn't over there
pub record IsReady (feed : StreamBuffer) : Type 0 where
  pub sound : IsSound feed
  pub ahead : (more : List ℕ) → found_in (left feed ++ more) ≡ later (feed.seen - feed.start) (found_at feed.state (drop feed.seen feed.bytes.items ++ more))
  pub depth : feed.state.depth ≤ max_depth
  pub unended : is_over feed.state ≡ false

-- its line and column are those of what comes behind these bytes
abbrev pub StandsBehind : StreamBuffer → List ℕ → Type 0
StandsBehind feed passed = feed.place ≡ place_behind passed

-- ---- what a stream has next

-- A document; or the bytes up to and with the first wrong one; or all, where neither is found: blanks, or a document that is cut short.
abbrev pub piece_by : Found → List ℕ → List ℕ
piece_by (Ends n) stream = take n stream
piece_by (Refused n) stream = take (n + 1) stream
piece_by GoesOn stream = stream

abbrev pub kind_by : Found → List ℕ → Kind
kind_by (Ends n) stream = kinds.Document
kind_by (Refused n) stream = kinds.Refused
kind_by GoesOn stream = if is_blank_text stream then kinds.Blanks else kinds.Refused

-- the next of a stream, with the blanks before it
abbrev pub IsFirstOf : Kind → List ℕ → List ℕ → Type 0
IsFirstOf kind piece stream = (kind ≡ kind_by (found_in stream) stream) × (piece ≡ piece_by (found_in stream) stream)

-- ---- where a refused piece is wrong

-- its first wrong byte, or that it is cut short
abbrev pub wrong_in : StreamBuffer → Found
wrong_in feed = if nat_lt feed.seen feed.end then Refused (feed.seen - feed.start) else GoesOn

-- The place of the first wrong byte of a stream behind these bytes; where it ends too early, of its last byte.
abbrev pub place_of : Found → List ℕ → List ℕ → LineColumn
place_of (Refused n) passed stream = place_behind (passed ++ take n stream)
place_of other passed stream = place_at_end (passed ++ stream)
