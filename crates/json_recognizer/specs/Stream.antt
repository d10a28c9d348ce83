-- What a text is to the reader of a stream: where its first document ends, or which byte is the first that no document goes on with.
use Rattle.std.specs.Prelude.{ℕ, ◌+◌, ◌<◌, ◌≤◌, List, [], ◌∷◌, take, length, Bool, true, false, ◌&&◌, cond}
use Rattle.json_recognizer.specs.Classes.{class_of}
use Rattle.json_recognizer.specs.Grammar.{IsDocument, Begins, max_depth}
use Rattle.json_recognizer.specs.Machine.{Next, goes, refused, step, is_final}
use Rattle.json_recognizer.specs.State.{frames, next_of}
use Rattle.json_recognizer.specs.declared.class.Class.{Class}
use Rattle.json_recognizer.specs.declared.class.Class.TheVariants.{Space, White, OpenBracket, OpenBrace, Quote}
use Rattle.json_recognizer.specs.declared.machine.Mode.{Mode}
use Rattle.json_recognizer.specs.declared.machine.Mode.TheVariants.{Value, Behind}
use Rattle.json_recognizer.specs.declared.state.State.{State}
use Rattle.json_recognizer.specs.declared.stream.Found.{Found}
use Rattle.json_recognizer.specs.declared.stream.Found.TheVariants.{GoesOn, Ends, Refused}

-- the document is over: a bracket, a quote or the last letter of a word ended it
abbrev pub is_over_in : Mode → List Bool → Bool
is_over_in Behind [] = true
is_over_in m st = false

abbrev pub is_over : State → Bool
is_over s = is_over_in s.mode (frames s.depth s.kinds)

-- a number that stands alone ends before these, since no byte of its own says so
abbrev pub ends_number : Class → Bool
ends_number Space = true
ends_number White = true
ends_number OpenBracket = true
ends_number OpenBrace = true
ends_number Quote = true
ends_number c = false

-- found so many bytes further on
abbrev pub later : ℕ → Found → Found
later n GoesOn = GoesOn
later n (Ends k) = Ends (n + k)
later n (Refused k) = Refused (n + k)

-- what is found by a byte that leads here, before what is found behind it
abbrev pub found_by : Next → Found → Found
found_by (goes m st r) behind = cond (is_over_in m st) (Ends 1) (later 1 behind)
found_by refused behind = Refused 0

-- what is found in the rest of a text; at its end a number is a document
unfoldable pub found_from : Next → List ℕ → Found
found_from refused text = Refused 0
found_from (goes m st r) [] = cond (is_final m st) (Ends 0) GoesOn
found_from (goes m st r) (x ∷ xs) = cond (is_final m st && ends_number (class_of x)) (Ends 0) (found_by (step m st r (class_of x)) (found_from (step m st r (class_of x)) xs))

abbrev pub found_at : State → List ℕ → Found
found_at s = found_from (next_of s)

-- what is found in a text: its first document, its first wrong byte, or neither, where it goes on to its end
abbrev pub found_in : List ℕ → Found
found_in = found_from (goes Value [] max_depth)

-- where the first document ends, or else this
abbrev pub end_or : ℕ → Found → ℕ
end_or n (Ends k) = k
end_or n found = n

-- what is found in a piece of so many bytes, or else behind it
abbrev pub or_later : Found → ℕ → Found → Found
or_later GoesOn n behind = later n behind
or_later (Ends k) n behind = Ends k
or_later (Refused k) n behind = Refused k

-- it is within so many bytes
abbrev pub IsWithin : Found → ℕ → Type 0
IsWithin GoesOn n = Unit {0}
IsWithin (Ends k) n = k ≤ n
IsWithin (Refused k) n = k < n

-- What is found is so by the grammar: a document in front; bytes that begin one, and no longer with the next; or the beginning of one that isn't whole.
abbrev pub IsFound : List ℕ → Found → Type 0
IsFound text (Ends n) = (n ≤ length text) × IsDocument (take n text)
IsFound text (Refused n) = (n < length text) × Begins (take n text) × (Begins (take (n + 1) text) → ⊥)
IsFound text GoesOn = Begins text × (IsDocument text → ⊥)
