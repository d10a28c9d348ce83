-- What is done along a stream: its documents, one after another, what each gives, and what is left.
use Rattle.std.specs.Prelude.{◌≡◌, ℕ, ◌-◌, ◌^◌, min, List, [], ◌∷◌, ◌++◌, flat_map, drop, length, sum_by, true, false, Bool}
use Rattle.json_recognizer.specs.Blanks.{blanks_len}
use Rattle.json_recognizer.specs.Buffer.{IsFirstOf}
use Rattle.json_recognizer.specs.Lines.{behind_line}
use Rattle.json_recognizer.specs.declared.buffer.piece.Kind.{Kind}
use Rattle.json_recognizer.specs.declared.buffer.piece.Kind.TheVariants as kinds
use Rattle.jpath_texts.specs.declared.stream.visit_documents.Taken.{Taken}
use Rattle.jpath_texts.specs.declared.stream.visit_documents.How.{How}
use Rattle.jpath_texts.specs.declared.stream.visit_documents.How.TheVariants.{Whole, Enough, ReadFailed, Stopped, Endless}

-- ---- what a stream has next

-- What is behind a piece: with one that is refused the line is passed on which it begins.
abbrev pub behind_piece : Kind → List ℕ → List ℕ → List ℕ
behind_piece kinds.Document piece stream = drop (length piece) stream
behind_piece kinds.Refused piece stream = behind_line (drop (blanks_len piece) stream)
behind_piece kinds.Blanks piece stream = []

-- ---- what was done

-- the next of a stream, what became of it, and what was written for it
pub record Visited : Type 0 where
  pub kind : Kind
  pub piece : List ℕ
  pub taken : Taken
  pub text : List ℕ

-- The pieces stand in the stream one behind the other, each the next of what is left there; behind the last the rest is left.
abbrev pub Passes : List Visited → List ℕ → List ℕ → Type 0
Passes [] stream rest = stream ≡ rest
Passes (v ∷ vs) stream rest = IsFirstOf v.kind v.piece stream × Passes vs (behind_piece v.kind v.piece stream) rest

-- what may be given for a piece
abbrev pub Gives : Type 1
Gives = Kind → List ℕ → Taken → List ℕ → Type 0

-- each is what is given for its piece
abbrev pub AreGiven : Gives → List Visited → Type 0
AreGiven gives [] = Unit {0}
AreGiven gives (v ∷ vs) = gives v.kind v.piece v.taken v.text × AreGiven gives vs

-- what was given stays given
abbrev pub StayGiven : Gives → Gives → Type 0
StayGiven before after = (kind : Kind) (piece : List ℕ) (taken : Taken) (text : List ℕ) → before kind piece taken text → after kind piece taken text

-- what was written for them, joined, and how many matches they have together, as far as can be counted
abbrev pub texts_of : List Visited → List ℕ
texts_of vs = flat_map (λ v. v.text) vs

abbrev pub count_of : List Visited → ℕ
count_of vs = min (sum_by (λ v. v.taken.count) vs) (2 ^ 64 - 1)

-- more was asked for after each but the last, and after that unless it was enough
abbrev pub AskMore : List Visited → Bool → Type 0
AskMore [] is_enough = is_enough ≡ false
AskMore (v ∷ []) is_enough = v.taken.is_enough ≡ is_enough
AskMore (v ∷ w ∷ vs) is_enough = (v.taken.is_enough ≡ false) × AskMore (w ∷ vs) is_enough

-- it ended since nothing more was asked for
abbrev pub is_enough : {S : Type 0} → How S → Bool
is_enough Whole = false
is_enough Enough = true
is_enough (ReadFailed failure) = false
is_enough (Stopped stop) = false
is_enough Endless = false

-- it ended before its end, and not since nothing more was asked for
abbrev pub IsCutShort : {S : Type 0} → How S → Type 0
IsCutShort Whole = ⊥
IsCutShort Enough = ⊥
IsCutShort (ReadFailed failure) = Unit {0}
IsCutShort (Stopped stop) = Unit {0}
IsCutShort Endless = Unit {0}

-- a fact of why the visitor went no further, if it did not
abbrev pub IfStopped : {S : Type 0} → (S → Type 0) → How S → Type 0
IfStopped P Whole = Unit {0}
IfStopped P Enough = Unit {0}
IfStopped P (ReadFailed failure) = Unit {0}
IfStopped P (Stopped stop) = P stop
IfStopped P Endless = Unit {0}

-- The stream is passed document by document up to the rest, and no further than was asked for; what was written is what is given for each, joined, and the count is their sum.
pub record GoesAlong (gives : Gives) (stream rest before after : List ℕ) (count : ℕ) (is_enough : Bool) : Type 0 where
  pub visited : List Visited
  pub passes : Passes visited stream rest
  pub given : AreGiven gives visited
  pub written : after ≡ before ++ texts_of visited
  pub counted : count ≡ count_of visited
  pub asked : AskMore visited is_enough
