-- The rows and letters of the code's table.
use Rattle.std.specs.Prelude.{◌≡◌, ℕ, ◌-◌, ◌<◌, ◌≤◌, ◌==◌, ◌||◌, ◌&&◌, List, [], ◌∷◌, ◌++◌, drop, get_or, Bool, true, false, cond, nat_le}
use Rattle.json_recognizer.specs.Grammar.{max_depth}
use Rattle.json_recognizer.specs.Machine.{move, move_behind, is_final}
use Rattle.json_recognizer.specs.Stream.{ends_number, is_over, later, found_at}
use Rattle.json_recognizer.specs.declared.class.Class.{Class}
use Rattle.json_recognizer.specs.declared.class.Class.TheVariants.{Comma, CloseBracket, CloseBrace}
use Rattle.json_recognizer.specs.declared.machine.Mode.{Mode}
use Rattle.json_recognizer.specs.declared.machine.Mode.TheVariants.{Value, Behind, InText}
use Rattle.json_recognizer.specs.declared.machine.TextPart.TheVariants.{InChars}
use Rattle.json_recognizer.specs.declared.machine.Move.{Move}
use Rattle.json_recognizer.specs.declared.machine.Move.TheVariants.{To, Opens, Wrong}
use Rattle.json_recognizer.specs.declared.machine.Top.{Top}
use Rattle.json_recognizer.specs.declared.state.State.{State}
use Rattle.json_recognizer.specs.declared.stream.Found.{Found}
use Rattle.json_recognizer.specs.declared.stream.Found.TheVariants.{GoesOn}
use Rattle.json_recognizer.specs.declared.table.TheConstants.{MODES}

abbrev pub IsRow : ℕ → Type 0
IsRow row = (48 ≤ row) × (row < 112)

abbrev pub mode_at : ℕ → Mode
mode_at row = get_or MODES (row - 48) Value

-- the state with the row's mode, as the search has it
abbrev pub at_row : State → ℕ → State
at_row s row = record s { mode = mode_at row }

pub record IsOpen (s : State) (row : ℕ) : Type 0 where
  pub is_row : IsRow row
  pub depth : s.depth ≤ max_depth
  pub unended : is_over (at_row s row) ≡ false

-- the move that a letter stands for
abbrev pub does : ℕ → Top → Move
does letter t =
    cond (nat_le 48 letter) (To (mode_at letter))
    (cond (letter == 44) (move_behind t Comma)
    (cond (letter == 41) (move_behind t CloseBracket)
    (cond (letter == 45) (move_behind t CloseBrace)
    (cond (letter == 40) (Opens false)
    (cond (letter == 43) (Opens true)
    (cond (letter == 39) (To (InText InChars false))
    (cond (letter == 35) (To (InText InChars true))
    (cond (letter == 47) (To Behind)
    (cond (letter == 38) (To Behind)
    Wrong)))))))))

-- a number that stands alone ends before the byte
abbrev pub ends_alone : ℕ → Bool
ends_alone letter = (letter == 37) || (letter == 38)

-- what the byte does in the mode, while the document isn't over
pub record IsLetter (m : Mode) (c : Class) (letter : ℕ) : Type 0 where
  pub moves : (t : Top) → move m t c ≡ does letter t
  pub ends : (m ≡ Behind → ⊥) → (is_final m [] && ends_number c) ≡ ends_alone letter
  pub row : 48 ≤ letter → IsRow letter
  pub stays : 48 ≤ letter → mode_at letter ≡ Behind → m ≡ Behind

-- ---- the search

-- the byte leads from one state to the other
abbrev pub Steps : State → ℕ → State → Type 0
Steps s x next = (more : List ℕ) → found_at s (x ∷ more) ≡ later 1 (found_at next more)

-- so do the first bytes of a piece
abbrev pub Reaches : State → List ℕ → ℕ → State → Type 0
Reaches s₀ piece i s = (more : List ℕ) → found_at s₀ (piece ++ more) ≡ later i (found_at s (drop i piece ++ more))

-- or the document ends there, or is refused
abbrev pub FoundBy : State → List ℕ → Found → ℕ → State → Type 0
FoundBy s₀ piece GoesOn i s = Reaches s₀ piece i s
FoundBy s₀ piece found i s = (more : List ℕ) → found_at s₀ (piece ++ more) ≡ found
