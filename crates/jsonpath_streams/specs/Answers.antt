-- What the calls on a stream answered.
use Rattle.std.specs.Prelude.{◌≡◌, ℕ, ◌≤◌, List, [], ◌∷◌, ◌++◌, Bool, true, false, Result, Ok, Err, replicate, flat_map}
use Rattle.std.specs.declared.io.ErrorKind.{ErrorKind}
use Rattle.std.specs.declared.io.ErrorKind.TheVariants.{Interrupted}

-- the bytes that went through, or that the call was refused, and whether by an interruption
abbrev pub CallAnswer : Type 0
CallAnswer = Result (List ℕ) Bool

abbrev pub bytes_in_answer : CallAnswer → List ℕ
bytes_in_answer (Ok bytes) = bytes
bytes_in_answer (Err is_interrupted) = []

-- the bytes that went through, joined
abbrev pub bytes_in : List CallAnswer → List ℕ
bytes_in answers = flat_map bytes_in_answer answers

abbrev pub is_interruption : ErrorKind → Bool
is_interruption Interrupted = true
is_interruption _ = false

-- Calls were made until one wasn't interrupted, or so many were in turn: the last one's answer is told.
pub record IsTold (most : ℕ) (before after : List CallAnswer) (answer : CallAnswer) : Type 0 where
  pub interrupted : ℕ
  pub few : interrupted ≤ most
  pub answers : after ≡ before ++ (replicate interrupted (Err true) ++ answer ∷ [])
  pub last : answer ≡ Err true → interrupted ≡ most
