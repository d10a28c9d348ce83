-- The words that the program is called with.
use Rattle.std.specs.Prelude.{◌≡◌, ℕ, ◌<◌, List, ◌∷◌, length, codes}
use Rattle.jsonpath_run.specs.declared.words.Command.{Command}
use Rattle.jsonpath_run.specs.declared.words.Command.TheVariants.{Select, Delete, Remove, Check, Mask}

abbrev pub word_of : Command → List ℕ
word_of Select = codes "select"
word_of Delete = codes "delete"
word_of Remove = codes "remove"
word_of Check = codes "check"
word_of Mask = codes "mask"

-- how many paths a command takes
abbrev pub IsCount : Command → ℕ → Type 0
IsCount Select count = count ≡ 1
IsCount Delete count = count ≡ 1
IsCount Remove count = count ≡ 1
IsCount Check count = count ≡ 1
IsCount Mask count = 0 < count

-- the words are the command's word and the texts of as many paths as it takes
pub record IsCall (words : List (List ℕ)) (command : Command) (paths : List (List ℕ)) : Type 0 where
  pub said : words ≡ word_of command ∷ paths
  pub count : IsCount command (length paths)

-- the words are no call
abbrev pub IsUsage : List (List ℕ) → Type 0
IsUsage words = (command : Command) (paths : List (List ℕ)) → ¬ IsCall words command paths
