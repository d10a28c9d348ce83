-- What the program writes, and what it refuses.
use Rattle.std.specs.Prelude.{◌≡◌, ◌⊎◌, ℕ, List, [], ◌∷◌, ◌++◌, All, map, Bool, true, Some, codes, String}
use Rattle.std.specs.declared.alloc.Global.{Global}
use Rattle.std.specs.List.{Contains}
use Rattle.serde_json.specs.Data.{Data}
use Rattle.jsonpath_nodes.specs.document.Document.{Document}
use Rattle.jsonpath_nodes.specs.document.OfData.{document_of}
use Rattle.jsonpath_paths.specs.Spelling.{IsInGrammar}
use Rattle.jsonpath_select.specs.Meaning.{Selects}
use Rattle.jsonpath_select.specs.ErrorCases.{NoMessage, IsRefusedBy}
use Rattle.jsonpath_select.specs.answer.AnswerText.{IsTextOf, list_text, document_text, SaysUnread}
use Rattle.jsonpath_select.specs.Targets.{IsDeleted, IsRemoved}
use Rattle.jsonpath_lib.specs.update.Masked.{IsMasked, IsFirstRefused}
use Rattle.jsonpath_select.specs.declared.error.JsonPathError.{JsonPathError}
use Rattle.jsonpath_run.specs.declared.words.Command.{Command}
use Rattle.jsonpath_run.specs.declared.words.Command.TheVariants.{Select, Delete, Remove, Check, Mask}
use Rattle.jsonpath_run.specs.declared.faults.Fault.{Fault}
use Rattle.jsonpath_run.specs.declared.faults.Fault.TheVariants as fault
use Rattle.jsonpath_run.specs.Words.{IsCall}

-- the line is the text of what the path selects in the input's document
pub record SelectsText (path input line : List ℕ) : Type 0 where
  pub document : Data
  pub values : List Data
  pub read : IsTextOf input document
  pub selected : Selects path (document_of document) (map document_of values)
  pub written : list_text values ≡ Some line

-- what the commands that change a document make of it
abbrev pub IsChange : Command → List (List ℕ) → Document → Document → Type 0
IsChange Select paths before after = ⊥
IsChange Delete paths before after = (path : List ℕ) × (paths ≡ path ∷ []) × IsDeleted path before after
IsChange Remove paths before after = (path : List ℕ) × (paths ≡ path ∷ []) × IsRemoved path before after
IsChange Check paths before after = ⊥
IsChange Mask paths before after = IsMasked paths before after

-- the line is the text of what the command makes of the input's document
pub record ChangesText (command : Command) (paths : List (List ℕ)) (input line : List ℕ) : Type 0 where
  pub before : Data
  pub after : Data
  pub read : IsTextOf input before
  pub changed : IsChange command paths (document_of before) (document_of after)
  pub written : document_text after ≡ Some line

-- the line is the command's answer for its paths, to an input
abbrev pub IsAnswer : Command → List (List ℕ) → List ℕ → List ℕ → Type 0
IsAnswer Select paths input line = (path : List ℕ) × (paths ≡ path ∷ []) × SelectsText path input line
IsAnswer Delete paths input line = ChangesText Delete paths input line
IsAnswer Remove paths input line = ChangesText Remove paths input line
IsAnswer Check paths input line = line ≡ codes "ok"
IsAnswer Mask paths input line = ChangesText Mask paths input line

-- the words call for a command, and their paths are in the grammar
pub record IsSound (words : List (List ℕ)) (command : Command) (paths : List (List ℕ)) : Type 0 where
  pub called : IsCall words command paths
  pub spelled : All IsInGrammar paths

-- the text is what the program writes for its words and its input
pub record IsOutput (words : List (List ℕ)) (input text : List ℕ) : Type 0 where
  pub command : Command
  pub paths : List (List ℕ)
  pub line : List ℕ
  pub sound : IsSound words command paths
  pub answered : IsAnswer command paths input line
  pub ended : text ≡ line ++ codes "\n"

-- the input is the text of a document
abbrev pub IsSomeText : List ℕ → Type 0
IsSomeText input = (document : Data) × IsTextOf input document

-- no line is the command's answer for its paths, to an input
abbrev pub HasNoAnswer : Command → List (List ℕ) → List ℕ → Type 0
HasNoAnswer command paths input = (line : List ℕ) → ¬ IsAnswer command paths input line

-- There is no answer, for the reason that the message gives: the input is no document's text; or it is, and the message says that a number of the answer is unread.
abbrev pub IsUnanswered : Command → List (List ℕ) → List ℕ → String Global → Type 0
IsUnanswered command paths input message = HasNoAnswer command paths input × ((¬ IsSomeText input) ⊎ (IsSomeText input × SaysUnread message))

-- the words are sound, and the input has no answer, for the reason that the message gives
pub record IsCallUnanswered (words : List (List ℕ)) (input : List ℕ) (message : String Global) : Type 0 where
  pub command : Command
  pub paths : List (List ℕ)
  pub sound : IsSound words command paths
  pub unanswered : IsUnanswered command paths input message

-- the words ask for nothing but whether a path is in the grammar
abbrev pub IsCheck : List (List ℕ) → Type 0
IsCheck words = (paths : List (List ℕ)) × IsCall words Check paths

-- the words call for a command, and one of their paths is not in the grammar
pub record HasNoPath (words : List (List ℕ)) : Type 0 where
  pub command : Command
  pub paths : List (List ℕ)
  pub path : List ℕ
  pub called : IsCall words command paths
  pub among : Contains paths path
  pub outside : ¬ IsInGrammar path

-- how an input is refused an answer: it has none, or memory ran out
abbrev pub IsAnswerRefused : Command → List (List ℕ) → List ℕ → JsonPathError → Type 0
IsAnswerRefused command paths input error = IsRefusedBy NoMessage (IsUnanswered command paths input) error

-- the words call for a command, and this is the message of the first of their paths that is refused
abbrev pub IsPathRefusal : List (List ℕ) → String Global → Type 0
IsPathRefusal words message = (command : Command) × (paths : List (List ℕ)) × IsCall words command paths × ((place : ℕ) × IsFirstRefused paths place message)

-- why the words are refused, after this input, which has ended or not: for a path, for the whole input, or for memory
abbrev pub IsRefusal : List (List ℕ) → List ℕ → Bool → JsonPathError → Type 0
IsRefusal words input has_ended error = IsRefusedBy (IsPathRefusal words) (λ message. IsCallUnanswered words input message × (has_ended ≡ true)) error

-- the fault is no refusal, or one for this reason
abbrev pub IfRefused : Fault → (JsonPathError → Type 0) → Type 0
IfRefused fault.Usage reason = Unit {0}
IfRefused (fault.Refused error) reason = reason error
IfRefused fault.Io reason = Unit {0}

-- the fault is not one of the streams
abbrev pub IsNotIo : Fault → Type 0
IsNotIo fault.Usage = Unit {0}
IsNotIo (fault.Refused error) = Unit {0}
IsNotIo fault.Io = ⊥
