-- A refused path, a refused answer: refusals of the words.
use Rattle.std.proofs.Common.{◌≡◌, ℕ, List, [], ◌∷◌, Bool, true, ◌⊎◌, All, refl, inl, Option, sym, subst, ⊎_elim, get_or, ap, drop, ◌∙◌, codes}
use Rattle.std.proofs.lemmas.List.Elements.{All-contains}
use Rattle.serde_json.specs.Data.{Data}
use Rattle.jsonpath_paths.specs.Spelling.{IsInGrammar}
use Rattle.jsonpath_select.specs.answer.AnswerText.{IsTextOf, IsDocumentRefused}
use Rattle.jsonpath_select.specs.declared.error.JsonPathError.{JsonPathError}
use Rattle.jsonpath_select.specs.declared.error.JsonPathError.TheVariants.{EmptyPath, EmptyValue, Path, Serde, OutOfMemory}
use Rattle.jsonpath_run.specs.declared.words.Command.{Command}
use Rattle.jsonpath_run.specs.declared.words.Command.TheVariants.{Select, Delete, Remove, Check, Mask}
use Rattle.jsonpath_run.specs.Words.{IsCall}
use Rattle.jsonpath_run.specs.Output.{IsAnswer, IsSomeText, HasNoAnswer, IsAnswerRefused, IsSound, IsRefusal, HasNoPath}
use Rattle.jsonpath_lib.specs.update.Masked.{ArePathsRefused}

-- the words whose paths are refused are refused
pub refused_paths : (words : List (List ℕ)) (command : Command) (paths : List (List ℕ)) (input : List ℕ) (ended : Bool) (error : JsonPathError)
    → (index : Option ℕ) → IsCall words command paths → ArePathsRefused paths index error → IsRefusal words input ended error
refused_paths words command paths input ended EmptyPath index called h = h
refused_paths words command paths input ended EmptyValue index called h = h
refused_paths words command paths input ended (Path m) index called h = (command, paths, called, (h.0, h.2))
refused_paths words command paths input ended (Serde m) index called h = absurd h
refused_paths words command paths input ended OutOfMemory index called h = tt

-- a command's paths are told by its words
pub same_paths : (words : List (List ℕ)) (a b : Command) (paths others : List (List ℕ)) → IsCall words a paths → IsCall words b others → others ≡ paths
same_paths words a b paths others h k = ap (λ xs. drop 1 xs) (sym k.said ∙ h.said)

-- words whose paths are in the grammar have no path outside it
pub none_outside : (words : List (List ℕ)) (command : Command) (paths : List (List ℕ))
    → IsCall words command paths → All IsInGrammar paths → ¬ HasNoPath words
none_outside words command paths called spelled h =
    h.outside (All-contains IsInGrammar h.paths h.path (subst (All IsInGrammar) (sym (same_paths words command h.command paths h.paths called h.called)) spelled) h.among)

pub one_document : (input : List ℕ) (a b : Data) → IsTextOf input a → IsTextOf input b → a ≡ b
one_document input a b h k = let e = h.1 in let f = k.1 in cc

pub same_text : (text path : List ℕ) → text ∷ [] ≡ path ∷ [] → path ≡ text
same_text text path h = sym (ap (λ xs. get_or xs 0 []) h)

-- an answer other than that of `check` is made of the input's document
pub reads_input : (command : Command) (paths : List (List ℕ)) (input line : List ℕ) → ¬ (command ≡ Check) → IsAnswer command paths input line → IsSomeText input
reads_input Select paths input line other a = (a.2.document, a.2.read)
reads_input Delete paths input line other a = (a.before, a.read)
reads_input Remove paths input line other a = (a.before, a.read)
reads_input Check paths input line other a = absurd (other refl)
reads_input Mask paths input line other a = (a.before, a.read)

-- an input that is no document's text has no answer
pub refused_read : (command : Command) (paths : List (List ℕ)) (input : List ℕ) (error : JsonPathError) → ¬ (command ≡ Check) → IsDocumentRefused input error → IsAnswerRefused command paths input error
refused_read command paths input EmptyPath other h = h
refused_read command paths input EmptyValue other h = h
refused_read command paths input (Path m) other h = h
refused_read command paths input (Serde m) other h =
    ((λ line a. let s = reads_input command paths input line other a in h s.0 s.1), inl (λ s. h s.0 s.1))
refused_read command paths input OutOfMemory other h = tt

-- an input that has no answer was read to its end
ended_or_check : (command : Command) (paths : List (List ℕ)) (input : List ℕ) (ended : Bool) → HasNoAnswer command paths input → (command ≡ Check) ⊎ (ended ≡ true) → ended ≡ true
ended_or_check command paths input ended none ends =
    ⊎_elim (λ check. absurd (none (codes "ok") (subst (λ c. IsAnswer c paths input (codes "ok")) (sym check) refl))) (λ e. e) ends

-- the words whose answer is refused are refused
pub refused_answer : (words : List (List ℕ)) (command : Command) (paths : List (List ℕ)) (input : List ℕ) (ended : Bool) (error : JsonPathError)
    → IsSound words command paths → (command ≡ Check) ⊎ (ended ≡ true) → IsAnswerRefused command paths input error → IsRefusal words input ended error
refused_answer words command paths input ended EmptyPath sound ends h = h
refused_answer words command paths input ended EmptyValue sound ends h = h
refused_answer words command paths input ended (Path m) sound ends h = absurd h
refused_answer words command paths input ended (Serde m) sound ends h =
    (record { command = command; paths = paths; sound = sound; unanswered = h }, ended_or_check command paths input ended h.0 ends)
refused_answer words command paths input ended OutOfMemory sound ends h = tt
