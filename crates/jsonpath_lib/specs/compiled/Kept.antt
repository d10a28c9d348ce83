-- What is kept for later calls: a compiled path for many documents, or a document for many path texts.
use Rattle.std.specs.Prelude.{◌≡◌, ℕ, List, map, true, MatchResult}
use Rattle.serde_json.specs.Data.{Data}
use Rattle.serde_json.specs.View.{view}
use Rattle.jsonpath_nodes.specs.document.Document.{Document}
use Rattle.jsonpath_nodes.specs.document.OfData.{document_of}
use Rattle.jsonpath_select.specs.ErrorCases.{IsRefusedBy}
use Rattle.jsonpath_select.specs.JsonPathErrors.{IsPathRefused, IsFaultError}
use Rattle.jsonpath_select.specs.compile.Faults.{IsParseRefused}
use Rattle.jsonpath_paths.specs.Spelling.{IsInGrammar}
use Rattle.jsonpath_select.specs.Meaning.{Selects}
use Rattle.jsonpath_select.specs.answer.Given.{IsTypedCountOf}
use Rattle.jsonpath_select.specs.answer.AnswerText.{holds_unread, IsUnreadError}
use Rattle.jsonpath_select.specs.declared.error.JsonPathError.{JsonPathError}
use Rattle.jsonpath_select.specs.declared.error.JsonPathError.TheVariants.{Path, Serde, OutOfMemory}
use Rattle.jsonpath_lib.specs.declared.compiled.path_or_refusal.CompiledPath.{CompiledPath}
use Rattle.jsonpath_lib.specs.declared.selectors.path_selector.PathSelector.{PathSelector}
use Rattle.jsonpath_lib.specs.declared.selectors.path_selector.PathSelectorAs.{PathSelectorAs}

-- what is kept of a path text: the compiled path, which has that text, or why there is none
abbrev pub KeepsPath : List ℕ → CompiledPath → Type 0
KeepsPath text kept = MatchResult kept.outcome (λ path. (path ≡ text) × IsInGrammar text) (IsParseRefused text)

-- the kept path selects these values
abbrev pub AnswersKept : CompiledPath → Document → List Document → Type 0
AnswersKept kept document values = MatchResult kept.outcome (λ path. Selects path document values) (λ fault. ⊥)

-- the kept fault is answered, or memory ran out
abbrev pub RefusesKept : CompiledPath → JsonPathError → Type 0
RefusesKept kept error = MatchResult kept.outcome (λ path. error ≡ OutOfMemory) (λ fault. IsFaultError fault error)

-- the document
abbrev pub held_document : PathSelector → Document
held_document selector = document_of (view selector.json.now)

abbrev pub typed_held_document : {T : Type 0} → PathSelectorAs T → Document
typed_held_document selector = document_of (view selector.json.now)

-- the path selects so many values in the document, and no unread number stands in them
abbrev pub IsCountIn : Document → List ℕ → ℕ → Type 0
IsCountIn document text count = IsTypedCountOf (Selects text document) count

-- The text is no path, or a selected value is no value of the type; an unread number in one is named by the message.
abbrev pub IsTypedRefusedIn : Document → List ℕ → JsonPathError → Type 0
IsTypedRefusedIn document text error =
    IsRefusedBy (λ message. IsPathRefused text (Path message)) (λ message. (values : List Data) × Selects text document (map document_of values) × (holds_unread values ≡ true → IsUnreadError (Serde message))) error
