-- An input has no answer where an unread number stands in what would be written.
use Rattle.std.proofs.Common.{◌≡◌, ℕ, List, [], ◌∷◌, inr, map, Some, None, sym, subst, ap, ◌∙◌}
use Rattle.serde_json.specs.Data.{Data}
use Rattle.jsonpath_nodes.specs.document.OfData.{document_of, DocumentsKeepDataApart}
use Rattle.jsonpath_paths.specs.Spelling.{Spells}
use Rattle.jsonpath_paths.specs.tree.Tree.{Path}
use Rattle.jsonpath_select.specs.Meaning.{Selects}
use Rattle.jsonpath_select.specs.answer.Given.{IsTextRefusedOf}
use Rattle.jsonpath_select.specs.answer.AnswerText.{IsTextOf, list_text, document_text}
use Rattle.jsonpath_select.specs.declared.error.JsonPathError.{JsonPathError}
use Rattle.jsonpath_select.specs.declared.error.JsonPathError.TheVariants.{EmptyPath, EmptyValue, Path as path, Serde, OutOfMemory}
use Rattle.jsonpath_lib.specs.Text.{IsChangedTextRefused}
use Rattle.jsonpath_run.specs.declared.words.Command.{Command}
use Rattle.jsonpath_run.specs.declared.words.Command.TheVariants.{Select, Delete, Remove, Check, Mask}
use Rattle.jsonpath_run.specs.Output.{SelectsText, IsChange, ChangesText, IsAnswer, HasNoAnswer, IsAnswerRefused}
use Rattle.jsonpath_run.proofs.RefusalLemmas.{one_document, same_text}
use Rattle.jsonpath_run.proofs.OneOutputLemmas.{same_data, one_selection_per_text, one_change}

-- the text of what a command makes of a document is its answer
pub answer_of : (command : Command) (paths : List (List ℕ)) (input line : List ℕ) (before after : Data) → IsTextOf input before → IsChange command paths (document_of before) (document_of after) → document_text after ≡ Some line → IsAnswer command paths input line
answer_of Select paths input line before after read changed written = absurd changed
answer_of Delete paths input line before after read changed written = record { before = before; after = after; read = read; changed = changed; written = written }
answer_of Remove paths input line before after read changed written = record { before = before; after = after; read = read; changed = changed; written = written }
answer_of Check paths input line before after read changed written = absurd changed
answer_of Mask paths input line before after read changed written = record { before = before; after = after; read = read; changed = changed; written = written }

module _ (one_tree_per_text : (text : List ℕ) (p q : Path) → Spells text p → Spells text q → p ≡ q) (apart : DocumentsKeepDataApart) where
  no_values : (text input : List ℕ) (document : Data) (values : List Data) → IsTextOf input document → Selects text (document_of document) (map document_of values) → list_text values ≡ None → HasNoAnswer Select (text ∷ []) input
  no_values text input document values read selected unread line a =
      let s = subst (λ t. SelectsText t input line) (same_text text a.0 a.1) a.2 in
      let d : s.document ≡ document = one_document input s.document document s.read read in
      let v : s.values ≡ values = same_data apart s.values values
      (one_selection_per_text one_tree_per_text apart text (document_of document) (map document_of s.values) (map document_of values) (subst (λ x. Selects text (document_of x) (map document_of s.values)) d s.selected) selected) in
      let e : Some line ≡ None = sym s.written ∙ ap list_text v ∙ unread in cc

  pub unread_values : (text input : List ℕ) (document : Data) (error : JsonPathError)
      → IsTextOf input document → IsTextRefusedOf (Selects text (document_of document)) error → IsAnswerRefused Select (text ∷ []) input error
  unread_values text input document EmptyPath read h = h
  unread_values text input document EmptyValue read h = h
  unread_values text input document (path m) read h = h
  unread_values text input document (Serde m) read h = (no_values text input document h.0 read h.1 h.2, inr ((document, read), h.3))
  unread_values text input document OutOfMemory read h = tt

  no_change : (command : Command) (paths : List (List ℕ)) (input line : List ℕ) (before after : Data) → IsTextOf input before → IsChange command paths (document_of before) (document_of after) → document_text after ≡ None → ¬ ChangesText command paths input line
  no_change command paths input line before after read changed unread s =
      let d : s.before ≡ before = one_document input s.before before s.read read in
      let v : s.after ≡ after = apart s.after after
      (one_change one_tree_per_text apart command paths (document_of before) (document_of s.after) (document_of after) (subst (λ x. IsChange command paths (document_of x) (document_of s.after)) d s.changed) changed) in
      let e : Some line ≡ None = sym s.written ∙ ap document_text v ∙ unread in cc

  none_changed : (command : Command) (paths : List (List ℕ)) (input : List ℕ) (before after : Data) → IsTextOf input before → IsChange command paths (document_of before) (document_of after) → document_text after ≡ None → HasNoAnswer command paths input
  none_changed Select paths input before after read changed unread = absurd changed
  none_changed Delete paths input before after read changed unread = λ line a. no_change Delete paths input line before after read changed unread a
  none_changed Remove paths input before after read changed unread = λ line a. no_change Remove paths input line before after read changed unread a
  none_changed Check paths input before after read changed unread = absurd changed
  none_changed Mask paths input before after read changed unread = λ line a. no_change Mask paths input line before after read changed unread a

  pub unread_change : (command : Command) (paths : List (List ℕ)) (input : List ℕ) (before : Data) (error : JsonPathError)
      → IsTextOf input before → IsChangedTextRefused (IsChange command paths (document_of before)) error → IsAnswerRefused command paths input error
  unread_change command paths input before EmptyPath read h = h
  unread_change command paths input before EmptyValue read h = h
  unread_change command paths input before (path m) read h = h
  unread_change command paths input before (Serde m) read h = (none_changed command paths input before h.0 read h.1 h.2, inr ((before, read), h.3))
  unread_change command paths input before OutOfMemory read h = tt
