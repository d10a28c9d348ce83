-- What is told of the data of some values is told of an answer by their documents.
use Rattle.std.proofs.Common.{◌≡◌, ℕ, List, map, length, false, Result, Ok, Err, IfOk, IfErr, OnOk, String, Global, string_bytes, Some, sym, ◌∙◌, subst, Bor}
use Rattle.std.proofs.lemmas.List.{length-map}
use Rattle.std.proofs.lemmas.Result.{IfOk-weaker, IfErr-weaker}
use mathlib.Core.List.{map-map}
use Rattle.serde_json.specs.Data.{Data}
use Rattle.serde_json.specs.View.{view}
use Rattle.serde_json.specs.declared.value.Value.{Value}
use Rattle.jsonpath_nodes.specs.document.Document.{Document}
use Rattle.jsonpath_nodes.specs.document.OfData.{document_of}
use Rattle.jsonpath_select.specs.answer.AnswerText.{list_text, holds_unread, IsListTextRefused, IsTypedRefused}
use Rattle.jsonpath_select.specs.answer.Given.{IsTextOfAnswer, IsTypedCountOf, IsTextRefusedOf, IsTypedRefusedOf}
use Rattle.jsonpath_select.specs.declared.error.JsonPathError.{JsonPathError}
use Rattle.jsonpath_select.specs.declared.error.JsonPathError.TheVariants.{EmptyPath, EmptyValue, Path, Serde, OutOfMemory}

abbrev data_in : List (Bor Value) → List Data
data_in vs = map (λ v. view v.now) vs

module _ (Answers : List Document → Type 0) (vs : List (Bor Value)) (answered : Answers (map (λ v. document_of (view v.now)) vs)) where
  by_data : Answers (map document_of (data_in vs))
  by_data = subst Answers (sym (map-map document_of (λ v. view v.now) vs)) answered

  pub text_told : (r : Result (String Global) JsonPathError) → IfOk r (λ text. list_text (data_in vs) ≡ Some (string_bytes text)) → IfOk r (λ text. IsTextOfAnswer Answers (string_bytes text))
  text_told r = IfOk-weaker r _ _ (λ text h. (data_in vs, by_data, h))

  text_refusal : (error : JsonPathError) → IsListTextRefused (data_in vs) error → IsTextRefusedOf Answers error
  text_refusal EmptyPath h = h
  text_refusal EmptyValue h = h
  text_refusal (Path message) h = h
  text_refusal (Serde message) h = (data_in vs, by_data, h.0, h.1)
  text_refusal OutOfMemory h = tt

  pub text_refused : {A : Type 0} (r : Result A JsonPathError) → IfErr r (IsListTextRefused (data_in vs)) → IfErr r (IsTextRefusedOf Answers)
  text_refused r = IfErr-weaker r _ _ text_refusal

  pub typed_told : {A : Type 0} (size : A → ℕ) (r : Result A JsonPathError) → IfOk r (λ found. size found ≡ length vs) → OnOk r (holds_unread (data_in vs) ≡ false) → IfOk r (λ found. IsTypedCountOf Answers (size found))
  typed_told size (Ok found) h k = (data_in vs, by_data, h ∙ sym (length-map vs (λ v. view v.now)), k)
  typed_told size (Err error) h k = tt

  typed_refusal : (error : JsonPathError) → IsTypedRefused (data_in vs) error → IsTypedRefusedOf Answers error
  typed_refusal EmptyPath h = h
  typed_refusal EmptyValue h = h
  typed_refusal (Path message) h = h
  typed_refusal (Serde message) h = (data_in vs, by_data, h)
  typed_refusal OutOfMemory h = tt

  pub typed_refused : {A : Type 0} (r : Result A JsonPathError) → IfErr r (IsTypedRefused (data_in vs)) → IfErr r (IsTypedRefusedOf Answers)
  typed_refused r = IfErr-weaker r _ _ typed_refusal
