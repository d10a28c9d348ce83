use Rattle.std.proofs.Common.{◌≡◌, List, [], ◌∷◌, map, Some, Result, Ok, Err, IfOk, String, Global, string_bytes, refl, ap, subst, Bor}
use Rattle.serde_json.specs.Data.{Data}
use Rattle.serde_json.specs.View.{view}
use Rattle.serde_json.specs.declared.value.Value.{Value}
use Rattle.jsonpath_nodes.specs.document.Document.{Document}
use Rattle.jsonpath_nodes.specs.document.OfData.{document_of, value_document}
use Rattle.jsonpath_select.specs.Meaning.{Selects}
use Rattle.jsonpath_select.specs.answer.AnswerText.{list_text}
use Rattle.jsonpath_uses.proofs.answers.column_text.Goals as goal

documents_in : (vs : List (Bor Value)) → map (λ v. document_of (view v.now)) vs ≡ map document_of (map (λ v. view v.now) vs)
documents_in [] = refl
documents_in (v ∷ vs) = ap (λ ds. document_of (view v.now) ∷ ds) (documents_in vs)

text_told : (Answers : List Document → Type 0) (vs : List (Bor Value)) {E : Type 0} (r : Result (String Global) E) → Answers (map (λ v. document_of (view v.now)) vs)
    → IfOk r (λ text. list_text (map (λ v. view v.now) vs) ≡ Some (string_bytes text)) → IfOk r (λ text. (values : List Data) × Answers (map document_of values) × (list_text values ≡ Some (string_bytes text)))
text_told Answers vs (Ok text) answered h = (map (λ v. view v.now) vs, subst Answers (documents_in vs) answered, h)
text_told Answers vs (Err error) answered h = tt

pub returns : goal.returns
returns c =
    text_told (Selects c.args.path.now (value_document c.args.json.now)) c.as_slice.result.now _ (rw c.as_slice.ensures.value c.in_ok-found.ensures.ok) c.list_to_text.ensures.ok
