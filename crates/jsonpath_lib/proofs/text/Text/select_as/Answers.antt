use Rattle.std.proofs.Common.{map, subst, vec_len}
use Rattle.std.proofs.lemmas.Result.{IfErr-weaker, IfOk-weaker}
use Rattle.serde_json.specs.Data.{Data}
use Rattle.json_trees.specs.AsRead.{text_document}
use Rattle.jsonpath_nodes.specs.document.OfData.{document_of}
use Rattle.jsonpath_select.specs.Meaning.{Selects}
use Rattle.jsonpath_select.specs.answer.Given.{IsTypedCountOf, IsTypedRefusedOf}
use Rattle.jsonpath_lib.specs.Text.{IsTreeOf, AreTyped, AreTypedRefused}
use Rattle.jsonpath_lib.proofs.TextLemmas.{typed_of_selected, no_typed_of_selected}
use Rattle.jsonpath_lib.proofs.text.Text.select_as.Goals as goal

pub returns-clause-ok : goal.returns-clause-ok
returns-clause-ok g c =
    let path = g.P.AnyPath.spelling c.args.path.now in
    IfOk-weaker c.typed_values.result (λ v. AreTyped (map text_document c.as_slice.result.now) (vec_len v))
    (λ v. (document : Data) → IsTreeOf c.args.self.now document → IsTypedCountOf (Selects path (document_of document)) (vec_len v))
    (λ v are document tree.
    typed_of_selected path document (map text_document c.in_ok-found.found.items) (c.in_ok-found.ensures.ok document tree) (vec_len v) (subst (λ vs. AreTyped (map text_document vs) (vec_len v)) c.as_slice.ensures.value are)) c.typed_values.ensures.ok

pub returns-clause-refused : goal.returns-clause-refused
returns-clause-refused g c =
    let path = g.P.AnyPath.spelling c.args.path.now in
    IfErr-weaker c.typed_values.result (AreTypedRefused (map text_document c.as_slice.result.now))
    (λ e. (document : Data) → IsTreeOf c.args.self.now document → IsTypedRefusedOf (Selects path (document_of document)) e)
    (λ e refused document tree.
    no_typed_of_selected path document (map text_document c.in_ok-found.found.items) (c.in_ok-found.ensures.ok document tree) e (subst (λ vs. AreTypedRefused (map text_document vs) e) c.as_slice.ensures.value refused)) c.typed_values.ensures.refused
