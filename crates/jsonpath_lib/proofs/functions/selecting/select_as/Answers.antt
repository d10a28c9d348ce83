use Rattle.std.proofs.Common.{subst}
use Rattle.std.proofs.lemmas.Result.{IfErr-weaker}
use Rattle.jsonpath_nodes.specs.document.OfData.{document_of}
use Rattle.jsonpath_select.specs.Meaning.{Selects}
use Rattle.jsonpath_select.specs.answer.AnswerText.{IsTextOf}
use Rattle.jsonpath_select.specs.answer.Given.{IsTypedRefusedOf}
use Rattle.jsonpath_lib.proofs.JsonTextRefusedLemmas.{typed_refused}
use Rattle.jsonpath_lib.proofs.functions.selecting.select_as.Goals as goal

pub returns-clause-refused : goal.returns-clause-refused
returns-clause-refused g c =
    let document = c.in_ok-text.ensures.ok in
    let read = subst (λ bytes. IsTextOf bytes document.0) c.as_bytes.ensures.value document.1 in
    IfErr-weaker c.select_as.result _ _
    (λ e refused. typed_refused c.args.json.now c.args.path.now document.0 e read (subst (λ path. IsTypedRefusedOf (Selects path (document_of document.0)) e) c.in_ok-compiled.ensures.text (refused document.0 document.2)))
    c.select_as.ensures.refused
