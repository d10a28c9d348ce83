use Rattle.std.proofs.Common.{subst}
use Rattle.std.proofs.lemmas.Result.{IfErr-weaker}
use Rattle.jsonpath_nodes.specs.document.OfData.{document_of}
use Rattle.jsonpath_select.specs.Meaning.{Selects}
use Rattle.jsonpath_select.specs.answer.AnswerText.{IsTextOf}
use Rattle.jsonpath_select.specs.answer.Given.{IsTextRefusedOf}
use Rattle.jsonpath_lib.proofs.JsonTextRefusedLemmas.{text_refused}
use Rattle.jsonpath_lib.proofs.functions.selecting.select_as_str.Goals as goal

pub returns-clause-refused : goal.returns-clause-refused
returns-clause-refused c =
    let document = c.in_ok-text.ensures.ok in
    let read = subst (λ bytes. IsTextOf bytes document.0) c.as_bytes.ensures.value document.1 in
    IfErr-weaker c.select_as_str.result _ _
    (λ e refused. text_refused c.args.json.now c.args.path.now document.0 e read (subst (λ path. IsTextRefusedOf (Selects path (document_of document.0)) e) c.in_ok-compiled.ensures.text (refused document.0 document.2)))
    c.select_as_str.ensures.refused
