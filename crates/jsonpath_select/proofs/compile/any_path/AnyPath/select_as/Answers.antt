use Rattle.jsonpath_nodes.specs.document.OfData.{value_document}
use Rattle.jsonpath_select.specs.Meaning.{Selects}
use Rattle.jsonpath_select.proofs.answer.GivenLemmas.{typed_told, typed_refused}
use Rattle.jsonpath_select.proofs.compile.any_path.AnyPath.select_as.Goals as goal

pub returns-clause-ok : goal.returns-clause-ok
returns-clause-ok g c =
    typed_told (Selects (g.Self.AnyPath.spelling c.args.self.now) (value_document c.args.value.now)) c.as_slice.result.now (rw c.as_slice.ensures.value c.in_ok-found.ensures.ok) _ _ c.list_to_typed.ensures.count c.list_to_typed.ensures.read

pub returns-clause-refused : goal.returns-clause-refused
returns-clause-refused g c = typed_refused (Selects (g.Self.AnyPath.spelling c.args.self.now) (value_document c.args.value.now)) c.as_slice.result.now (rw c.as_slice.ensures.value c.in_ok-found.ensures.ok) _ c.list_to_typed.ensures.refused
