use Rattle.json.specs.Value.{value_view}
use Rattle.jpath_core.proofs.EditLemmas.{appended}
use Rattle.jpath_core.proofs.grow.append_text.Goals as goal

pub returns-in-Some : goal.returns-in-Some
returns-in-Some c =
    appended c.args.query.now.path c.args.value.now (value_view c.args.document.now.exact) c.args.text.now _ c.in_ok-places.places.items c.as_slice.result.now c.in_ok-edited.field-0 c.in-Some.edited c.in-Some.is c.as_slice.ensures.value
    c.in_ok-edited.ensures c.in_ok-places.ensures.targets c.in_ok-item.ensures.ok
