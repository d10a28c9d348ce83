-- What `serde_json` finds by an index or a name is what the step leads to.
use Rattle.std.proofs.Common.{sym, ap, ◌∙◌, string_bytes}
use Rattle.serde_json.specs.Find as kept_find
use Rattle.serde_json.specs.View.{view}
use Rattle.jsonpath_nodes.specs.document.OfData.{value_document}
use Rattle.jsonpath_nodes.specs.place.Location.{child}
use Rattle.jsonpath_nodes.specs.place.Owned.{owned_step}
use Rattle.jsonpath_nodes.proofs.tree.ValueLemmas.{value_by_name, value_by_index}
use Rattle.jsonpath_nodes.proofs.update.single.child_of.Goals as goal

pub returns-in-Index : goal.returns-in-Index
returns-in-Index c =
    value_by_index c.in-Index.i c.args.value.now c.get.result c.get.ensures ∙ ap (λ s. child (owned_step s) (value_document c.args.value.now)) (sym c.in-Index.is)

pub returns-in-Name : goal.returns-in-Name
returns-in-Name c =
    let is = value_by_name (string_bytes c.in-Name.name) c.args.value.now c.get-in-Name.result (c.get-in-Name.ensures ∙ ap (λ k. kept_find.get k (view c.args.value.now)) c.as_str.ensures.value) in
    is ∙ ap (λ s. child (owned_step s) (value_document c.args.value.now)) (sym c.in-Name.is)
