use Rattle.std.proofs.Common.{map, ap, subst, ◌∙◌}
use Rattle.json.specs.Value.{value_view}
use Rattle.jsonpath_select.specs.Meaning.{SelectsNodes}
use Rattle.json_trees.specs.ExactDocument.{document_at, exact_document, name_bytes}
use Rattle.jpath_core.specs.Nodes.{location_of}
use Rattle.jpath_core.specs.Rows.{first_field}
use Rattle.jpath_core.proofs.LineLemmas.{locations_of}
use Rattle.jpath_core.proofs.output.table.field_of_column.Goals as goal

pub returns : goal.returns
returns c =
    let exact = value_view c.args.value.value.now in
    let nodes = c.in_ok-nodes.nodes.items in
    let found = subst (λ text. SelectsNodes name_bytes document_at text (exact_document exact) nodes) c.path.ensures c.in_ok-nodes.ensures in
    record {
      path = found.path;
      spelled = found.spelled;
      holds = c.in_ok-field_of_first.ensures ∙ ap (λ ns. first_field exact (map location_of ns)) c.as_slice.ensures.value
          ∙ ap (first_field exact) (locations_of (exact_document exact) _ nodes found.holds);
    }
