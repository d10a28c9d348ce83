use Rattle.std.proofs.Common.{map, ap, ◌∙◌}
use Rattle.json.specs.Value.{value_view}
use Rattle.jsonpath_nodes.specs.place.Order.{once_in_order}
use Rattle.json_trees.specs.ExactDocument.{exact_document}
use Rattle.jpath_core.specs.Nodes.{location_of}
use Rattle.jpath_core.proofs.LineLemmas.{locations_of}
use Rattle.jpath_core.proofs.edit.select_locations_in_document_order.Goals as goal

pub returns-clause-targets : goal.returns-clause-targets
returns-clause-targets c =
    let found = c.in_ok-nodes.ensures in
    record {
      path = found.path;
      spelled = found.spelled;
      holds = c.in_ok-places.ensures.once ∙ ap (λ ns. once_in_order (map location_of ns)) c.as_slice.ensures.value
          ∙ ap once_in_order (locations_of (exact_document (value_view c.args.document.now.exact)) _ c.in_ok-nodes.nodes.items found.holds);
    }
