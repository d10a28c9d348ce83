use Rattle.std.proofs.Common.{◌≡◌, length, map, sym, ap, ◌∙◌, arith}
use Rattle.std.proofs.lemmas.List.{length-map}
use Rattle.json.specs.Value.{value_view}
use Rattle.jsonpath_select.specs.Meaning.{sel}
use Rattle.json_trees.specs.ExactDocument.{exact_document}
use Rattle.jpath_core.specs.Nodes.{location_of}
use Rattle.jpath_core.proofs.LineLemmas.{locations_of}
use Rattle.jpath_core.proofs.output.matches.count_matches_of_path.Goals as goal

pub returns : goal.returns
returns c = λ p spelled.
    let text = c.args.query.now.path in
    let document = exact_document (value_view c.args.document.now.exact) in
    let found = c.in_ok-select_in_document.ensures in
    let nodes = c.in_ok-select_in_document.field-0.items in
    let stand : map location_of nodes ≡ sel text document p = locations_of document _ nodes found.holds ∙ ap (sel text document) (c.one_tree_per_text.ensures text found.path p found.spelled spelled) in
    let counted : c.len.result ≡ length nodes = grind arith in
    counted ∙ sym (length-map nodes location_of) ∙ ap length stand
