use Rattle.std.proofs.Common.{◌≡◌, ◌++◌, length, map, sym, ap, ◌∙◌, arith}
use Rattle.std.proofs.lemmas.List.{length-map}
use Rattle.json.specs.Value.{value_view}
use Rattle.jsonpath_select.specs.Meaning.{sel}
use Rattle.json_trees.specs.ExactDocument.{exact_document}
use Rattle.jpath_core.specs.Matches.{lines_text}
use Rattle.jpath_core.specs.Nodes.{location_of}
use Rattle.jpath_core.proofs.LineLemmas.{locations_of}
use Rattle.jpath_core.proofs.output.matches.add_lines_for_path.Goals as goal

pub returns : goal.returns
returns c = λ p spelled.
    let text = c.args.query.now.path in
    let exact = value_view c.args.document.now.exact in
    let nodes = c.in_ok-nodes.nodes.items in
    let found = c.in_ok-nodes.ensures in
    let stand : map location_of nodes ≡ sel text (exact_document exact) p =
    locations_of (exact_document exact) _ nodes found.holds ∙ ap (sel text (exact_document exact)) (c.one_tree_per_text.ensures text found.path p found.spelled spelled) in
    let lent : map location_of c.as_slice.result.now ≡ map location_of nodes = ap (map location_of) c.as_slice.ensures.value in
    let root = ap (λ v. value_view v) c.root.ensures in
    let counted : c.len.result ≡ length nodes = grind arith in
    record {
      written = c.in_ok-add_lines_of_nodes.ensures ∙ ap (λ j. c.args.out.now.items ++ lines_text c.args.line.now j (map location_of c.as_slice.result.now)) root ∙ ap (λ ls. c.args.out.now.items ++ lines_text c.args.line.now exact ls) (lent ∙ stand);
      counted = counted ∙ sym (length-map nodes location_of) ∙ ap length stand;
    }
