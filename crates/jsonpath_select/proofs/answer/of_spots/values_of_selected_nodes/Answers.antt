use Rattle.std.proofs.Common.{◌≡◌, ◌≤◌, ◌++◌, true, map, length, sym, ap, ◌∙◌, append-nil, drop_of_length-le, arith}
use Rattle.jsonpath_nodes.specs.place.SpotPlace.{place_location, place_value}
use Rattle.jsonpath_select.specs.Meaning.{sel}
use Rattle.jsonpath_select.proofs.walk.MarkLemmas.{contents-at}
use Rattle.jsonpath_select.proofs.answer.of_spots.values_of_selected_nodes.Goals as goal

pub returns : goal.returns
returns g c = λ text doc selects.
    let nodes = c.args.nodes.now in
    let value = place_value g.T.Tree.content in
    let values = map g.T.Tree.content c.loop-node.found.items in
    let past : length nodes ≤ c.loop-node.node-index = omega arith in
    let none = drop_of_length-le nodes {i = c.loop-node.node-index} past in
    let same : values ≡ map value nodes = sym (append-nil values) ∙ ap (λ ns. values ++ map value ns) (sym none) ∙ c.loop-node.invariant in
    record {
      path = selects.path;
      spelled = selects.spelled;
      holds = same ∙ contents-at true (place_location g.T.Name.Name.bytes) value doc (sel text doc selects.path) nodes selects.holds;
    }
