use Rattle.jsonpath_lib.proofs.FoundLemmas.{selected_first, selected_done, selected_more, selected_as_good}
use Rattle.jsonpath_lib.proofs.update.several_paths.select_paths_in_any_order.Goals as goal

pub loop-path-init : goal.loop-path-init
loop-path-init g c = selected_first g.T.Name.Name.bytes g.T.Tree.content c.args.paths.now (g.T.Tree.content c.args.root) c.new-nodes.result.items c.new-nodes.ensures.items

pub returns : goal.returns
returns g c =
    let sets = c.steps_ignore_order_and_repeats.ensures in
    selected_done c.locations_once_in_order_ascend.ensures.members sets.joined sets.one_list g.T.Name.Name.bytes g.T.Tree.content c.args.paths.now c.loop-path.path-index (g.T.Tree.content c.args.root) c.loop-path.nodes.items c.loop-path-test.false c.loop-path.invariant

pub loop-path-preserved : goal.loop-path-preserved
loop-path-preserved g c =
    let sets = c.steps_ignore_order_and_repeats.ensures in
    let keeps = c.locations_once_in_order_ascend.ensures.members in
    let bytes = g.T.Name.Name.bytes in
    let content = g.T.Tree.content in
    let doc = content c.args.root in
    let more =
    selected_more keeps sets.joined sets.one_list bytes content c.args.paths.now c.loop-path.path-index doc c.in_ok-found.found.items c.loop-path.nodes.items c.append.new.self.items c.path-item.result c.path-item.result
    c.loop-path-test.true c.path-item.is c.in_ok-found.ensures c.in_ok-append.ensures.items c.loop-path.invariant in
    selected_as_good keeps sets.joined sets.one_list bytes content c.args.paths.now _ doc c.append.new.self.items c.in_ok-nodes.nodes.items c.in_ok-nodes.ensures more
