use Rattle.std.proofs.Common.{arith}
use Rattle.std.proofs.lemmas.List.{length-map}
use Rattle.json_trees.specs.Way.{passed_view}
use Rattle.json_trees.proofs.WayLemmas.{leads, within}
use Rattle.json_trees.proofs.ordered_tree.way.+value_from.Goals as goal

pub overflow_add-depth : goal.overflow_add-depth
overflow_add-depth t c =
    let passed = c.args.passed.now in
    omega (arith, within _ _ _ _ c.requires, length-map passed.items passed_view, passed.ok.0, passed.ok.1, passed.small)

pub returns-in-None-clause-leads : goal.returns-in-None-clause-leads
returns-in-None-clause-leads t c = leads _ _ _ _ c.requires
