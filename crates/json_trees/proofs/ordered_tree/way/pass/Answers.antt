use Rattle.std.proofs.Common.{◌∷◌, [], ◌++◌, map, ap, ◌∙◌}
use Rattle.std.proofs.lemmas.List.{map-append}
use Rattle.std.specs.List.{take-map}
use Rattle.json_trees.specs.Way.{passed_view}
use Rattle.json_trees.proofs.ordered_tree.way.pass.Goals as goal

pub returns-clause-added : goal.returns-clause-added
returns-clause-added c =
    let items = c.in_ok-push.ensures.items ∙ ap (λ kept. kept ++ record { step = c.args.step; value = c.args.value } ∷ []) c.truncate.ensures.items in
    rw (take-map passed_view c.args.depth c.args.passed.now.items) (ap (map passed_view) items ∙ map-append passed_view _ _)
