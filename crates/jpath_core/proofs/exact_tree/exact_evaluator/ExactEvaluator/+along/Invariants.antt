use Rattle.std.proofs.Common.{◌≡◌, false, ◌+◌, ◌*◌, drop, length}
use Rattle.json.specs.Tree.{ItemsHaveNumbers}
use Rattle.json.specs.Value.{items_view}
use Rattle.jsonpath_paths.specs.tree.View.{steps_of_list}
use Rattle.jpath_core.specs.AlongExactTree.{after, list_of, rest_from, walk_all}
use Rattle.jpath_core.proofs.exact_tree.exact_evaluator.ExactEvaluator.+along.Given as goal

abbrev pub decreases-add_lines_from_value : goal.decreases-add_lines_from_value
decreases-add_lines_from_value l = 5 * length l.steps.now

abbrev pub decreases-add_lines_from_member : goal.decreases-add_lines_from_member
decreases-add_lines_from_member l = 5 * length l.rest.now + 1

abbrev pub decreases-add_lines_from_items : goal.decreases-add_lines_from_items
decreases-add_lines_from_items l = 5 * length l.rest.now + 3

abbrev pub decreases-add_lines_from_each_kept : goal.decreases-add_lines_from_each_kept
decreases-add_lines_from_each_kept l = 5 * length l.rest.now + 2

abbrev pub decreases-add_lines_from_candidates : goal.decreases-add_lines_from_candidates
decreases-add_lines_from_candidates l = 5 * length l.rest.now + 3

abbrev pub decreases-add_lines_if_kept : goal.decreases-add_lines_if_kept
decreases-add_lines_if_kept l = 5 * length l.rest.now + 1

-- what is written so far, and what the items that are left give, is what all items give
abbrev pub invariant-add_lines_from_each_kept-loop-item : goal.invariant-add_lines_from_each_kept-loop-item
invariant-add_lines_from_each_kept-loop-item l =
    let rest = items_view (drop l.item-index l.item-items) in
    let from = rest_from l.self.text.now (steps_of_list l.rest) l.kept in
    (l.lines.has_fraction ≡ false → l.initial.lines.has_fraction ≡ false)
    × (l.lines.has_fraction ≡ false
    → after l.self.line l.lines (walk_all from (list_of rest)) ≡ after l.self.line l.initial.lines (walk_all from (list_of (items_view l.item-items))))
    × ItemsHaveNumbers rest
