use Rattle.std.proofs.Common.{◌≡◌, List, Option, ◌+◌, ◌∷◌, drop, true, false, Some, sym, ap, subst, ◌∙◌, arith, rules}
use Rattle.std.proofs.lemmas.List.{drop_more}
use Rattle.std.specs.Prelude.{IfOk}
use Rattle.json.specs.Json as json
use Rattle.json.specs.Json.{Json}
use Rattle.json.specs.Find.{get}
use Rattle.json.specs.Tree.{HasNumbers, ItemsHaveNumbers}
use Rattle.json.proofs.Numbered.{HasNumbers-get}
use Rattle.json.proofs.Trees.{view-Array}
use Rattle.jsonpath_paths.specs.tree.Tree as tree
use Rattle.json.specs.Value.{value_view, items_view}
use Rattle.jsonpath_paths.specs.tree.View.{condition_of, steps_of_list}
use Rattle.jpath_core.specs.AlongExactTree.{after, is_simple, list_of, next, rest_from, walk_all, written}
use Rattle.jpath_core.proofs.WalkLemmas.{after_more, kept_all}
use Rattle.jpath_core.proofs.exact_tree.exact_evaluator.ExactEvaluator.+along.Goals as goal

pub add_lines_from_member-add_lines_from_value-requires : goal.add_lines_from_member-add_lines_from_value-requires
add_lines_from_member-add_lines_from_value-requires t c =
    let name = c.in-Some.name.now in
    let member = value_view c.in-Some-get.member.now in
    let stands : Some member ≡ get name (value_view c.args.value.now) = grind arith in
    let numbers : HasNumbers member = HasNumbers-get name (value_view c.args.value.now) member c.requires stands in
    search rules

pub add_lines_from_each_kept-loop-item-preserved : goal.add_lines_from_each_kept-loop-item-preserved
add_lines_from_each_kept-loop-item-preserved t c =
    let l = c.loop-item in
    let xs = c.deref-item-items.result.now in
    let x = c.item-item.result in
    let here : drop l.item-index xs ≡ x ∷ drop (l.item-index + 1) xs = drop_more xs l.item-index x (omega arith) ∙ ap (λ y. y ∷ drop (l.item-index + 1) xs) (sym c.item-item.is) in
    let from = rest_from c.args.self.now.text.now (steps_of_list c.args.rest.now) c.args.kept in
    let line = c.args.self.now.line in
    let done = c.in_ok-add_lines_if_kept.ensures in (
      λ h. l.invariant.0 (done.stays h),
      λ h. after_more line l.lines c.add_lines_if_kept.new.lines (from (value_view x)) (walk_all from (list_of (items_view (drop (l.item-index + 1) xs)))) (done.adds c.if-not-branch.false h)
          ∙ ap (λ ys. after line l.lines (walk_all from (list_of (items_view ys)))) (sym here) ∙ l.invariant.1 (done.stays h),
      (subst (λ ys. ItemsHaveNumbers (items_view ys)) here l.invariant.2).1,
    )

pub add_lines_from_candidates-returns-in-Array-clause-adds : goal.add_lines_from_candidates-returns-in-Array-clause-adds
add_lines_from_candidates-returns-in-Array-clause-adds t c =
    let text = c.args.self.now.text.now in
    let rest = steps_of_list c.args.rest.now in
    let condition = condition_of c.args.condition.now in
    let items = items_view c.in-Array.items.items in
    let simple : is_simple condition ≡ true = sym c.is_on_members_alone.ensures ∙ c.if-not-is_on_members_alone.false in
    let seen : value_view c.args.value.now ≡ json.array items = ap value_view c.in-Array.is ∙ view-Array c.in-Array.items in
    subst (λ (r : Option (List Json)). IfOk c.add_lines_from_each_kept.result (λ goes. goes ≡ true → c.add_lines_from_each_kept.new.lines.has_fraction ≡ false → Some (written c.add_lines_from_each_kept.new.lines) ≡ after c.args.self.now.line c.args.lines.now r))
    (kept_all text rest condition items simple ∙ ap (next text rest (tree.filter condition)) (sym seen)) c.add_lines_from_each_kept.ensures.adds
