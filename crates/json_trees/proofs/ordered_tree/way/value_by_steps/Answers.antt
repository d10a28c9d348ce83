use Rattle.std.proofs.Common.{◌≡◌, ◌≤◌, IfOk, map, option_map, length, take, sym, ap, ◌∙◌, subst}
use Rattle.std.specs.List.{drop-map}
use Rattle.json.specs.Value.{value_view}
use Rattle.jsonpath_nodes.specs.place.SpotPlace.{step_of}
use Rattle.json_trees.specs.ExactAt.{exact_at}
use Rattle.json_trees.specs.Way.{LeadsTo, last_of, passed_view}
use Rattle.json_trees.proofs.WayLemmas.{at_last, rest_from_last}
use Rattle.json_trees.proofs.ordered_tree.way.value_by_steps.Goals as goal

pub value_from-requires : goal.value_from-requires
value_from-requires c =
    let exact = value_view c.args.root.value.now in
    let n = c.count_shared-shared.result in
    let few = subst (λ ps. n ≤ length (map passed_view ps)) c.as_slice.ensures.value c.count_shared-shared.ensures.few in
    let here = subst (λ ps. value_view c.value_behind-here.result.value.now ≡ last_of exact (map passed_view ps) n) c.as_slice-2.ensures.value c.value_behind-here.ensures in
    subst (λ j. LeadsTo exact (map passed_view c.args.passed.now.items) n j) (sym here) (at_last exact (map passed_view c.args.passed.now.items) n c.requires few)

pub returns-clause-value : goal.returns-clause-value
returns-clause-value c =
    let exact = value_view c.args.root.value.now in
    let passed = map passed_view c.args.passed.now.items in
    let steps = c.args.steps.now in
    let n = c.count_shared-shared.result in
    let few = subst (λ ps. n ≤ length (map passed_view ps)) c.as_slice.ensures.value c.count_shared-shared.ensures.few in
    let same = subst (λ ps. take n (map (λ p. p.0) (map passed_view ps)) ≡ take n (map step_of steps)) c.as_slice.ensures.value c.count_shared-shared.ensures.same in
    let here = subst (λ ps. value_view c.value_behind-here.result.value.now ≡ last_of exact (map passed_view ps) n) c.as_slice-2.ensures.value c.value_behind-here.ensures in
    let rest : exact_at (value_view c.value_behind-here.result.value.now) (map step_of c.split_at.result.1.now) ≡ exact_at exact (map step_of steps) =
    ap (λ j. exact_at j (map step_of c.split_at.result.1.now)) here
    ∙ ap (λ ss. exact_at (last_of exact passed n) (map step_of ss)) c.split_at.ensures.back
    ∙ ap (exact_at (last_of exact passed n)) (sym (drop-map step_of n steps))
    ∙ sym (rest_from_last exact passed n (map step_of steps) c.requires few same) in
    subst (λ o. IfOk c.value_from.result (λ found. option_map (λ v. value_view v.value.now) found ≡ o)) rest c.value_from.ensures.value
