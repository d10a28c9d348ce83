use Rattle.std.proofs.Common.{◌≡◌, List, length, map, refl, sym, ap, ap₂, subst, ◌∙◌, arith, filter}
use Rattle.std.proofs.lemmas.Result.{IfOk-weaker}
use Rattle.jsonpath_paths.specs.tree.Tree as tree
use Rattle.jsonpath_paths.specs.tree.View.{path_of, inner_of, condition_of, term_of}
use Rattle.jsonpath_paths.specs.declared.tree.parser_node.Condition.{Condition}
use Rattle.jsonpath_paths.specs.declared.tree.parser_node.Inner.{Inner}
use Rattle.jsonpath_paths.specs.declared.tree.parser_node.ParserNode.{out-ParserNode}
use Rattle.jsonpath_nodes.specs.place.Location.{Location}
use Rattle.jsonpath_nodes.specs.place.Mark.{MarksStandAt, shown}
use Rattle.jsonpath_nodes.specs.place.NumbersWhere.{numbers_where}
use Rattle.jsonpath_nodes.specs.place.Order.{once_in_order}
use Rattle.jsonpath_select.specs.plan.Machine.{Tagged, tagged, places, spread, starts, itself, entered, found_tags, list_count_for_candidates, stepped, joined_tags}
use Rattle.jsonpath_select.specs.plan.Manner.{holds_in}
use Rattle.jsonpath_select.specs.plan.Walk.{led_in, step_in, found_in, term_in}
use Rattle.jsonpath_select.specs.plan.Shown.{Shows}
use Rattle.jsonpath_select.proofs.tagged.DistinctLemmas.{numbers_among, there_once}
use Rattle.jsonpath_select.proofs.walk.FollowerLemmas.{empty_spread, empty_tags, step_by_sets, step_by_lists, none_after, tags_in, compared_in, kept_alone, filtered, steps_next, shared_is, counted, turned, path_done}
use Rattle.jsonpath_select.proofs.tagged.TagLemmas.{list_count_for_candidates-starts, joined-chosen}
use Rattle.jsonpath_select.proofs.walk.follower.Follower.+walk.Goals as goal

pub indexes_where_condition_holds-returns-in_ok-tags_where_marks_found-in-Lone : goal.indexes_where_condition_holds-returns-in_ok-tags_where_marks_found-in-Lone
indexes_where_condition_holds-returns-in_ok-tags_where_marks_found-in-Lone g t c = λ ps shows.
    let sets = c.args.self.now.sets in
    let text = c.args.self.now.text.now in
    let doc = g.M.Mark.content c.args.self.now.root.now in
    let p = path_of c.in-Lone.path in
    let found = c.in_ok-found-in-Lone.ensures ps shows in
    let count : length c.as_slice-count.result.now ≡ length (places ps) = ap length c.as_slice-count.ensures.value ∙ counted g.M.Mark.located g.M.Mark.stand g.M.Mark.content doc ps c.args.candidates.now shows in
    c.in_ok-tags_where_marks_found-in-Lone.ensures (found_in sets text doc p (places ps)).pairs found.1.0
    ∙ ap₂ (λ b n. found_tags b n (found_in sets text doc p (places ps)).pairs) found.0 count
    ∙ tags_in sets text doc p (places ps)
    ∙ ap (λ (x : Condition). numbers_where (holds_in sets text doc (condition_of x)) 0 (places ps)) (sym c.in-Lone.is)

pub indexes_where_condition_holds-returns-in_ok-tags_where_comparison_holds-in-Compare : goal.indexes_where_condition_holds-returns-in_ok-tags_where_comparison_holds-in-Compare
indexes_where_condition_holds-returns-in_ok-tags_where_comparison_holds-in-Compare g t c = λ ps shows.
    let sets = c.args.self.now.sets in
    let text = c.args.self.now.text.now in
    let doc = g.M.Mark.content c.args.self.now.root.now in
    let a = term_of c.in-Compare.left in
    let b = term_of c.in-Compare.right in
    let count : length c.as_slice-count.result.now ≡ length (places ps) = ap length c.as_slice-count.ensures.value ∙ counted g.M.Mark.located g.M.Mark.stand g.M.Mark.content doc ps c.args.candidates.now shows in
    c.in_ok-tags_where_comparison_holds-in-Compare.ensures doc (term_in sets text doc a (places ps)) (term_in sets text doc b (places ps)) (c.in_ok-lefts-in-Compare.ensures.ok ps shows) (c.in_ok-rights-in-Compare.ensures.ok ps shows)
    ∙ compared_in sets text doc c.in-Compare.op a b (length c.as_slice-count.result.now) (places ps) count
    ∙ ap (λ (x : Condition). numbers_where (holds_in sets text doc (condition_of x)) 0 (places ps)) (sym c.in-Compare.is)

pub indexes_where_condition_holds-returns-in_ok-join_tags-in-Join : goal.indexes_where_condition_holds-returns-in_ok-join_tags-in-Join
indexes_where_condition_holds-returns-in_ok-join_tags-in-Join g t c = λ ps shows.
    let sets = c.args.self.now.sets in
    let text = c.args.self.now.text.now in
    let doc = g.M.Mark.content c.args.self.now.root.now in
    let one = holds_in sets text doc (condition_of c.deref.result.now) in
    let two = holds_in sets text doc (condition_of c.deref-in-Join.result.now) in
    let count : length c.as_slice-count.result.now ≡ length (places ps) = ap length c.as_slice-count.ensures.value ∙ counted g.M.Mark.located g.M.Mark.stand g.M.Mark.content doc ps c.args.candidates.now shows in
    c.in_ok-join_tags-in-Join.ensures
    ∙ ap₂ (joined_tags c.in-Join.op 0 (length c.as_slice-count.result.now)) (c.as_slice.ensures.value ∙ c.in_ok-lefts-in-Join.ensures ps shows) (c.as_slice-in-Join.ensures.value ∙ c.in_ok-rights-in-Join.ensures ps shows)
    ∙ ap (λ n. joined_tags c.in-Join.op 0 n (numbers_where one 0 (places ps)) (numbers_where two 0 (places ps))) count
    ∙ joined-chosen c.in-Join.op one two 0 (places ps)
    ∙ ap₂ (λ (x y : Condition). numbers_where (holds_in sets text doc (tree.join c.in-Join.op (condition_of x) (condition_of y))) 0 (places ps)) c.deref.ensures c.deref-in-Join.ensures
    ∙ ap (λ (x : Condition). numbers_where (holds_in sets text doc (condition_of x)) 0 (places ps)) (sym c.in-Join.is)

pub indexes_of_passing_candidates-returns : goal.indexes_of_passing_candidates-returns
indexes_of_passing_candidates-returns g t c =
    IfOk-weaker c.indexes_standing_among.result _ _
    (λ found told ps shows.
    let located = g.M.Mark.located in
    let stand = g.M.Mark.stand in
    let content = g.M.Mark.content in
    let doc = g.M.Mark.content c.args.self.now.root.now in
    let test = holds_in c.args.self.now.sets c.args.self.now.text.now doc (condition_of c.args.condition.now) in
    let ls = places ps in
    let order = (c.in_ok-distinct.ensures doc ls shows.1).1 in
    let numbers : c.as_slice-3.result.now ≡ numbers_where test 0 (places (tagged 0 (once_in_order ls))) = c.as_slice-3.ensures.value ∙ c.in_ok-numbers.ensures (tagged 0 (once_in_order ls)) order in
    let passing = c.in_ok-passing.ensures doc (tagged 0 (once_in_order ls)) order in
    let kept : MarksStandAt located stand content doc (filter test (once_in_order ls)) c.in_ok-passing.passing.marks.items =
    subst (λ (ms : List Location). MarksStandAt located stand content doc ms c.in_ok-passing.passing.marks.items) (kept_alone test (once_in_order ls) c.as_slice-3.result.now numbers) passing.1 in
    told doc ls (filter test (once_in_order ls)) (ap (map (shown stand content)) c.as_slice-4.ensures.value ∙ shows.1) (ap (map (shown stand content)) c.as_slice-5.ensures.value ∙ kept)
    ∙ numbers_among c.equal_locations_are_same.ensures c.locations_once_in_order_ascend.ensures.members c.steps_ignore_order_and_repeats.ensures.some test (once_in_order ls) 0 ls
    (there_once c.locations_once_in_order_ascend.ensures.members c.steps_ignore_order_and_repeats.ensures.some ls))
    c.indexes_standing_among.ensures

pub lists_after_inner-returns-in-Token : goal.lists_after_inner-returns-in-Token
lists_after_inner-returns-in-Token g t c =
    IfOk-weaker c.lead_marks_of_candidates.result _ _
    (λ found leads f ls n shows.
    let located = g.M.Mark.located in
    let stand = g.M.Mark.stand in
    let content = g.M.Mark.content in
    let text = c.args.self.now.text.now in
    let doc = g.M.Mark.content c.args.self.now.root.now in
    let there = turned located stand content doc (stepped text doc c.args.leaves c.in-Token.token) f ls c.args.lists found n (leads doc (spread f 0 ls) shows) in
    subst (λ (i : Inner). Shows located stand content doc (spread (λ c'. led_in c.args.self.now.sets text doc (inner_of i) c.args.leaves (f c')) 0 ls) found) (sym c.in-Token.is) there)
    c.lead_marks_of_candidates.ensures

pub lists_after_inner-returns-in_ok-keep_marks_at_indexes-in-Filter : goal.lists_after_inner-returns-in_ok-keep_marks_at_indexes-in-Filter
lists_after_inner-returns-in_ok-keep_marks_at_indexes-in-Filter g t c = λ f ls n shows.
    let located = g.M.Mark.located in
    let stand = g.M.Mark.stand in
    let content = g.M.Mark.content in
    let sets = c.args.self.now.sets in
    let text = c.args.self.now.text.now in
    let doc = g.M.Mark.content c.args.self.now.root.now in
    let leaves = c.args.leaves in
    let deep = c.condition_has_own_step-deep.result in
    let condition = condition_of c.in-Filter.condition in
    let flat = c.in_ok-flat-in-Filter.ensures doc (spread f 0 ls) shows in
    let kept = c.in_ok-keep_marks_at_indexes-in-Filter.ensures doc (entered doc leaves deep c.args.lists (spread f 0 ls)) flat in
    let numbers : c.as_slice.result.now ≡ numbers_where (holds_in sets text doc condition) 0 (places (entered doc leaves deep c.args.lists (spread f 0 ls))) =
    c.as_slice.ensures.value ∙ c.in_ok-numbers-in-Filter.ensures (entered doc leaves deep c.args.lists (spread f 0 ls)) flat in
    let found = subst (λ (ps : List Tagged). Shows located stand content doc ps c.in_ok-keep_marks_at_indexes-in-Filter.field-0) (filtered sets text doc condition leaves deep f ls c.args.lists c.as_slice.result.now n c.condition_has_own_step-deep.ensures numbers) kept in
    subst (λ (i : Inner). Shows located stand content doc (spread (λ c'. led_in sets text doc (inner_of i) leaves (f c')) 0 ls) c.in_ok-keep_marks_at_indexes-in-Filter.field-0) (sym c.in-Filter.is) found

pub lists_after_path-loop-step-init : goal.lists_after_path-loop-step-init
lists_after_path-loop-step-init g t c = λ ps shows.
    let doc = g.M.Mark.content c.args.self.now.root.now in
    let absolute = (out-ParserNode c.args.path.now).absolute in
    let count : length c.as_slice.result.now ≡ length (places ps) = ap length c.as_slice.ensures.value ∙ counted g.M.Mark.located g.M.Mark.stand g.M.Mark.content doc ps c.args.candidates.now shows in
    (itself, c.list_count_for_candidates-lists.ensures ∙ ap (λ n. list_count_for_candidates absolute n) count ∙ list_count_for_candidates-starts absolute (places ps), (c.in_ok-start.ensures ps shows).1, λ l. refl)

pub lists_after_path-loop-step-preserved : goal.lists_after_path-loop-step-preserved
lists_after_path-loop-step-preserved g t c = λ ps shows.
    let sets = c.args.self.now.sets in
    let text = c.args.self.now.text.now in
    let doc = g.M.Mark.content c.args.self.now.root.now in
    let inv = c.loop-step.invariant ps shows in
    let s = c.step-item.result in
    let cs = starts (out-ParserNode c.args.path.now).absolute (places ps) in (
      λ l. step_in sets text doc (inner_of s.inner) s.leaves (inv.0 l),
      inv.1,
      c.in_ok-pairs.ensures inv.0 cs inv.1 inv.2,
      λ l. steps_next sets text doc c.deref-step-items.result.now c.loop-step.step-index s (inv.0 l) _ (omega arith) c.step-item.is (inv.3 l),
    )

pub lists_after_path-returns : goal.lists_after_path-returns
lists_after_path-returns g t c = λ ps shows.
    let sets = c.args.self.now.sets in
    let text = c.args.self.now.text.now in
    let doc = g.M.Mark.content c.args.self.now.root.now in
    let inv = c.loop-step.invariant ps shows in
    (shared_is sets text doc c.args.path.now (places ps), path_done g.M.Mark.located g.M.Mark.stand g.M.Mark.content sets text doc c.args.path.now c.loop-step.step-index c.deref-step-items.result.now ps inv.0 c.loop-step.pairs c.deref-step-items.ensures.value c.loop-step-test.false inv.2 inv.3)

pub sets_after_step-returns : goal.sets_after_step-returns
sets_after_step-returns g t c =
    IfOk-weaker c.lead_marks_of_candidates.result _ _
    (λ led leads f ls n shows.
    let doc = g.M.Mark.content c.args.self.now.root.now in
    let top = c.in_ok-top.ensures doc f ls n shows in
    turned g.M.Mark.located g.M.Mark.stand g.M.Mark.content doc once_in_order _ ls c.args.lists led n (leads doc _ (c.in_ok-found.ensures _ ls n top)))
    c.lead_marks_of_candidates.ensures

pub lists_after_step-returns-then-is_empty : goal.lists_after_step-returns-then-is_empty
lists_after_step-returns-then-is_empty g t c = λ f ls n shows.
    let sets = c.args.self.now.sets in
    let text = c.args.self.now.text.now in
    let doc = g.M.Mark.content c.args.self.now.root.now in
    let inner = inner_of c.args.step.now.inner in
    let leaves = c.args.step.now.leaves in
    let none : length (spread f 0 ls) ≡ 0 = empty_tags (spread f 0 ls) c.as_slice.result.now (c.as_slice.ensures.value ∙ shows.0) (sym c.is_empty.ensures ∙ c.if-is_empty.true) in
    subst (λ (ps : List Tagged). Shows g.M.Mark.located g.M.Mark.stand g.M.Mark.content doc ps c.args.pairs) (empty_spread f (step_in sets text doc inner leaves) 0 ls none (none_after sets text doc inner leaves)) shows

pub lists_after_step-returns-then-self : goal.lists_after_step-returns-then-self
lists_after_step-returns-then-self g t c =
    IfOk-weaker c.sets_after_step.result _ _
    (λ found leads f ls n shows.
    let doc = g.M.Mark.content c.args.self.now.root.now in
    let s = c.args.step.now in
    subst (λ (ps : List Tagged). Shows g.M.Mark.located g.M.Mark.stand g.M.Mark.content doc ps found) (λ i. spread (λ l. step_by_sets c.args.self.now.sets c.args.self.now.text.now doc (inner_of s.inner) s.leaves (f l) c.if-self.true i) 0 ls) (leads f ls n shows))
    c.sets_after_step.ensures

pub lists_after_step-returns-else-self : goal.lists_after_step-returns-else-self
lists_after_step-returns-else-self g t c =
    IfOk-weaker c.lists_after_inner.result _ _
    (λ found leads f ls n shows.
    let doc = g.M.Mark.content c.args.self.now.root.now in
    let s = c.args.step.now in
    subst (λ (ps : List Tagged). Shows g.M.Mark.located g.M.Mark.stand g.M.Mark.content doc ps found) (λ i. spread (λ l. step_by_lists c.args.self.now.sets c.args.self.now.text.now doc (inner_of s.inner) s.leaves (f l) c.if-self.false i) 0 ls) (leads f ls n shows))
    c.lists_after_inner.ensures
