use Rattle.std.proofs.Common.{◌≡◌, ◌≤◌, ◌+◌, ℕ, rules, Some, map, drop, suc, List, [], true, not, sym, ap, subst, ◌∙◌, arith, option_map}
use Rattle.std.proofs.lemmas.Slice.Eq.{bytes_eq-Decides}
use Rattle.jsonpath_nodes.specs.document.Document.{item, no_items, member, depth, items_depth, members_depth}
use Rattle.jsonpath_nodes.specs.place.Location.{name}
use Rattle.jsonpath_nodes.specs.place.Order.{NamesAscend}
use Rattle.jsonpath_nodes.specs.update.Topmost.{with_answer_at_topmost}
use Rattle.jsonpath_nodes.specs.update.Update.{item_if, member_if}
use Rattle.jpath_edits.proofs.ChangedValueLemmas.{answer_for_child, depth_at, is_empty_list, item_step, items_end, member_step, no_member_put, none_mapped, not_false, nothing_changed, nothing_put, rest_ascend, through}
use Rattle.jpath_edits.proofs.changed_value.+changed.Goals as goal
use Rattle.jpath_edits.proofs.changed_value.+changed.Goals.{are_changed_items-then-is_empty, are_changed_items-else-is_empty}

pub are_changed_items-loop-index-preserved-then-is_place_of_child : goal.are_changed_items-loop-index-preserved-then-is_place_of_child
are_changed_items-loop-index-preserved-then-is_place_of_child g t c h =
    let l = c.loop-index in
    let here = map (drop (suc c.args.depth)) c.split_by_step.result.0.now in
    let d = g.B.Tree.content c.in-Some.item in
    let answer = option_map (λ v. g.N.Tree.content v) c.args.new in
    l.invariant (item_step answer l.index _ here _ d (g.B.Tree.items c.args.items) _ _ c.split_by_step.ensures c.in-Some.ensures (nothing_put answer here d (g.A.Tree.items_left l.left) (none_mapped (λ v. g.N.Tree.content v) c.args.new (c.is_none.ensures ∙ ap not c.if-is_none.true)) (sym c.is_place_of_child.ensures ∙ c.if-is_place_of_child.true)) h)

pub are_changed_items-is_changed_child-requires : goal.are_changed_items-is_changed_child-requires
are_changed_items-is_changed_child-requires g t c =
    let within : depth (g.B.Tree.content c.in-Some.item) ≤ items_depth (g.B.Tree.items c.args.items) = depth_at c.loop-index.index (g.B.Tree.items c.args.items) (g.B.Tree.content c.in-Some.item) (sym c.in-Some.ensures) in
    search rules

pub are_changed_items-loop-index-preserved : goal.are_changed_items-loop-index-preserved
are_changed_items-loop-index-preserved g t c h =
    let l = c.loop-index in
    let here = map (drop (suc c.args.depth)) c.split_by_step.result.0.now in
    let d = g.B.Tree.content c.in-Some.item in
    let answer = option_map (λ v. g.N.Tree.content v) c.args.new in
    let later = g.A.Tree.items_left c.next_item.new.left in
    l.invariant (item_step answer l.index _ here _ d (g.B.Tree.items c.args.items) _ later c.split_by_step.ensures c.in-Some.ensures
    (c.in-Some-next_item.ensures ∙ ap (λ o. item_if o later) (c.is_changed_child.ensures c.if-not-is_changed_child.false)) h)

pub are_changed_items-returns : goal.are_changed_items-returns
are_changed_items-returns g t c = elim c.if-is_empty.branch [
  | are_changed_items-then-is_empty w ↦ (λ h.
      let l = c.loop-index in
      let answer = option_map (λ v. g.N.Tree.content v) c.args.new in
      let empty : l.rest.now ≡ [] = is_empty_list l.rest.now (sym c.is_empty.ensures ∙ w.if-is_empty.true) in
      let none : g.A.Tree.items_left l.left ≡ no_items = search rules in
      l.invariant (items_end answer l.index (map (drop c.args.depth) l.rest.now) (g.B.Tree.items c.args.items) (g.A.Tree.items_left l.left) (ap (map (drop c.args.depth)) empty) (omega (arith, c.len-index-end.ensures, c.loop-index-test.false)) none))
  | are_changed_items-else-is_empty w ↦ (λ h. absurd (cc))
]

pub are_changed_members-loop-member-preserved-then-is_place_of_child : goal.are_changed_members-loop-member-preserved-then-is_place_of_child
are_changed_members-loop-member-preserved-then-is_place_of_child g t c =
    let l = c.loop-member in
    let here = map (drop (suc c.args.depth)) c.split_by_step.result.0.now in
    let k = g.B.Name.Name.bytes c.in-Some.member.0 in
    let d = g.B.Tree.content c.in-Some.member.1 in
    let answer = option_map (λ v. g.N.Tree.content v) c.args.new in
    let left = g.B.Tree.members_left l.left in
    let rest = g.B.Tree.members_left c.next_member.new.left in
    let is : left ≡ member k d rest = c.in-Some.ensures in
    let split = subst (λ (n : List ℕ). map (drop c.args.depth) l.rest.now ≡ through (name n) here (map (drop c.args.depth) c.split_by_step.result.1.now)) (search rules) c.split_by_step.ensures in
    record {
      changed = λ h. l.invariant.changed (member_step answer k _ here _ d left rest _ _ split is l.invariant.ascend (no_member_put answer k here d (g.A.Tree.members_left l.others_left) (none_mapped (λ v. g.N.Tree.content v) c.args.new (c.is_none.ensures ∙ ap not c.if-is_none.true)) (sym c.is_place_of_child.ensures ∙ c.if-is_place_of_child.true)) h);
      ascend = rest_ascend k d rest (subst NamesAscend is l.invariant.ascend);
      within = omega (arith, ap members_depth is, l.invariant.within);
    }

pub are_changed_members-loop-member-preserved : goal.are_changed_members-loop-member-preserved
are_changed_members-loop-member-preserved g t c =
    let l = c.loop-member in
    let here = map (drop (suc c.args.depth)) c.split_by_step.result.0.now in
    let k = g.B.Name.Name.bytes c.in-Some.member.0 in
    let d = g.B.Tree.content c.in-Some.member.1 in
    let answer = option_map (λ v. g.N.Tree.content v) c.args.new in
    let left = g.B.Tree.members_left l.left in
    let rest = g.B.Tree.members_left c.next_member.new.left in
    let later = g.A.Tree.members_left c.next_member-in-Some.new.left in
    let is : left ≡ member k d rest = c.in-Some.ensures in
    let split = subst (λ (n : List ℕ). map (drop c.args.depth) l.rest.now ≡ through (name n) here (map (drop c.args.depth) c.split_by_step.result.1.now)) (search rules) c.split_by_step.ensures in
    let others : g.A.Tree.members_left l.others_left ≡ member (g.A.Name.Name.bytes c.in-Some-next_member.other.0) (g.A.Tree.content c.in-Some-next_member.other.1) later = c.in-Some-next_member.ensures in
    let equal : c.as_text-in-Some.result.now ≡ c.as_text-in-Some-2.result.now = (bytes_eq-Decides _ _).0 (not_false _ (sym c.ne.ensures ∙ c.if-ne.false)) in
    let shown = sym c.as_text-in-Some.ensures ∙ equal ∙ c.as_text-in-Some-2.ensures in
    let same : k ≡ g.A.Name.Name.bytes c.in-Some-next_member.other.0 = shown in
    let put : Some (g.A.Tree.content c.in-Some-next_member.other.1) ≡ answer_for_child answer here d = c.is_changed_child.ensures c.if-not-is_changed_child.false in
    let made : g.A.Tree.members_left l.others_left ≡ member_if k (answer_for_child answer here d) later =
    others ∙ sym (ap (λ (n : List ℕ). member n (g.A.Tree.content c.in-Some-next_member.other.1) later) same) ∙ ap (λ o. member_if k o later) put in
    record {
      changed = λ h. l.invariant.changed (member_step answer k _ here _ d left rest _ later split is l.invariant.ascend made h);
      ascend = rest_ascend k d rest (subst NamesAscend is l.invariant.ascend);
      within = omega (arith, ap members_depth is, l.invariant.within);
    }

pub is_changed_value-returns-then-is_empty : goal.is_changed_value-returns-then-is_empty
is_changed_value-returns-then-is_empty g t c h =
    let answer = option_map (λ v. g.N.Tree.content v) c.args.new in
    let before = g.B.Tree.content c.args.before in
    let empty : c.args.places.now ≡ [] = is_empty_list c.args.places.now (sym c.is_empty.ensures ∙ c.if-is_empty.true) in
    sym (c.is_same.ensures h) ∙ sym (nothing_changed answer before) ∙ ap (λ ps. with_answer_at_topmost answer (map (drop c.args.depth) ps) before) (sym empty)
