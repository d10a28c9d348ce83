use Rattle.std.proofs.Common.{rules, ◌≡◌, ◌+◌, ◌&&◌, ◌∷◌, [], true, suc, map, drop, get_or, is_some, sym, ap, ◌∙◌, arith}
use Rattle.json.proofs.Trees.{view-Array, view-Object}
use Rattle.json.specs.Json.{object, no_members}
use Rattle.json.specs.Value.{value_view, items_of, items_view, members_view}
use Rattle.serde_json.specs.Data as kept
use Rattle.serde_json.specs.Read.{of_json, of_items, of_members}
use Rattle.json_trees.specs.OrderedTree.{in_order, members_in_order}
use Rattle.json_trees.specs.TreeOrder.{by_names, put_each}
use Rattle.json_trees.proofs.InPlaceLemmas.{one_more_changed, next_unchanged, all_changed, none_left, written_back, items_done, size, items_size, members_size, item_within, member_within, both_so_far, seen, seen_in_order, members_at, view_of_seen, ascend_further, ascend_all, all_read, ascending_done, sorted_done}
use Rattle.json_trees.proofs.OrderedTreeLemmas.{is_behind, names_ascend}
use Rattle.json_trees.proofs.ReadLemmas.{item_read, mapped_there, member_read}
use Rattle.json_trees.proofs.ordered_tree.put_in_order.+put.Goals as goal

pub put_items_in_order-put_in_order-requires : goal.put_items_in_order-put_in_order-requires
put_items_in_order-put_in_order-requires t c =
    let l = c.loop-item in
    let old = map value_view c.args.items.now.items in
    let x = get_or l.item-items l.item-index c.item-item.result in
    let is : x ≡ get_or l.item-items l.item-index x = ap (λ d. get_or l.item-items l.item-index d) c.item-item.is in
    let within = item_within old l.item-index (value_view x) (drop (l.item-index + 1) old) (next_unchanged value_view in_order old l.item-index l.item-items x (omega (arith, c.loop-item-test.true, c.loop-item.auto.item-items)) is l.invariant.changed) in
    (omega (arith, within, c.decreases), tt)

pub put_items_in_order-loop-item-preserved : goal.put_items_in_order-loop-item-preserved
put_items_in_order-loop-item-preserved t c =
    let l = c.loop-item in
    let old = map value_view c.args.items.now.items in
    let x = get_or l.item-items l.item-index c.item-item.result in
    let is : x ≡ get_or l.item-items l.item-index x = ap (λ d. get_or l.item-items l.item-index d) c.item-item.is in
    let rest = drop (l.item-index + 1) old in
    let here : drop l.item-index old ≡ value_view x ∷ rest = next_unchanged value_view in_order old l.item-index l.item-items x (omega (arith, c.loop-item-test.true, c.loop-item.auto.item-items)) is l.invariant.changed in
    record {
      changed = one_more_changed value_view in_order old l.item-index l.item-items x c.put_in_order.new.tree (omega (arith, c.loop-item-test.true, c.loop-item.auto.item-items)) is c.in_ok-is_read.ensures.ordered l.invariant.changed;
      read = both_so_far _ l.are_read c.in_ok-is_read.is_read _ (is_some (of_items (items_of rest))) l.invariant.read
          (ap (λ js. is_some (of_items (items_of js))) here ∙ item_read (value_view x) (items_of rest) ∙ ap (λ b. b && is_some (of_items (items_of rest))) (sym c.in_ok-is_read.ensures.read));
    }

pub put_items_in_order-returns-clause-ordered : goal.put_items_in_order-returns-clause-ordered
put_items_in_order-returns-clause-ordered t c =
    let l = c.loop-item in
    let items = c.args.items.now in
    let old = map value_view items.items in
    ap items_view (written_back value_view in_order items.items items.len l.item-index l.item-items items.ok.0 l.invariant.changed)
    ∙ ap items_of (all_changed value_view in_order old l.item-index l.item-items (omega (arith, c.loop-item-test.false, c.loop-item.auto.item-items)) l.invariant.changed) ∙ items_done old

pub put_members_in_order-put_in_order-requires : goal.put_members_in_order-put_in_order-requires
put_members_in_order-put_in_order-requires t c =
    let l = c.loop-member in
    let members = c.args.members.now in
    let old = map seen members.items in
    let x = get_or l.member-items l.member-index c.member-item.result in
    let is : x ≡ get_or l.member-items l.member-index x = ap (λ d. get_or l.member-items l.member-index d) c.member-item.is in
    let within = member_within old l.member-index (seen x) (drop (l.member-index + 1) old) (next_unchanged seen seen_in_order old l.member-index l.member-items x (omega (arith, c.loop-member-test.true, c.loop-member.auto.member-items)) is l.invariant.changed) in
    let view : members_size (members_view members.items) ≡ members_size (members_at old) = ap members_size (view_of_seen members.items) in
    (omega (arith, within, view, c.decreases), tt)

pub put_members_in_order-loop-member-preserved : goal.put_members_in_order-loop-member-preserved
put_members_in_order-loop-member-preserved t c =
    let l = c.loop-member in
    let old = map seen c.args.members.now.items in
    let x = get_or l.member-items l.member-index c.member-item.result in
    let is : x ≡ get_or l.member-items l.member-index x = ap (λ d. get_or l.member-items l.member-index d) c.member-item.is in
    let rest = drop (l.member-index + 1) old in
    let ms = members_at rest in
    let here : drop l.member-index old ≡ seen x ∷ rest = next_unchanged seen seen_in_order old l.member-index l.member-items x (omega (arith, c.loop-member-test.true, c.loop-member.auto.member-items)) is l.invariant.changed in
    record {
      changed = one_more_changed seen seen_in_order old l.member-index l.member-items x (x.0, c.put_in_order.new.tree) (omega (arith, c.loop-member-test.true, c.loop-member.auto.member-items)) is (ap (λ j. (x.0.now, j)) c.in_ok-is_read.ensures.ordered) l.invariant.changed;
      read = λ found. both_so_far _ l.are_read c.in_ok-is_read.is_read _ (is_some (of_members ms found)) (l.invariant.read found)
          (ap (λ es. is_some (of_members (members_at es) found)) here ∙ member_read x.0.now (value_view x.1) ms found ∙ ap (λ b. b && is_some (of_members ms found)) (sym c.in_ok-is_read.ensures.read));
      ascend = ascend_further l.before x.0.now (value_view x.1) ms (names_ascend (members_at old)) l.ascend c.is_name_behind-ascend.result c.is_name_behind-ascend.ensures
          (l.invariant.ascend ∙ ap (λ es. l.ascend && (is_behind l.before (members_at es) && names_ascend (members_at es))) here);
    }

pub put_members_in_order-returns-in_ok-sort_by_name-clause-ordered : goal.put_members_in_order-returns-in_ok-sort_by_name-clause-ordered
put_members_in_order-returns-in_ok-sort_by_name-clause-ordered t c =
    let l = c.loop-member in
    let members = c.args.members.now in
    let old = map seen members.items in
    sorted_done old l.member-items c.sort_by_name.new.named.items (all_changed seen seen_in_order old l.member-index l.member-items (omega (arith, c.loop-member-test.false, c.loop-member.auto.member-items)) l.invariant.changed)
    (c.in_ok-sort_by_name.ensures ∙ ap (λ ys. put_each (by_names ys) []) (written_back seen seen_in_order members.items members.len l.member-index l.member-items members.ok.0 l.invariant.changed))
    ∙ ap (λ ms. members_in_order ms no_members) (sym (view_of_seen members.items))

pub put_members_in_order-returns-else-not-ascend-clause-ordered : goal.put_members_in_order-returns-else-not-ascend-clause-ordered
put_members_in_order-returns-else-not-ascend-clause-ordered t c =
    let l = c.loop-member in
    let members = c.args.members.now in
    let old = map seen members.items in
    let none : drop l.member-index old ≡ [] = none_left seen seen_in_order old l.member-index l.member-items (omega (arith, c.loop-member-test.false, c.loop-member.auto.member-items)) l.invariant.changed in
    let ascend : names_ascend (members_at old) ≡ true = ascend_all l.before (names_ascend (members_at old)) l.ascend (l.invariant.ascend ∙ ap (λ es. l.ascend && (is_behind l.before (members_at es) && names_ascend (members_at es))) none) c.if-not-ascend.false in
    ap members_view (written_back seen seen_in_order members.items members.len l.member-index l.member-items members.ok.0 l.invariant.changed)
    ∙ ascending_done old l.member-items (all_changed seen seen_in_order old l.member-index l.member-items (omega (arith, c.loop-member-test.false, c.loop-member.auto.member-items)) l.invariant.changed) ascend
    ∙ ap (λ ms. members_in_order ms no_members) (sym (view_of_seen members.items))

pub put_members_in_order-returns-in_ok-sort_by_name-clause-read : goal.put_members_in_order-returns-in_ok-sort_by_name-clause-read
put_members_in_order-returns-in_ok-sort_by_name-clause-read t c = all_read c.args.members.now.items c.loop-member.are_read c.loop-member.member-index (none_left seen seen_in_order (map seen c.args.members.now.items) c.loop-member.member-index c.loop-member.member-items (omega (arith, c.loop-member-test.false, c.loop-member.auto.member-items)) c.loop-member.invariant.changed) c.loop-member.invariant.read

pub put_members_in_order-returns-else-not-ascend-clause-read : goal.put_members_in_order-returns-else-not-ascend-clause-read
put_members_in_order-returns-else-not-ascend-clause-read t c = all_read c.args.members.now.items c.loop-member.are_read c.loop-member.member-index (none_left seen seen_in_order (map seen c.args.members.now.items) c.loop-member.member-index c.loop-member.member-items (omega (arith, c.loop-member-test.false, c.loop-member.auto.member-items)) c.loop-member.invariant.changed) c.loop-member.invariant.read

pub put_in_order-put_items_in_order-requires : goal.put_in_order-put_items_in_order-requires
put_in_order-put_items_in_order-requires t c =
    let whole : size (value_view c.args.tree.now) ≡ suc (items_size (items_view c.in-Array.items.items)) = ap (λ v. size (value_view v)) c.in-Array.is ∙ ap size (view-Array c.in-Array.items) in
    (omega (arith, whole, ap (λ v. items_size (items_view v.items)) c.in-Array.items-is, c.decreases), tt)

pub put_in_order-put_members_in_order-requires : goal.put_in_order-put_members_in_order-requires
put_in_order-put_members_in_order-requires t c =
    let whole : size (value_view c.args.tree.now) ≡ suc (members_size (members_view c.in-Object.members.items)) = ap (λ v. size (value_view v)) c.in-Object.is ∙ ap size (view-Object c.in-Object.members) in
    (omega (arith, whole, ap (λ v. members_size (members_view v.items)) c.in-Object.members-is, c.decreases), tt)

pub put_in_order-returns-in_ok-put_members_in_order-in-Object-clause-ordered : goal.put_in_order-returns-in_ok-put_members_in_order-in-Object-clause-ordered
put_in_order-returns-in_ok-put_members_in_order-in-Object-clause-ordered t c =
    let done : members_view c.put_members_in_order.new.members.items ≡ members_in_order (members_view c.in-Object.members.items) no_members = c.in_ok-put_members_in_order-in-Object.ensures.ordered ∙ ap (λ v. members_in_order (members_view v.items) no_members) c.in-Object.members-is in
    search (rules, done, c.in-Object.is, c.in-Object.members-is, view-Object)

pub put_in_order-returns-in_ok-put_members_in_order-in-Object-clause-read : goal.put_in_order-returns-in_ok-put_members_in_order-in-Object-clause-read
put_in_order-returns-in_ok-put_members_in_order-in-Object-clause-read t c =
    c.in_ok-put_members_in_order-in-Object.ensures.read kept.no_members ∙ ap (λ v. is_some (of_members (members_view v.items) kept.no_members)) c.in-Object.members-is ∙ sym (mapped_there kept.object (of_members (members_view c.in-Object.members.items) kept.no_members))
    ∙ sym (ap (λ v. is_some (of_json (value_view v))) c.in-Object.is ∙ ap (λ j. is_some (of_json j)) (view-Object c.in-Object.members))
