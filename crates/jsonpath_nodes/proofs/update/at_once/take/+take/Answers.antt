use Rattle.std.proofs.Common.{◌≡◌, ◌<◌, ◌∙◌, option_map, length, get_or, sym, ap, arith}
use Rattle.std.proofs.lemmas.List.{get_or_read}
use Rattle.jsonpath_nodes.specs.document.OfData.{value_document, items_document}
use Rattle.jsonpath_nodes.proofs.tree.ValueLemmas.{view-lookup}
use Rattle.serde_json.specs.declared.value.Value.{Null}
use Rattle.jsonpath_nodes.proofs.update.GroupLemmas.{item_front, member_front, one_more, goes_on, goes_further, ends_there, behind_fewer, ends_fewer, in_group_sorted, in_group_fewer}
use Rattle.jsonpath_nodes.proofs.update.ClearLemmas.{clears_over, clears_taken, clears_kept, clears_none, clears_end}
use Rattle.jsonpath_nodes.proofs.update.PassLemmas.{enters_at, passes_over, passes_taken, passes_kept, passes_end}
use Rattle.jsonpath_nodes.proofs.update.at_once.take.+take.Goals as goal

pub take_items-loop-first-preserved-in_default-index_at_depth : goal.take_items-loop-first-preserved-in_default-index_at_depth
take_items-loop-first-preserved-in_default-index_at_depth t c =
    let left = ends_fewer c.args.depth c.loop-first.rest.now c.in-Some.others.now c.in-Some.first.now c.in-Some.ensures.cases.0 in
    record {
      passes = passes_over c.args.depth c.in-Some.ensures.cases.0 c.in_default-index_at_depth.ensures.at (omega (arith, c.len.ensures, c.loop-first.list.ok.0)) c.loop-first.invariant.passes;
      fewer = omega (arith, left, c.loop-first.invariant.fewer);
    }

pub take_items-move_items_down-kept-requires-clause-ahead : goal.take_items-move_items_down-kept-requires-clause-ahead
take_items-move_items_down-kept-requires-clause-ahead t c =
    let f = item_front c.args.depth c.len.result c.in-Some.ensures.cases.0 c.in-Some-index_at_depth.ensures.at c.group_len.ensures.count in
    enters_at f c.split_at.ensures.back c.loop-first.invariant.passes

pub take_items-take_from_value-requires : goal.take_items-take_from_value-requires
take_items-take_from_value-requires t c =
    let f = item_front c.args.depth c.len.result c.in-Some.ensures.cases.0 c.in-Some-index_at_depth.ensures.at c.group_len.ensures.count in
    let here = c.split_at.result.0.now in
    let fewer = in_group_fewer f here c.split_at.ensures.front in
    (omega (arith, fewer, c.decreases, c.loop-first.invariant.fewer), in_group_sorted f here c.split_at.ensures.front c.loop-first.invariant.passes.sorted)

pub take_items-loop-first-preserved-then-steps-depth : goal.take_items-loop-first-preserved-then-steps-depth
take_items-loop-first-preserved-then-steps-depth t c =
    let f = item_front c.args.depth c.len.result c.in-Some.ensures.cases.0 c.in-Some-index_at_depth.ensures.at c.group_len.ensures.count in
    let left = behind_fewer f c.split_at.result.1.now c.split_at.ensures.back in
    let moved = c.move_items_down-kept.ensures in
    let ys = c.move_items_down-kept.new.list in
    let zs = c.swap.new.self in
    let same : length ys.items ≡ length c.loop-first.list.items = omega (arith, c.loop-first.list.ok.0, ys.ok.0) in
    let fits : c.in-Some-index_at_depth.i < length c.loop-first.list.items = omega (arith, c.in-Some-index_at_depth.ensures.within, c.len.ensures, c.loop-first.list.ok.0) in
    let was : c.index_mut.result.now ≡ get_or ys.items c.in-Some-index_at_depth.i Null =
    get_or_read zs.items c.move_items_down-kept.result c.index_mut.result.now (omega (arith, zs.ok.0, ys.ok.0, c.swap.ensures.len)) c.index_mut.ensures.value Null ∙ c.swap.ensures.by_index.0 Null in
    record {
      passes = passes_kept f c.split_at.ensures.back c.loop-first.invariant.passes ys.items fits same moved.end moved.moved moved.beyond zs.items c.take_from_value.new.value c.split_at.ensures.front
          (goes_on c.args.depth c.steps.result.now c.steps.ensures (omega arith)) c.swap.ensures.by_index c.take_from_value.ensures was;
      fewer = omega (arith, left, c.loop-first.invariant.fewer);
    }

pub take_items-loop-first-preserved : goal.take_items-loop-first-preserved
take_items-loop-first-preserved t c =
    let f = item_front c.args.depth c.len.result c.in-Some.ensures.cases.0 c.in-Some-index_at_depth.ensures.at c.group_len.ensures.count in
    let left = behind_fewer f c.split_at.result.1.now c.split_at.ensures.back in
    let moved = c.move_items_down-kept.ensures in
    let ys = c.move_items_down-kept.new.list in
    let same : length ys.items ≡ length c.loop-first.list.items = omega (arith, c.loop-first.list.ok.0, ys.ok.0) in
    let fits : c.in-Some-index_at_depth.i < length c.loop-first.list.items = omega (arith, c.in-Some-index_at_depth.ensures.within, c.len.ensures, c.loop-first.list.ok.0) in
    record {
      passes = passes_taken f c.split_at.ensures.back c.loop-first.invariant.passes ys.items fits same moved.end moved.moved moved.beyond (ends_there c.args.depth c.steps.result.now c.steps.ensures (omega arith));
      fewer = omega (arith, left, c.loop-first.invariant.fewer);
    }

pub take_items-returns : goal.take_items-returns
take_items-returns t c =
    let moved = c.move_items_down-kept-2.ensures in
    let ys = c.move_items_down-kept-2.new.list in
    let whole : c.len-2.result ≡ length c.loop-first.list.items = omega (arith, c.len-2.ensures, c.loop-first.list.ok.0) in
    let same : length ys.items ≡ length c.loop-first.list.items = omega (arith, c.loop-first.list.ok.0, ys.ok.0) in
    ap items_document c.truncate.ensures.items
    ∙ passes_end c.args.depth c.loop-first.rest.now ys.items c.in_default.ensures.cases whole same moved.end moved.moved moved.beyond c.loop-first.invariant.passes

pub take_members-loop-first-preserved-in_default-name_at_depth : goal.take_members-loop-first-preserved-in_default-name_at_depth
take_members-loop-first-preserved-in_default-name_at_depth t c =
    let left = ends_fewer c.args.depth c.loop-first.rest.now c.in-Some.others.now c.in-Some.first.now c.in-Some.ensures.cases.0 in
    record {
      clears = clears_over c.args.depth c.in-Some.ensures.cases.0 c.in_default-name_at_depth.ensures c.loop-first.invariant.clears;
      fewer = omega (arith, left, c.loop-first.invariant.fewer);
    }

pub take_members-take_from_value-requires : goal.take_members-take_from_value-requires
take_members-take_from_value-requires t c =
    let f = member_front c.args.depth c.in-Some.ensures.cases.0 c.in-Some-name_at_depth.ensures c.group_len.ensures.count in
    let here = c.split_at.result.0.now in
    let fewer = in_group_fewer f here c.split_at.ensures.front in
    (omega (arith, fewer, c.decreases, c.loop-first.invariant.fewer), in_group_sorted f here c.split_at.ensures.front c.loop-first.invariant.clears.sorted)

pub take_members-loop-first-smaller-then-steps-depth : goal.take_members-loop-first-smaller-then-steps-depth
take_members-loop-first-smaller-then-steps-depth t c =
    let some = one_more (member_front c.args.depth c.in-Some.ensures.cases.0 c.in-Some-name_at_depth.ensures c.group_len.ensures.count) in
    omega (arith, c.split_at.ensures.back_len)

pub take_members-loop-first-smaller-in-Some-get_mut : goal.take_members-loop-first-smaller-in-Some-get_mut
take_members-loop-first-smaller-in-Some-get_mut t c =
    let some = one_more (member_front c.args.depth c.in-Some.ensures.cases.0 c.in-Some-name_at_depth.ensures c.group_len.ensures.count) in
    omega (arith, c.split_at.ensures.back_len)

pub take_members-loop-first-smaller : goal.take_members-loop-first-smaller
take_members-loop-first-smaller t c =
    let some = one_more (member_front c.args.depth c.in-Some.ensures.cases.0 c.in-Some-name_at_depth.ensures c.group_len.ensures.count) in
    omega (arith, c.split_at.ensures.back_len)

pub take_members-loop-first-preserved-then-steps-depth : goal.take_members-loop-first-preserved-then-steps-depth
take_members-loop-first-preserved-then-steps-depth t c =
    let f = member_front c.args.depth c.in-Some.ensures.cases.0 c.in-Some-name_at_depth.ensures c.group_len.ensures.count in
    let left = behind_fewer f c.split_at.result.1.now c.split_at.ensures.back in
    record {
      clears = clears_taken f c.split_at.ensures.back c.loop-first.map.entries c.remove.new.self.entries c.loop-first.invariant.clears
          (ends_there c.args.depth c.steps.result.now c.steps.ensures (omega arith)) c.remove.ensures.entries;
      fewer = omega (arith, left, c.loop-first.invariant.fewer);
    }

pub take_members-loop-first-preserved-in-Some-get_mut : goal.take_members-loop-first-preserved-in-Some-get_mut
take_members-loop-first-preserved-in-Some-get_mut t c =
    let f = member_front c.args.depth c.in-Some.ensures.cases.0 c.in-Some-name_at_depth.ensures c.group_len.ensures.count in
    let left = behind_fewer f c.split_at.result.1.now c.split_at.ensures.back in
    let w = c.take_from_value.new.value in
    let found = sym (view-lookup c.in-Some-name_at_depth.name.now c.loop-first.map.entries) ∙ ap (option_map value_document) (sym c.in-Some-get_mut.ensures.value) in
    record {
      clears = clears_kept f c.split_at.ensures.back c.loop-first.map.entries (c.get_mut.follows.lender w).entries c.loop-first.invariant.clears w c.split_at.ensures.front
          (goes_further c.args.depth c.steps.result.now c.steps.ensures c.in-Some-name_at_depth.ensures c.if-steps-depth.false) found c.take_from_value.ensures (c.get_mut.follows.holds w).0;
      fewer = omega (arith, left, c.loop-first.invariant.fewer);
    }

pub take_members-loop-first-preserved : goal.take_members-loop-first-preserved
take_members-loop-first-preserved t c =
    let f = member_front c.args.depth c.in-Some.ensures.cases.0 c.in-Some-name_at_depth.ensures c.group_len.ensures.count in
    let left = behind_fewer f c.split_at.result.1.now c.split_at.ensures.back in
    let none = sym (view-lookup c.in-Some-name_at_depth.name.now c.loop-first.map.entries) ∙ ap (option_map value_document) (sym c.in_default-get_mut.ensures.value) in
    record {
      clears = clears_none f c.split_at.ensures.back c.loop-first.map.entries c.get_mut.follows.lender-at-none.entries c.loop-first.invariant.clears none (ap (λ m. m.entries) c.get_mut.follows.holds-at-none);
      fewer = omega (arith, left, c.loop-first.invariant.fewer);
    }

pub take_members-returns : goal.take_members-returns
take_members-returns t c = clears_end c.args.depth c.loop-first.rest.now c.in_default.ensures.cases c.loop-first.invariant.clears
