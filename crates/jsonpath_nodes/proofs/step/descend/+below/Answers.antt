use Rattle.std.proofs.Common.{◌≡◌, ◌∷◌, [], ◌++◌, map, Some, ap, ◌∙◌, rules}
use Rattle.jsonpath_nodes.specs.place.Location.{Location, below, below_items, below_members, index, name}
use Rattle.jsonpath_nodes.specs.place.Mark.{kept_location, look_kept_from, shown}
use Rattle.jsonpath_nodes.specs.plan.Containers.{descendants}
use Rattle.jsonpath_nodes.specs.plan.Way.{way_stand}
use Rattle.jsonpath_nodes.proofs.place.KeptLemmas.{items_gained, members_gained}
use Rattle.jsonpath_nodes.proofs.place.WayLemmas.{item_next, member_next, node_then_descendants, child-stays, stays_on, stays-stand}
use Rattle.jsonpath_nodes.proofs.step.ChildLemmas.{below_items-kids, below_members-kids}
use Rattle.jsonpath_nodes.proofs.step.descend.+below.Goals as goal

pub add_items_and_all_below-loop-item-preserved : goal.add_items_and_all_below-loop-item-preserved
add_items_and_all_below-loop-item-preserved g t c =
    let b = g.M.Descends.located in
    let show = shown g.M.Descends.stand g.M.Descends.content in
    let first = c.items_here.new.way in
    let l = way_stand b (g.M.Descends.start first) (g.M.Descends.steps first) in
    let i = c.loop-item.i in
    let d = g.M.Tree.Tree.content c.in-Some.item in
    let now = c.loop-item.way in
    let k = way_stand b (g.M.Descends.start now) (g.M.Descends.steps now ++ index i ∷ []) in
    let here : k ≡ kept_location b (l ++ index i ∷ []) =
    child-stays b (g.M.Descends.start first) (g.M.Descends.start now) (g.M.Descends.steps first) (g.M.Descends.steps now) (index i) c.loop-item.invariant.stays in
    let gained = node_then_descendants b k (l ++ index i ∷ []) d (map show c.loop-item.out.items) (map show c.push_item.new.out.items) (map show c.add_all_under_child.new.out.items)
    (rw (← c.loop-item.invariant.here) c.in_ok-push_item.ensures) here c.in_ok-add_all_under_child.ensures.gains in
    record {
      gains = item_next b below l k i d (g.M.Tree.Tree.items_left c.next_item.new.left) (g.M.Tree.Tree.items_left c.loop-item.left) _ _ _ c.in-Some.ensures here gained c.loop-item.invariant.gains;
      stays = stays_on b _ _ _ _ _ _ c.loop-item.invariant.stays c.in_ok-add_all_under_child.ensures.stays;
      here = c.loop-item.invariant.here;
      count = search rules;
      within = search rules;
    }

pub add_items_and_all_below-returns-clause-gains : goal.add_items_and_all_below-returns-clause-gains
add_items_and_all_below-returns-clause-gains g t c =
    let b = g.M.Descends.located in
    let all = g.M.Tree.Tree.items c.args.items in
    let first = c.items_here.new.way in
    let same = stays-stand b (g.M.Descends.start c.args.way.now) (g.M.Descends.start first) (g.M.Descends.steps c.args.way.now) (g.M.Descends.steps first) c.in_ok-here.ensures.stays in
    items_gained b below _ _ c.loop-item.i (g.M.Tree.Tree.items_left c.loop-item.left) all _ _ (below_items 0 all) same c.in_default.ensures c.loop-item.invariant.gains (below_items-kids 0 all)

pub add_members_and_all_below-loop-name-preserved : goal.add_members_and_all_below-loop-name-preserved
add_members_and_all_below-loop-name-preserved g t c =
    let b = g.M.Descends.located in
    let show = shown g.M.Descends.stand g.M.Descends.content in
    let first = c.members_here.new.way in
    let l = way_stand b (g.M.Descends.start first) (g.M.Descends.steps first) in
    let x = name (g.M.Tree.Name.Name.bytes c.in-Some.name) in
    let d = g.M.Tree.Tree.content c.in-Some.member in
    let now = c.loop-name.way in
    let k = way_stand b (g.M.Descends.start now) (g.M.Descends.steps now ++ x ∷ []) in
    let here : k ≡ kept_location b (l ++ x ∷ []) =
    child-stays b (g.M.Descends.start first) (g.M.Descends.start now) (g.M.Descends.steps first) (g.M.Descends.steps now) x c.loop-name.invariant.stays in
    let pushed : map show c.push_member.new.out.items ≡ map show c.loop-name.out.items ++ (kept_location b (g.M.Descends.members_stand c.in_ok-here.here ++ x ∷ []), Some d) ∷ [] = search (rules, c.in_ok-push_member.ensures) in
    let later : map show c.add_all_under_child.new.out.items ≡ map show c.push_member.new.out.items ++ map (look_kept_from b k d) (descendants d) = search (rules, c.in_ok-add_all_under_child.ensures.gains) in
    let gained = node_then_descendants b k (l ++ x ∷ []) d (map show c.loop-name.out.items) (map show c.push_member.new.out.items) (map show c.add_all_under_child.new.out.items)
    (pushed ∙ ap (λ (m : Location). map show c.loop-name.out.items ++ (kept_location b (m ++ x ∷ []), Some d) ∷ []) c.loop-name.invariant.here) here later in
    record {
      gains = member_next b below l k (g.M.Tree.Name.Name.bytes c.in-Some.name) d (g.M.Tree.Tree.members_left c.next_member.new.left) (g.M.Tree.Tree.members_left c.loop-name.left) _ _ _ (search (rules, c.in-Some.ensures)) here gained c.loop-name.invariant.gains;
      stays = stays_on b _ _ _ _ _ _ c.loop-name.invariant.stays c.in_ok-add_all_under_child.ensures.stays;
      here = c.loop-name.invariant.here;
      within = search rules;
    }

pub add_members_and_all_below-returns-clause-gains : goal.add_members_and_all_below-returns-clause-gains
add_members_and_all_below-returns-clause-gains g t c =
    let b = g.M.Descends.located in
    let all = g.M.Tree.Tree.members c.args.members in
    let first = c.members_here.new.way in
    let same = stays-stand b (g.M.Descends.start c.args.way.now) (g.M.Descends.start first) (g.M.Descends.steps c.args.way.now) (g.M.Descends.steps first) c.in_ok-here.ensures.stays in
    members_gained b below _ _ (g.M.Tree.Tree.members_left c.loop-name.left) all _ _ (below_members all) c.each_member-left.ensures.ordered same c.in_default.ensures c.loop-name.invariant.gains (below_members-kids all)
