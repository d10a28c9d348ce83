use Rattle.std.proofs.Common.{List, ◌∷◌, [], ◌++◌, map, append-nil, refl, sym, ap, ◌∙◌, subst}
use Rattle.jsonpath_nodes.specs.document.Document.{object}
use Rattle.jsonpath_nodes.specs.place.Location.{Location}
use Rattle.jsonpath_nodes.specs.plan.Way.{way_stand, down_step}
use Rattle.jsonpath_nodes.specs.plan.Gathered.{gathered_at, all_gathered}
use Rattle.jsonpath_nodes.specs.place.Order.{HoldOrderedDocuments}
use Rattle.jsonpath_nodes.specs.place.Mark.{look_kept_from}
use Rattle.jsonpath_nodes.proofs.place.SightLemmas.{Sight}
use Rattle.jsonpath_nodes.proofs.step.DeepLemmas.{deep_after}
use Rattle.jsonpath_nodes.proofs.step.NowhereLemmas.{leaf_else, no_container, hold_leaves}
use Rattle.jsonpath_nodes.proofs.place.KeptLemmas.{seen_items, seen_members, items_end, members_end, gathered_of_items, gathered_of_members, nothing_seen, leaf_gathered_step}
use Rattle.jsonpath_nodes.proofs.place.WayLemmas.{stays-stand}
use Rattle.jsonpath_nodes.proofs.step.gather.+deep.Goals as goal
use Rattle.jsonpath_nodes.proofs.step.gather.+deep.Goals.{add_at_or_below_object-then-holds+in_default, add_at_or_below_object-else-holds}

pub add_at_or_below_array-returns-clause-gains : goal.add_at_or_below_array-returns-clause-gains
add_at_or_below_array-returns-clause-gains g t c =
    let b = g.M.Descends.located in
    let own = gathered_at (g.G.Gathers.what c.args.what.now) in
    let whole = g.M.Tree.Tree.items c.args.items in
    let here = way_stand b (g.M.Descends.start c.args.way.now) (g.M.Descends.steps c.args.way.now) in
    let first = c.add_in_array.new.way in
    let same = stays-stand b (g.M.Descends.start c.args.way.now) (g.M.Descends.start first) (g.M.Descends.steps c.args.way.now) (g.M.Descends.steps first) c.in_ok-add_in_array.ensures.stays in
    deep_after _ _ _ _ _ _
    (items_end (seen_items b (all_gathered own) (way_stand b (g.M.Descends.start first) (g.M.Descends.steps first))) c.loop-item.i (g.M.Tree.Tree.items_left c.loop-item.left) whole _ _ _ (λ n. refl) c.in_default.ensures c.loop-item.invariant.gains
    (ap (λ (m : Location). seen_items b (all_gathered own) m 0 whole) same))
    c.in_ok-add_in_array.ensures.gains
    (gathered_of_items b own here whole)

pub add_at_or_below_object-returns-clause-gains : goal.add_at_or_below_object-returns-clause-gains
add_at_or_below_object-returns-clause-gains g t c =
    let b = g.M.Descends.located in
    let own = gathered_at (g.G.Gathers.what c.args.what.now) in
    let whole = g.M.Tree.Tree.members c.args.members in
    let here = way_stand b (g.M.Descends.start c.args.way.now) (g.M.Descends.steps c.args.way.now) in
    let first = c.add_in_object.new.way in
    let same = stays-stand b (g.M.Descends.start c.args.way.now) (g.M.Descends.start first) (g.M.Descends.steps c.args.way.now) (g.M.Descends.steps first) c.in_ok-holds.ensures.stays in
    elim c.if-holds.branch [
      | add_at_or_below_object-then-holds+in_default w ↦
          rw w.out-is (deep_after _ _ _ _ _ _
          (members_end (seen_members b (all_gathered own) (way_stand b (g.M.Descends.start first) (g.M.Descends.steps first))) (g.M.Tree.Tree.members_left w.loop-name.left) whole _ _ _ refl w.in_default.ensures w.loop-name.invariant.gains
          (ap (λ (m : Location). seen_members b (all_gathered own) m whole) same))
          c.in_ok-holds.ensures.gains
          (gathered_of_members b own here whole c.each_member-left.ensures.ordered))
      | add_at_or_below_object-else-holds w ↦
          rw w.out-is (deep_after _ _ _ _ _ _
          (sym (append-nil _))
          c.in_ok-holds.ensures.gains
          (gathered_of_members b own here whole c.each_member-left.ensures.ordered ∙ ap (λ (xs : List Sight). map (look_kept_from b here (object whole)) (own (object whole)) ++ xs) (nothing_seen b (g.G.Gathers.what c.args.what.now) here whole (c.in_ok-holds.ensures.below w.if-holds.false))))
    ]

pub add_at_or_below_object-returns-clause-document : goal.add_at_or_below_object-returns-clause-document
add_at_or_below_object-returns-clause-document g t c =
    elim c.if-holds.branch [
      | add_at_or_below_object-then-holds+in_default w ↦ (c.each_member-left.ensures.ordered, w.loop-name.invariant.documents (subst HoldOrderedDocuments (sym w.in_default.ensures) tt))
      | add_at_or_below_object-else-holds w ↦ (c.each_member-left.ensures.ordered, hold_leaves (g.M.Tree.Tree.members c.args.members) (c.in_ok-holds.ensures.below w.if-holds.false))
    ]

pub add_at_or_below-returns-in_default-as_array-clause-gains : goal.add_at_or_below-returns-in_default-as_array-clause-gains
add_at_or_below-returns-in_default-as_array-clause-gains g t c =
    leaf_gathered_step g.M.Descends.located (g.G.Gathers.what c.args.what.now) (way_stand g.M.Descends.located (g.M.Descends.start c.args.way.now) (g.M.Descends.steps c.args.way.now)) (g.M.Tree.Tree.content c.args.value) _
    (leaf_else (g.M.Tree.Tree.content c.args.value) c.in_default-as_array.ensures.none c.in_default.ensures.none)

pub add_at_or_below_child-returns-else-is_container-clause-gains : goal.add_at_or_below_child-returns-else-is_container-clause-gains
add_at_or_below_child-returns-else-is_container-clause-gains g t c =
    leaf_gathered_step g.M.Descends.located (g.G.Gathers.what c.args.what.now) (way_stand g.M.Descends.located (g.M.Descends.start c.args.way.now) (g.M.Descends.steps c.args.way.now ++ down_step g.M.Tree.Name.Name.bytes c.args.step ∷ [])) (g.M.Tree.Tree.content c.args.value) _
    (no_container (g.M.Tree.Tree.content c.args.value) (sym c.is_container.ensures ∙ c.if-is_container.false))
