use Rattle.std.proofs.Common.{◌≡◌, ◌++◌, false, drop}
use Rattle.json.specs.Value.{items_view, members_view}
use Rattle.jpath_texts.specs.AtDepth.{rest_of_array, rest_of_object}
use Rattle.jpath_texts.proofs.output.colored_or_indented_value.+at_depth.Given as goal

abbrev pub invariant-add_array_at_depth-loop-item : goal.invariant-add_array_at_depth-loop-item
invariant-add_array_at_depth-loop-item l =
    l.out.items ++ rest_of_array l.has_items l.look l.depth (items_view (drop l.item-index l.item-items)) ≡ l.initial.out.items ++ rest_of_array false l.look l.depth (items_view l.item-items)

abbrev pub invariant-add_object_at_depth-loop-member : goal.invariant-add_object_at_depth-loop-member
invariant-add_object_at_depth-loop-member l =
    l.out.items ++ rest_of_object l.has_members l.look l.depth (members_view (drop l.member-index l.member-items)) ≡ l.initial.out.items ++ rest_of_object false l.look l.depth (members_view l.member-items)
