use Rattle.std.proofs.Common.{◌≡◌, ◌<◌, true, Some, IfSome, option_map, length, sym, ap, subst, ◌∙◌, arith, Global}
use Rattle.std.proofs.lemmas.Option.{slice_get-get_or, slice_get_past}
use Rattle.std.specs.List.{slice_get}
use Rattle.json.specs.Value.{value_view, members_view}
use Rattle.json.specs.Find.{get_item}
use Rattle.json_trees.specs.TreeOrder.{is_order, values_of}
use Rattle.json_trees.proofs.OrderLemmas.{member_of_view, value_of_view}
use Rattle.json_trees.proofs.OrderedTreeLemmas.{Entry}
use Rattle.json_trees.proofs.ordered_tree.handle.OrderedMembers.member_in_place.Goals as goal

pub returns-then-place-len : goal.returns-then-place-len
returns-then-place-len c =
    let xs = c.args.self.members.now.items in
    sym (member_of_view xs c.args.place ∙ ap (option_map (λ (y : Entry Global). (y.0.now, value_view y.1))) (slice_get_past xs c.args.place (omega (arith, c.args.self.members.now.ok.0))))

pub with_order-value-requires : goal.with_order-value-requires
with_order-value-requires c =
    let xs = c.args.self.members.now.items in
    let within : c.args.place < length xs = omega (arith, c.args.self.members.now.ok.0) in
    let m = c.index-member.result.now in
    let read : slice_get xs c.args.place ≡ Some m = slice_get-get_or xs c.args.place m within ∙ ap Some (sym c.index-member.ensures) in
    let there : get_item c.args.place (values_of (members_view xs)) ≡ Some (value_view m.1) = value_of_view xs c.args.place ∙ ap (option_map (λ (y : Entry Global). value_view y.1)) read in
    subst (λ o. IfSome o (λ j. is_order c.in_item.result.now j ≡ true)) there (c.in_item.ensures (values_of (members_view xs)) c.requires)

pub returns : goal.returns
returns c =
    let xs = c.args.self.members.now.items in
    let within : c.args.place < length xs = omega (arith, c.args.self.members.now.ok.0) in
    let m = c.index-member.result.now in
    let read : slice_get xs c.args.place ≡ Some m = slice_get-get_or xs c.args.place m within ∙ ap Some (sym c.index-member.ensures) in
    ap (λ v. Some (m.0.now, value_view v)) c.with_order-value.ensures ∙ sym (member_of_view xs c.args.place ∙ ap (option_map (λ (y : Entry Global). (y.0.now, value_view y.1))) read)
