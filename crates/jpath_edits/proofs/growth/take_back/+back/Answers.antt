use Rattle.std.proofs.Common.{◌≡◌, false, sym, ap, subst, ◌∙◌, arith}
use Rattle.std.proofs.lemmas.Result.{IfOk-weaker}
use Rattle.json.specs.Json.{array, object}
use Rattle.json.specs.Value.{members_view}
use Rattle.jpath_edits.specs.Grown.{has_name, IsLastNamed}
use Rattle.jpath_edits.proofs.GrowthLemmas.{item_past, item_set, member_set, no_such_name}
use Rattle.jpath_edits.proofs.growth.take_back.+back.Goals as goal

pub take_back_in_item-returns-then-index-len : goal.take_back_in_item-returns-then-index-len
take_back_in_item-returns-then-index-len t c = λ _. ap array (item_past _ c.args.items.now.items c.args.index (omega (arith, c.args.items.now.ok.0)))

pub take_back_in_item-returns : goal.take_back_in_item-returns
take_back_in_item-returns t c =
    IfOk-weaker c.take_back.result _ _
    (λ done h right. ap array (item_set _ c.args.items.now.items c.args.index c.index_mut.result.now c.take_back.new.value (omega (arith, c.args.items.now.ok.0)) c.index_mut.ensures.value (h right)))
    c.take_back.ensures

pub take_back_in_member-index_mut-requires : goal.take_back_in_member-index_mut-requires
take_back_in_member-index_mut-requires t c = omega (arith, c.in-Some.ensures.0, c.as_slice.ensures.len)

pub take_back_in_member-returns-in-Some : goal.take_back_in_member-returns-in-Some
take_back_in_member-returns-in-Some t c =
    let k = c.args.name.now in
    let last : IsLastNamed k c.in-Some.at (members_view c.args.members.now.items) = subst (λ xs. IsLastNamed k c.in-Some.at (members_view xs)) c.as_slice.ensures.value c.in-Some.ensures.1 in
    IfOk-weaker c.take_back.result _ _
    (λ done h right. ap object (member_set _ k c.args.members.now.items c.in-Some.at c.index_mut.result.now c.take_back.new.value last c.index_mut.ensures.value (h right)))
    c.take_back.ensures

pub take_back_in_member-returns-in-None : goal.take_back_in_member-returns-in-None
take_back_in_member-returns-in-None t c =
    let k = c.args.name.now in
    let none : has_name k (members_view c.args.members.now.items) ≡ false = ap (λ xs. has_name k (members_view xs)) (sym c.as_slice.ensures.value) ∙ c.in-None.ensures in
    λ _. ap object (no_such_name _ k (members_view c.args.members.now.items) none)
