use Rattle.std.proofs.Common.{◌≡◌, Bool, IsTrue, IfOk, map, IsPermutation, sym, ap, subst, ◌∙◌, Bor}
use Rattle.json.specs.Value.{value_view}
use Rattle.jsonpath_nodes.specs.place.Location.{Location}
use Rattle.jsonpath_nodes.specs.step.SameMembers.{topmost}
use Rattle.jpath_edits.specs.Changed.{part_text, GiveWayAt}
use Rattle.jpath_edits.specs.declared.change.Change.{Change}
use Rattle.jpath_edits.proofs.TargetLemmas.{given}
use Rattle.jpath_edits.proofs.parts.check_parts.are_parts_at_targets.Goals as goal

pub returns-in-Put : goal.returns-in-Put
returns-in-Put c =
    let now : Bor Location → Location = λ t. t.now in
    let tree = value_view c.args.root.value.now in
    let text = c.args.text.now in
    let tops : map now c.as_slice.result.now ≡ topmost c.args.targets.now = ap (map now) c.as_slice.ensures.value ∙ c.in_ok-tops.ensures in
    given c.are_texts_at.result c.args.change tree c.args.targets.now (map now c.as_slice.result.now) text c.args.parts.items c.as_slice-in-Put.result.now tops
    (subst (IsPermutation c.args.parts.items) (sym c.as_slice-in-Put.ensures.value) c.in_ok-sort_by_key.ensures.permutation)
    (subst (λ (change : Change). IfOk c.are_texts_at.result (λ (b : Bool). IsTrue b → GiveWayAt change tree (map now c.as_slice.result.now) (map (part_text text) c.as_slice-in-Put.result.now)))
    (sym c.in-Put.is) c.are_texts_at.ensures)

pub returns : goal.returns
returns c =
    let now : Bor Location → Location = λ t. t.now in
    let tree = value_view c.args.root.value.now in
    let text = c.args.text.now in
    let tops : map now c.as_slice-in-Take.result.now ≡ topmost c.args.targets.now = ap (map now) c.as_slice-in-Take.ensures.value ∙ c.in_ok-tops.ensures in
    given c.are_members_or_items_at.result c.args.change tree c.args.targets.now (map now c.as_slice-in-Take.result.now) text c.args.parts.items c.as_slice-in-Take-2.result.now tops
    (subst (IsPermutation c.args.parts.items) (sym c.as_slice-in-Take-2.ensures.value) c.in_ok-sort_by_key.ensures.permutation)
    (subst (λ (change : Change). IfOk c.are_members_or_items_at.result (λ (b : Bool). IsTrue b → GiveWayAt change tree (map now c.as_slice-in-Take.result.now) (map (part_text text) c.as_slice-in-Take-2.result.now)))
    (sym c.in-Take.is) c.are_members_or_items_at.ensures)
