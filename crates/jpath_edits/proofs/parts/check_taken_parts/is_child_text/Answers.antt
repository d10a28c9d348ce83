use Rattle.std.proofs.Common.{refl, subst, arith}
use Rattle.json.specs.Value.{value_view}
use Rattle.jsonpath_nodes.specs.place.Owned.{owned_step}
use Rattle.jpath_edits.specs.Changed.{IsEdge, IsLabel}
use Rattle.jpath_edits.proofs.TargetLemmas.{child_text}
use Rattle.jpath_edits.proofs.parts.check_taken_parts.is_child_text.Goals as goal

pub returns : goal.returns
returns c =
    let first = c.in-Some-Some.ensures.cases in
    let second = c.in-Some-Some.ensures'.cases in
    let third = c.in-Some-Some-2.ensures.cases in
    let fourth = c.in-Some-Some-2.ensures'.cases in
    let begins : IsEdge c.in-Some-Some.before.now = subst IsEdge c.as_bytes.ensures.value (c.if-not-is_blank_with_optional_comma.ensures refl) in
    let labelled : IsLabel (owned_step c.args.step.now) c.in-Some-Some.label.now = c.in_ok-is_text_before_value.ensures c.if-not-branch.false in
    let ends : IsEdge c.in-Some-Some-2.behind.now = subst IsEdge c.as_bytes-else-not-is_blank_with_optional_comma.ensures.value (c.if-not-is_blank_with_optional_comma-2.ensures refl) in
    child_text c.is_text_of.result (owned_step c.args.step.now) (value_view c.args.value.now) c.args.text.now c.args.part.now c.in-Some-Some.before.now c.in-Some-Some.label.now c.in-Some-Some-2.own.now c.in-Some-Some-2.behind.now
    (omega (arith, first.1)) (omega (arith, second.1)) (omega (arith, third.1)) (omega (arith, fourth.1)) first.0 second.0 third.0 fourth.0 begins labelled ends c.is_text_of.ensures
