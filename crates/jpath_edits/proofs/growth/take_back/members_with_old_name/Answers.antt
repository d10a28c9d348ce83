use Rattle.std.proofs.Common.{◌≡◌, sym, ap, ap₂, ◌∙◌, if◌then◌else◌}
use Rattle.std.specs.Str.{bytes_eq}
use Rattle.json.specs.Value.{value_view, members_view}
use Rattle.jpath_edits.specs.Grown.{each_renamed, with_last_member}
use Rattle.jpath_edits.proofs.GrowthLemmas.{member_last, renamed_last}
use Rattle.jpath_edits.proofs.growth.take_back.members_with_old_name.Goals as goal
use Rattle.jpath_edits.proofs.growth.take_back.members_with_old_name.Goals.{then-eq, else-eq}

pub loop-name-preserved : goal.loop-name-preserved
loop-name-preserved c =
    let old = c.args.old.now in
    let new = c.args.new.now in
    let name = c.in-Some.name.now in
    let value = value_view c.in-Some.value in
    let l = c.loop-name in
    let named : c.if-eq.push.now ≡ (if bytes_eq new name then old else name) = elim c.if-eq.branch [
      | then-eq w ↦ rw (sym c.eq.ensures ∙ w.if-eq.true) (ap (λ p. p.now) w.push-is)
      | else-eq w ↦ rw (sym c.eq.ensures ∙ w.if-eq.false) (ap (λ p. p.now) w.push-is)
    ] in
    ap members_view c.in_ok-push.ensures.items ∙ member_last l.made.items (c.if-eq.push, c.in-Some.value) ∙ ap₂ (λ k ms. with_last_member k value ms) named l.invariant
    ∙ sym (renamed_last new old name value (members_view l.yielded)) ∙ ap (each_renamed new old) (sym (member_last l.yielded (c.in-Some.name, c.in-Some.value)))
