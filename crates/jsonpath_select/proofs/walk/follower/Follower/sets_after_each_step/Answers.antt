use Rattle.std.proofs.Common.{◌≡◌, suc, List, [], ◌∷◌, length, refl, sym, ap, subst, ◌∙◌, ◌+◌, add-one, length-append, arith}
use Rattle.jsonpath_nodes.specs.place.Location.{Location}
use Rattle.jsonpath_paths.specs.tree.View.{inner_of}
use Rattle.jsonpath_select.specs.plan.LeadingOn.{AreAt, AreAfterEach, set_from_root}
use Rattle.jsonpath_select.specs.plan.Machine.{spread}
use Rattle.jsonpath_select.specs.plan.Walk.{set_after}
use Rattle.jsonpath_select.specs.plan.Shown.{Shows}
use Rattle.jsonpath_select.specs.declared.tagged.marks.TaggedMarks.{TaggedMarks}
use Rattle.jsonpath_select.proofs.tagged.TagLemmas.{places_alone}
use Rattle.jsonpath_select.proofs.walk.LeadingOnLemmas.{next_set, places_itself, push_each}
use Rattle.jsonpath_select.proofs.walk.follower.Follower.sets_after_each_step.Goals as goal

pub loop-step-init : goal.loop-step-init
loop-step-init g c =
    let none : length c.new-sets.result.items ≡ 0 = ap length c.new-sets.ensures.items in
    (none, λ ps shows. (λ k t within. absurd (omega (arith, within, none)), (c.in_ok-current.ensures ps shows).1))

pub loop-step-preserved : goal.loop-step-preserved
loop-step-preserved g c =
    let located = g.M.Mark.located in
    let stand = g.M.Mark.stand in
    let content = g.M.Mark.content in
    let sets = c.args.self.now.sets in
    let text = c.args.self.now.text.now in
    let doc = g.M.Mark.content c.args.self.now.root.now in
    let ss = c.args.steps.now in
    let i = c.loop-step.step-index in
    let s = c.step-item.result in
    let longer : length c.push_places.new.sets.items ≡ i + 1 = ap length c.in_ok-push_places.ensures ∙ length-append c.loop-step.sets.items (c.in_ok-copies.field-0.pairs ∷ []) ∙ ap (λ n. n + 1) c.loop-step.invariant.0 in (
      longer,
      λ ps shows.
          let inv = c.loop-step.invariant.1 ps shows in
          let after : set_after sets text doc (inner_of s.inner) s.leaves (set_from_root sets text doc ss i) ≡ set_from_root sets text doc ss (suc i) = sym (next_set sets text doc ss i s (omega arith) c.step-item.is ([] ∷ [])) in
          let next = c.in_ok-next.ensures (λ place. set_from_root sets text doc ss i) ([] ∷ []) refl inv.1 in
          let copies = (c.in_ok-copies.ensures (spread (λ place. set_after sets text doc (inner_of s.inner) s.leaves (set_from_root sets text doc ss i)) 0 ([] ∷ [])) next).1 in
          let last : AreAt located stand content doc (set_from_root sets text doc ss (suc i)) c.in_ok-copies.field-0.pairs = (_, copies, places_itself 0 _ ∙ places_alone 0 _ ∙ after) in (
            subst (λ (all : List (TaggedMarks g.row.M.Denot)). AreAfterEach located stand content doc (set_from_root sets text doc ss) all) (sym c.in_ok-push_places.ensures)
                (push_each located stand content doc (set_from_root sets text doc ss) c.loop-step.sets.items c.in_ok-copies.field-0.pairs inv.0
                (subst (λ n. AreAt located stand content doc (set_from_root sets text doc ss (suc n)) c.in_ok-copies.field-0.pairs) (sym c.loop-step.invariant.0) last)),
            rw add-one (subst (λ (ls : List Location). Shows located stand content doc (spread (λ place. ls) 0 ([] ∷ [])) c.in_ok-next.next) after next),
          ),
    )

pub returns-clause-count : goal.returns-clause-count
returns-clause-count g c = omega (arith, c.loop-step.invariant.0)

pub returns-clause-places : goal.returns-clause-places
returns-clause-places g c = λ ps shows. (c.loop-step.invariant.1 ps shows).0
