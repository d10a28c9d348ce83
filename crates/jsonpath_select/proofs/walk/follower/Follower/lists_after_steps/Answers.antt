use Rattle.std.proofs.Common.{◌≡◌, suc, List, [], ◌∷◌, drop, refl, sym, ap, ◌∙◌, add-one, arith, drop_of_length-le}
use Rattle.jsonpath_nodes.specs.place.Location.{Location}
use Rattle.jsonpath_paths.specs.tree.View.{inner_of, steps_of_list}
use Rattle.jsonpath_paths.specs.declared.tree.parser_node.ParserStep.{ParserStep}
use Rattle.jsonpath_select.specs.Meaning.{follow}
use Rattle.jsonpath_select.specs.plan.Machine.{spread}
use Rattle.jsonpath_select.specs.plan.Walk.{led_in}
use Rattle.jsonpath_select.proofs.tagged.TagLemmas.{places_alone}
use Rattle.jsonpath_select.proofs.walk.LeadingOnLemmas.{led_is, step_left}
use Rattle.jsonpath_select.proofs.walk.follower.Follower.lists_after_steps.Goals as goal

pub loop-step-init : goal.loop-step-init
loop-step-init g c = λ ordered ps shows. ([] ∷ [], (c.in_ok-current.ensures ps shows).1, refl)

pub loop-step-preserved : goal.loop-step-preserved
loop-step-preserved g c = λ ordered ps shows.
    let sets = c.args.self.now.sets in
    let text = c.args.self.now.text.now in
    let doc = g.M.Mark.content c.args.self.now.root.now in
    let s = c.step-item.result in
    let inv = c.loop-step.invariant ordered ps shows in
    let led : List Location = led_in sets text doc (inner_of s.inner) s.leaves inv.0 in
    let i = c.loop-step.step-index in (
      led,
      c.in_ok-current-2.ensures (λ place. inv.0) ([] ∷ []) refl inv.1,
      rw add-one
          (ap (follow text doc (steps_of_list (drop (suc i) c.args.steps.now))) (led_is c.locations_once_in_order_ascend.ensures.members c.topmost_descend_to_same_set.ensures.below c.dropping_repeats_keeps_the_set.ensures.condition sets text doc ordered (inner_of s.inner) s.leaves inv.0)
          ∙ sym (ap (λ (rest : List ParserStep). follow text doc (steps_of_list rest) inv.0) (step_left c.args.steps.now i s (omega arith) c.step-item.is)) ∙ inv.2),
    )

pub returns : goal.returns
returns g c = λ ordered ps shows.
    let doc = g.M.Mark.content c.args.self.now.root.now in
    let inv = c.loop-step.invariant ordered ps shows in
    let none : drop c.loop-step.step-index c.args.steps.now ≡ [] = drop_of_length-le c.args.steps.now {i = c.loop-step.step-index} c.loop-step-test.false in
    (spread (λ place. inv.0) 0 ([] ∷ []), inv.1, places_alone 0 inv.0 ∙ ap (λ (rest : List ParserStep). follow c.args.self.now.text.now doc (steps_of_list rest) inv.0) (sym none) ∙ inv.2)
