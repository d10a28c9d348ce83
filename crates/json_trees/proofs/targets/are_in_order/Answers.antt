use Rattle.std.proofs.Common.{◌≡◌, ◌-◌, true, false, map, is_lt, ap, sym, ◌∙◌, arith}
use Rattle.jsonpath_nodes.specs.place.SpotPlace.{step_of}
use Rattle.json_trees.proofs.TargetsLemmas.{first_sorted, is_less, next_less, next_sorted}
use Rattle.json_trees.proofs.targets.are_in_order.Goals as goal

pub loop-i-init : goal.loop-i-init
loop-i-init c = first_sorted (λ p. map step_of p.steps.now) c.args.lists.now

pub loop-i-preserved : goal.loop-i-preserved
loop-i-preserved c =
    next_sorted (λ p. map step_of p.steps.now) c.args.lists.now (c.loop-i.i - 1) c.loop-i.i _ (omega arith) c.loop-i-test.true (sym c.compare_step_lists.ensures ∙ is_less c.compare_step_lists.result (sym c.if-not-is_lt.ensures)) c.loop-i.invariant

pub returns-then-not-is_lt : goal.returns-then-not-is_lt
returns-then-not-is_lt c = (
  λ e.
      let never : false ≡ true = e in
      absurd (cc never),
  λ h.
      let less = next_less (λ p. map step_of p.steps.now) c.args.lists.now (c.loop-i.i - 1) c.loop-i.i _ (omega arith) c.loop-i-test.true h in
      let is : c.is_lt.result ≡ true = c.is_lt.ensures ∙ ap is_lt (c.compare_step_lists.ensures ∙ less) in
      absurd (cc (is, c.if-not-is_lt.true)),
)
