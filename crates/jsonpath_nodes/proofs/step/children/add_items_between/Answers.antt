use Rattle.std.proofs.Common.{◌≡◌, ◌++◌, ◌≤◌, ◌+◌, ◌%◌, ◌-◌, ◌⊎◌, ℕ, List, map, ap, sym, ◌∙◌, arith, subst}
use Rattle.std.specs.Prelude.{filter}
use Rattle.std.proofs.Math.Nat.{zero-mod}
use Rattle.jsonpath_nodes.specs.document.Document.{array}
use Rattle.jsonpath_nodes.specs.place.Mark.{shown, look_kept_from}
use Rattle.jsonpath_nodes.specs.step.Steps.{count_up, is_in_range, length_of}
use Rattle.jsonpath_nodes.proofs.place.SightLemmas.{Sight}
use Rattle.jsonpath_nodes.proofs.step.BetweenLemmas.{between_init, between_next, between_done, between_none, still_on, stops, goes_on, shown as shown_at}
use Rattle.jsonpath_nodes.proofs.step.children.add_items_between.Goals as goal

pub returns-then-step-eq0 : goal.returns-then-step-eq0
returns-then-step-eq0 g c =
    let d = array (g.M.Tree.Tree.items c.args.items) in
    let look = look_kept_from g.M.Descends.located (g.M.Descends.items_stand c.args.here.now) d in
    let xs = map (shown g.M.Descends.stand g.M.Descends.content) c.args.out.now.items in
    subst (λ (step : ℕ). xs ≡ xs ++ shown_at look (filter (is_in_range c.args.first c.args.end step) (count_up 0 (length_of d)))) (sym c.if-step-eq0.true)
    (between_none look c.args.first c.args.end (length_of d) xs)

pub loop-i-init : goal.loop-i-init
loop-i-init g c =
    let d = array (g.M.Tree.Tree.items c.args.items) in
    let look = look_kept_from g.M.Descends.located (g.M.Descends.items_stand c.args.here.now) d in
    let none : c.args.first - c.args.first ≡ 0 = omega arith in
    record {
      found = ap (λ (ss : List Sight). map (shown g.M.Descends.stand g.M.Descends.content) c.args.out.now.items ++ ss) (between_init look c.args.first c.args.end c.args.step (length_of d));
      low = λ h. omega arith;
      on = λ h. ap (λ (x : ℕ). x % c.args.step) none ∙ zero-mod c.args.step;
    }

pub loop-i-preserved : goal.loop-i-preserved
loop-i-preserved g c =
    let d = array (g.M.Tree.Tree.items c.args.items) in
    let look = look_kept_from g.M.Descends.located (g.M.Descends.items_stand c.args.here.now) d in
    let i = c.loop-i.i in
    let j = c.saturating_add-i.result in
    let first = c.args.first in
    let end = c.args.end in
    let step = c.args.step in
    let within : end ≤ length_of d = c.requires in
    let low : first ≤ i = c.loop-i.invariant.low c.loop-i-test.true in
    let on : (i - first) % step ≡ 0 = c.loop-i.invariant.on c.loop-i-test.true in
    let next : (j ≡ i + step) ⊎ ((end ≤ j) × (end ≤ i + step)) = stops j (i + step) 18446744073709551615 end c.saturating_add-i.ensures (omega (arith, c.ranges.end.fits)) in
    record {
      found = between_next look d first end step i j _ _ _ low c.loop-i-test.true within (omega arith) on next c.in_ok-add_item_at_index.ensures c.loop-i.invariant.found;
      low = λ h. let same : j ≡ i + step = goes_on j (i + step) end next h in omega arith;
      on = λ h. let same : j ≡ i + step = goes_on j (i + step) end next h in ap (λ (x : ℕ). (x - first) % step) same ∙ still_on first step i low on;
    }

pub returns : goal.returns
returns g c =
    let d = array (g.M.Tree.Tree.items c.args.items) in
    between_done (look_kept_from g.M.Descends.located (g.M.Descends.items_stand c.args.here.now) d) c.args.first c.args.end c.args.step c.loop-i.i (length_of d) _ _ c.loop-i-test.false c.loop-i.invariant.found
