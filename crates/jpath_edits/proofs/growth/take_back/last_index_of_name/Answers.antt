use Rattle.std.proofs.Common.{◌≡◌, ◌-◌, suc, false, drop, sym, ap, subst, ◌∙◌, arith}
use Rattle.std.specs.Str.{bytes_eq}
use Rattle.json.specs.Value.{members_view}
use Rattle.jpath_edits.specs.Grown.{has_name}
use Rattle.jpath_edits.proofs.GrowthLemmas.{last_at}
use Rattle.jpath_edits.proofs.growth.take_back.last_index_of_name.Goals as goal

pub returns-then-eq : goal.returns-then-eq
returns-then-eq c =
    let k = c.args.name.now in
    let ms = c.args.members.now in
    let left = c.loop-left.left in
    let step : left ≡ suc (left - 1) = omega (arith, c.loop-left-test.true) in
    let none : has_name k (members_view (drop (suc (left - 1)) ms)) ≡ false = subst (λ n. has_name k (members_view (drop n ms)) ≡ false) step c.loop-left.invariant.1 in
    (omega arith, last_at k ms (left - 1) c.index-members-left.result (omega arith) c.index-members-left.is (ap (λ m. bytes_eq k m.0.now) c.index-members-left.is ∙ sym c.eq.ensures ∙ c.if-eq.true) none)
