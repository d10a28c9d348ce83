use Rattle.std.proofs.Common.{IfSome, subst}
use Rattle.json.specs.Value.{value_view}
use Rattle.jpath_edits.specs.Grown.{IsGrownAt}
use Rattle.jpath_core.proofs.grow.text_with_growth.Goals as goal

pub returns-in-Some : goal.returns-in-Some
returns-in-Some c =
    subst (λ v. IsGrownAt c.args.growth.now (value_view v) c.args.places.now c.args.text.now c.in-Some.grown.text.items) c.root.ensures
    (subst (λ o. IfSome o (λ g. IsGrownAt c.args.growth.now (value_view c.root.result.value.now) c.args.places.now c.args.text.now g.text.items)) c.in-Some.is c.in_ok-grown.ensures)
