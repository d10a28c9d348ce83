use Rattle.std.proofs.Common.{◌≡◌, Some, refl, sym, ◌∙◌, rules}
use Rattle.jsonpath_nodes.specs.document.OfData.{value_document}
use Rattle.jsonpath_nodes.specs.place.Owned.{owned_steps}
use Rattle.jsonpath_nodes.specs.update.Update.{target}
use Rattle.jsonpath_nodes.proofs.update.TrialLemmas.{target_below, tried}
use Rattle.jsonpath_nodes.proofs.update.fallible.try_update.Goals as goal

pub returns-in-Ok-clause-tried : goal.returns-in-Ok-clause-tried
returns-in-Ok-clause-tried g c =
    let there : target (owned_steps c.args.steps.now) (value_document c.args.value.now) ≡ Some (value_document c.in-Some.shown.now) =
    target_below c.args.steps.now (value_document c.args.value.now) (search rules) ∙ sym c.in-Some.ensures in
    tried g.F.FnMut (owned_steps c.args.steps.now) (value_document c.args.value.now) _ _ _ c.in-Some.shown _ _ there c.in-Ok.ensures (refl, c.replace_or_remove.ensures)

pub returns-in-Err-clause-tried : goal.returns-in-Err-clause-tried
returns-in-Err-clause-tried g c =
    let there : target (owned_steps c.args.steps.now) (value_document c.args.value.now) ≡ Some (value_document c.in-Some.shown.now) =
    target_below c.args.steps.now (value_document c.args.value.now) (search rules) ∙ sym c.in-Some.ensures in
    tried g.F.FnMut (owned_steps c.args.steps.now) (value_document c.args.value.now) _ _ _ c.in-Some.shown _ _ there c.in-Err.ensures (refl, refl)
