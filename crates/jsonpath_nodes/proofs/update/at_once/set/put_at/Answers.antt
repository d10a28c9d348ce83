use Rattle.std.proofs.Common.{rules, Some, ap, ◌∙◌}
use Rattle.jsonpath_nodes.specs.document.OfData.{value_document}
use Rattle.jsonpath_nodes.specs.place.Owned.{owned_steps}
use Rattle.jsonpath_nodes.specs.update.Update.{update}
use Rattle.jsonpath_nodes.proofs.update.RunLemmas.{update_where_steps_lead}
use Rattle.jsonpath_nodes.proofs.update.at_once.set.put_at.Goals as goal

pub returns : goal.returns
returns c =
    update_where_steps_lead _ (Some (value_document c.args.new)) (owned_steps c.steps.result.now) (value_document c.args.value.now) _ _ c.update_at_steps.result (value_document c.update_at_steps.new.value) (λ x r h. search rules) c.update_at_steps.ensures.updated
    ∙ ap (λ l. update l (Some (value_document c.args.new)) (value_document c.args.value.now)) c.steps.ensures
