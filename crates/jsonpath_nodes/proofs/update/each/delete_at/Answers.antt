use Rattle.std.proofs.Common.{◌≡◌, Some, ◌∙◌, option_map, rules}
use Rattle.jsonpath_nodes.specs.document.Document.{null}
use Rattle.serde_json.specs.declared.value.Value.{Null, the_lemmas}
use Rattle.jsonpath_nodes.specs.document.OfData.{value_document}
use Rattle.jsonpath_nodes.proofs.update.RunLemmas.{each_runs}
use Rattle.jsonpath_nodes.proofs.update.TopmostLemmas.{each_null}
use Rattle.jsonpath_nodes.proofs.update.each.delete_at.Goals as goal

view-Null : option_map value_document (Some Null) ≡ Some null
view-Null = search (rules, the_lemmas)

pub returns : goal.returns
returns c = each_runs _ (Some null) (λ f x r g h. let said : r ≡ Some Null = search rules in rw said view-Null) _ _ _ _ _ c.replace_at.ensures.run ∙ each_null c.args.locations.now (value_document c.args.value.now)
