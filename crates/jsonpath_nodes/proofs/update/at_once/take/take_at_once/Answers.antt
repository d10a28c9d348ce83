use Rattle.std.proofs.Common.{sym, ap, subst, ◌∙◌}
use Rattle.std.specs.List.Sorted.{IsStrictlySortedBy}
use Rattle.jsonpath_nodes.specs.document.OfData.{value_document}
use Rattle.jsonpath_nodes.specs.place.Location.{location_cmp}
use Rattle.jsonpath_nodes.specs.update.Topmost.{taken}
use Rattle.jsonpath_nodes.proofs.update.GroupLemmas.{beyond-zero}
use Rattle.jsonpath_nodes.proofs.update.at_once.take.take_at_once.Goals as goal

pub take_from_value-requires : goal.take_from_value-requires
take_from_value-requires c = subst (IsStrictlySortedBy location_cmp) (sym (beyond-zero c.args.locations.now)) c.requires

pub returns-clause-taken : goal.returns-clause-taken
returns-clause-taken c = c.take_from_value.ensures ∙ ap (λ ls. taken ls (value_document c.args.value.now)) (beyond-zero c.args.locations.now)
