use Rattle.jsonpath_select.proofs.answer.AllThereLemmas.{each_location_has_a_value}
use Rattle.jsonpath_select.proofs.laws.each_location_has_a_value.Goals as goal

pub returns : goal.returns
returns c = each_location_has_a_value
