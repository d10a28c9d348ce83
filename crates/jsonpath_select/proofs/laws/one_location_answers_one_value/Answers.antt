use Rattle.jsonpath_select.proofs.answer.PlaceLemmas.{one_location_answers_one_value}
use Rattle.jsonpath_select.proofs.laws.one_location_answers_one_value.Goals as goal

pub returns : goal.returns
returns c = one_location_answers_one_value c.one_tree_per_text.ensures
