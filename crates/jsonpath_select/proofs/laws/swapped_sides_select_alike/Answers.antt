use Rattle.jsonpath_select.proofs.answer.ReorderedLemmas.{swapped_sides_select_alike}
use Rattle.jsonpath_select.proofs.laws.swapped_sides_select_alike.Goals as goal

pub returns : goal.returns
returns c = swapped_sides_select_alike
