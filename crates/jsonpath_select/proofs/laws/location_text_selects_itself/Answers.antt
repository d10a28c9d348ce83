use Rattle.jsonpath_select.proofs.answer.LocationTextLemmas.{location_text_selects_itself}
use Rattle.jsonpath_select.proofs.laws.location_text_selects_itself.Goals as goal

pub returns : goal.returns
returns c = location_text_selects_itself c.longest_front.ensures.found c.longest_front.ensures.none
