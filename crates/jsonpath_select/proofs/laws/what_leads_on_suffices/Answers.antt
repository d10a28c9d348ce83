use Rattle.jsonpath_select.proofs.walk.LeadingLemmas.{pruned}
use Rattle.jsonpath_select.proofs.laws.what_leads_on_suffices.Goals as goal

pub returns : goal.returns
returns c = λ text doc ss ls. pruned c.equal_locations_are_same.ensures c.steps_ignore_order_and_repeats.ensures.each_once c.steps_ignore_order_and_repeats.ensures.some text doc ss ls
