use Rattle.jsonpath_select.proofs.walk.SetMeaningLemmas.{dropping_repeats_keeps_the_set, selects_one_ordered_set, holds_alike}
use Rattle.jsonpath_select.proofs.laws.dropping_repeats_keeps_the_set.Goals as goal

pub returns-clause-set : goal.returns-clause-set
returns-clause-set c = let s = c.steps_ignore_order_and_repeats.ensures in dropping_repeats_keeps_the_set s.step s.below s.candidates s.kept s.some

pub returns-clause-ordered : goal.returns-clause-ordered
returns-clause-ordered c = let s = c.steps_ignore_order_and_repeats.ensures in selects_one_ordered_set s.step s.below s.candidates s.kept s.some s.one_list

pub returns-clause-condition : goal.returns-clause-condition
returns-clause-condition c = let s = c.steps_ignore_order_and_repeats.ensures in holds_alike s.step s.below s.candidates s.kept s.some
