use Rattle.jsonpath_select.proofs.walk.PieceLemmas.{first_of_pieces}
use Rattle.jsonpath_select.proofs.laws.first_is_of_first_piece.Goals as goal

pub returns : goal.returns
returns c = λ text doc ss ls ms. first_of_pieces c.equal_locations_are_same.ensures c.steps_ignore_order_and_repeats.ensures.each_once c.steps_ignore_order_and_repeats.ensures.some text doc ss ls ms
