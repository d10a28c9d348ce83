use Rattle.jsonpath_select.proofs.answer.DottedTextLemmas.{dotted_names_select_one_location}
use Rattle.jsonpath_select.proofs.laws.dotted_names_select_one_location.Goals as goal

pub returns : goal.returns
returns c = dotted_names_select_one_location c.longest_front.ensures.found c.longest_front.ensures.none c.word_is_first_token.ensures
