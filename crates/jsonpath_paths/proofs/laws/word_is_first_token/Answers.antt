use Rattle.jsonpath_paths.proofs.token.FoundLemmas.{word_is_first}
use Rattle.jsonpath_paths.proofs.laws.word_is_first_token.Goals as goal

pub returns : goal.returns
returns c = word_is_first
