use Rattle.json_recognizer.proofs.Streams.{is_found}
use Rattle.json_recognizer.proofs.laws.found_by_grammar.Goals as goal

pub returns : goal.returns
returns c = is_found
