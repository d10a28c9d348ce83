use Rattle.jsonpath_paths.proofs.parser.RefusedWithinLemmas.{within_text}
use Rattle.jsonpath_paths.proofs.laws.refused_within_text.Goals as goal

pub returns : goal.returns
returns c = within_text
