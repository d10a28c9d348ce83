use Rattle.jsonpath_paths.proofs.parser.RefusedAtLemmas.{place_found, place_only}
use Rattle.jsonpath_paths.proofs.laws.error_position.Goals as goal

pub returns-clause-found : goal.returns-clause-found
returns-clause-found c = place_found

pub returns-clause-only : goal.returns-clause-only
returns-clause-only c = place_only
