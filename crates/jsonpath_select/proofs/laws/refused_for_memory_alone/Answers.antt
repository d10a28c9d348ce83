use Rattle.jsonpath_select.proofs.answer.PlaceLemmas.{refused_for_memory_alone}
use Rattle.jsonpath_select.proofs.laws.refused_for_memory_alone.Goals as goal

pub returns : goal.returns
returns c = refused_for_memory_alone
