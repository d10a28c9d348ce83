use Rattle.jsonpath_select.proofs.answer.PlaceLemmas.{selects_by_any_tree}
use Rattle.jsonpath_select.proofs.laws.selects_by_any_tree.Goals as goal

pub returns : goal.returns
returns c = selects_by_any_tree c.one_tree_per_text.ensures
