use Rattle.std.proofs.Common.{refl, append-nil}
use Rattle.jsonpath_nodes.proofs.step.NowhereLemmas.{listed_of_items}
use Rattle.jsonpath_nodes.proofs.step.children.add_selected_items.Goals as goal

pub returns-in-Listed : goal.returns-in-Listed
returns-in-Listed g c = rw (c.in-Listed.is, listed_of_items, append-nil) refl
