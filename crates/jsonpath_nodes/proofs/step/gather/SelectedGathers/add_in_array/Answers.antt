use Rattle.std.proofs.Common.{refl, append-nil}
use Rattle.jsonpath_nodes.proofs.step.NowhereLemmas.{listed_of_items}
use Rattle.jsonpath_nodes.proofs.step.gather.SelectedGathers.add_in_array.Goals as goal

pub returns-in-Listed-clause-gains : goal.returns-in-Listed-clause-gains
returns-in-Listed-clause-gains g c = rw (c.in-Listed.is, listed_of_items, append-nil) refl
