use Rattle.std.proofs.Common.{refl, append-nil}
use Rattle.jsonpath_nodes.proofs.step.NowhereLemmas.{union_of_members}
use Rattle.jsonpath_nodes.proofs.step.gather.SelectedGathers.add_in_object.Goals as goal

pub returns-in-Union-clause-gains : goal.returns-in-Union-clause-gains
returns-in-Union-clause-gains g c = rw (c.in-Union.is, union_of_members, append-nil) refl
