use Rattle.std.proofs.Common.{[], ◌∷◌, rules, arith}
use Rattle.jsonpath_select.proofs.machine.StandingLemmas.{few_disjoint}
use Rattle.jsonpath_select.proofs.machine.machine.Machine.root_marks.Goals as goal

pub returns : goal.returns
returns g c = (search rules, few_disjoint ([] ∷ []) (omega arith))
