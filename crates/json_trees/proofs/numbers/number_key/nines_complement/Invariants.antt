use Rattle.std.proofs.Common.{◌≡◌, ◌-◌, map, take}
use Rattle.json_trees.proofs.numbers.number_key.nines_complement.Given as goal

abbrev pub invariant-loop-digit : goal.invariant-loop-digit
invariant-loop-digit l = l.found.items ≡ map (λ d. 105 - d) (take l.digit-index l.digits)
