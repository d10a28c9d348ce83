use Rattle.std.proofs.Common.{◌≡◌, map, take}
use Rattle.jpath_words.proofs.command_line.option_values.Given as goal

abbrev pub invariant-loop-value : goal.invariant-loop-value
invariant-loop-value l = map (λ t. t.now) l.found.items ≡ map (λ t. t.now) (take l.value-index l.values)
