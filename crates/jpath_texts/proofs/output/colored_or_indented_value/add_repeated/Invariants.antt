use Rattle.std.proofs.Common.{◌≡◌, ◌++◌, replicate}
use Rattle.jpath_texts.proofs.output.colored_or_indented_value.add_repeated.Given as goal

abbrev pub invariant-loop : goal.invariant-loop
invariant-loop l = l.out.items ≡ l.fn.out.items ++ replicate l.counter l.byte
