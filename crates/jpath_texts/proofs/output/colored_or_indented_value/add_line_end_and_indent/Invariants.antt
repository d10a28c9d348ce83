use Rattle.std.proofs.Common.{◌≡◌, ◌*◌, ◌∷◌, ◌++◌, replicate}
use Rattle.jpath_texts.proofs.output.colored_or_indented_value.add_line_end_and_indent.Given as goal

abbrev pub invariant-loop : goal.invariant-loop
invariant-loop l = l.out.items ≡ l.fn.out.items ++ 10 ∷ replicate (l.counter * l.count) 32
