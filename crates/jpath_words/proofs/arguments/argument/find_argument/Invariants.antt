use Rattle.std.proofs.Common.{◌≡◌, All, take, string_bytes}
use Rattle.jpath_words.proofs.arguments.argument.find_argument.Given as goal

abbrev pub invariant-loop-argument : goal.invariant-loop-argument
invariant-loop-argument l = All (λ a. string_bytes a.placeholder ≡ l.word → ⊥) (take l.argument-index l.arguments)
