use Rattle.std.proofs.Common.{take}
use Rattle.jpath_words.specs.Arguments.{Pairwise, IsArgumentOf}
use Rattle.jpath_words.proofs.arguments.argument.read_arguments.Given as goal

abbrev pub invariant-loop-words : goal.invariant-loop-words
invariant-loop-words g l = Pairwise IsArgumentOf (take l.words-index l.words) l.arguments.items
