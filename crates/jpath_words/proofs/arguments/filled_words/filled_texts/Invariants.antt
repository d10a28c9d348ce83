use Rattle.std.proofs.Common.{take}
use Rattle.jpath_words.specs.Arguments.{AreFilled}
use Rattle.jpath_words.proofs.arguments.filled_words.filled_texts.Given as goal

abbrev pub invariant-loop-text : goal.invariant-loop-text
invariant-loop-text l = AreFilled l.arguments (take l.text-index l.texts) l.filled.items
