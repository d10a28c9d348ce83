use Rattle.std.proofs.Common.{arith}
use Rattle.json_trees.proofs.numbers.WholeNumberLemmas.{short_whole}
use Rattle.json_trees.proofs.numbers.whole_number.is_short_whole.Goals as goal

pub returns : goal.returns
returns c shown = short_whole c.as_bytes-bytes.result.now c.args.text.now c.as_bytes-bytes.ensures.value (grind arith) (omega arith) (grind arith) (grind arith)
