use Rattle.std.proofs.Common.{drop, length, ◌-◌, arith, take_all, length-drop}
use Rattle.serde_json.specs.Read.{number_of}
use Rattle.json_trees.proofs.numbers.whole_number.scan_number.Goals as goal

pub returns-then-has_minus : goal.returns-then-has_minus
unfolding number_of
returns-then-has_minus c =
    let s = c.as_bytes-bytes.result.now in
    rw (← c.as_bytes-bytes.ensures.value, ← c.if-has_minus.ensures.value, c.scan.ensures.parts, take_all (length s - 1) (drop 1 s) (omega (arith, length-drop 1 s)))

pub returns-else-has_minus : goal.returns-else-has_minus
unfolding number_of
returns-else-has_minus c = rw (← c.as_bytes-bytes.ensures.value, ← c.if-has_minus.ensures.value, c.scan-else-has_minus.ensures.parts)
