use Rattle.std.proofs.Common.{arith}
use Rattle.std.proofs.lemmas.Simd.{run_in_chunk_le}
use Rattle.json_recognizer.proofs.Chars.{counted, stops_at, none_stops}
use Rattle.json_recognizer.specs.Classes.{is_stop}
use Rattle.json_recognizer.proofs.text.count_chars.Goals as goal

pub returns-then-found-ne0-clause-within : goal.returns-then-found-ne0-clause-within
returns-then-found-ne0-clause-within c =
    let l = c.loop-at in
    let bytes = c.args.bytes.now in
    let r = run_in_chunk_le is_stop bytes l.at 16 _ 0 (omega arith) (counted bytes l.at (omega arith) l.invariant.1 c.stops-found.result c.stops-found.ensures (omega arith)) in
    omega (arith, r)

pub returns-then-found-ne0-clause-chars : goal.returns-then-found-ne0-clause-chars
returns-then-found-ne0-clause-chars c = stops_at c.args.bytes.now c.loop-at.at (omega arith) c.loop-at.invariant.1 c.stops-found.result c.stops-found.ensures (omega arith)

pub loop-at-preserved : goal.loop-at-preserved
loop-at-preserved c = (omega arith, none_stops c.args.bytes.now c.loop-at.at (omega arith) c.loop-at.invariant.1 (omega (arith, c.stops-found.ensures)))
