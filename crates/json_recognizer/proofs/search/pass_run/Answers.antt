use Rattle.std.proofs.Common.{get_or, refl, arith}
use Rattle.json_recognizer.specs.plan.Rows.{at_row}
use Rattle.json_recognizer.proofs.Letters.{to_row, reaches_one}
use Rattle.json_recognizer.proofs.search.pass_run.Goals as goal

pub loop-next-preserved : goal.loop-next-preserved
loop-next-preserved c =
    let row = c.args.row in
    let piece = c.args.piece.now in
    let next = c.loop-next.next in
    record {
      found = λ s₀ s ready so_far.
          reaches_one s₀ (at_row s row) (at_row s row) piece next (c.loop-next.invariant.found s₀ s ready so_far) c.loop-next-test.true (to_row s row (get_or piece next 0) row (c.if-stays_in.ensures refl) ready ready.is_row.0);
      from = omega arith;
      within = omega arith;
    }
