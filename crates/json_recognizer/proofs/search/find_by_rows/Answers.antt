use Rattle.std.proofs.Common.{get_or, arith, refl}
use Rattle.json_recognizer.specs.plan.Rows.{at_row}
use Rattle.json_recognizer.proofs.Letters.{to_row, to_row_open, reaches_one, at_first, found_other}
use Rattle.json_recognizer.proofs.search.find_by_rows.Goals as goal

pub loop-index-init : goal.loop-index-init
loop-index-init c = record {
  found = c.pass_text-index.ensures.found _ (at_first _ c.args.piece.now);
  open_ = c.pass_text-index.ensures.open;
  within = c.pass_text-index.ensures.within.1;
}

pub loop-index-preserved-then-letter-ge48 : goal.loop-index-preserved-then-letter-ge48
loop-index-preserved-then-letter-ge48 c =
    let l = c.loop-index in
    let letter = c.letter_at-letter in
    let x = get_or c.args.piece.now l.index 0 in
    let next = at_row l.state letter.result in
    let is_open = to_row_open l.state l.row x letter.result letter.ensures l.invariant.open_ c.if-letter-ge48.true in
    let one = reaches_one _ (at_row l.state l.row) next c.args.piece.now l.index l.invariant.found (omega arith) (to_row l.state l.row x letter.result letter.ensures l.invariant.open_ c.if-letter-ge48.true) in
    record {
      found = c.pass_run-index.ensures.found _ l.state is_open one;
      open_ = is_open;
      within = c.pass_run-index.ensures.within.1;
    }

pub returns-in_default : goal.returns-in_default
returns-in_default c =
    let a = c.advance in
    record {
      found = λ more. found_other _ (at_row a.new.state a.new.row) c.args.piece.now a.new.index a.result c.in_default.not-GoesOn (a.ensures.found _ c.loop-index.invariant.found) more _ _;
      within = a.ensures.ends;
      «open» = λ is. (a.ensures.open is).unended;
      depth = a.ensures.depth;
      row = a.ensures.row;
    }

pub loop-index-preserved-in-GoesOn-advance_likely : goal.loop-index-preserved-in-GoesOn-advance_likely
loop-index-preserved-in-GoesOn-advance_likely c =
    let a = c.in-GoesOn-advance_likely in
    record { found = a.ensures.found _ (c.in-GoesOn.ensures.found _ c.loop-index.invariant.found); open_ = a.ensures.open refl; within = (a.ensures.within refl).1 }

pub returns-in_default-advance_likely : goal.returns-in_default-advance_likely
returns-in_default-advance_likely c =
    let a = c.advance_likely in
    record {
      found = λ more. found_other _ (at_row a.new.state a.new.row) c.args.piece.now a.new.index a.result c.in_default-advance_likely.not-GoesOn (a.ensures.found _ (c.in-GoesOn.ensures.found _ c.loop-index.invariant.found)) more _ _;
      within = a.ensures.ends;
      «open» = λ is. (a.ensures.open is).unended;
      depth = a.ensures.depth;
      row = a.ensures.row;
    }

pub loop-index-preserved : goal.loop-index-preserved
loop-index-preserved c = record { found = c.in-GoesOn.ensures.found _ c.loop-index.invariant.found; open_ = c.in-GoesOn.ensures.open refl; within = omega arith }
