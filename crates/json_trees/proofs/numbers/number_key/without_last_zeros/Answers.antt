use Rattle.std.proofs.Common.{arith}
use Rattle.json_trees.proofs.numbers.KeyLemmas.{zero_before, trailed}
use Rattle.json_trees.proofs.numbers.number_key.without_last_zeros.Goals as goal

pub loop-end-preserved : goal.loop-end-preserved
loop-end-preserved c =
    let l = c.loop-end in (
      omega (arith, l.invariant.0),
      zero_before c.args.digits.now l.end c.loop-end-test.true l.invariant.0 c.if-digits-end-eq48.true l.invariant.1,
    )

pub returns : goal.returns
returns c =
    let l = c.loop-end in
    trailed c.args.digits.now l.end l.invariant.0 l.invariant.1
    (elim c.loop-end-test.branch [ goal.then-loop-end-test+else-digits-end-eq48 w ↦ λ some. w.if-digits-end-eq48.false | goal.else-loop-end-test w ↦ λ some. absurd (omega (arith, w.loop-end-test.false, some)) ])
