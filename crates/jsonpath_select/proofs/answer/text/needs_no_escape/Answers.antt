use Rattle.std.proofs.Common.{◌≡◌, length, drop, arith, length-drop, subst}
use Rattle.json.specs.Print.{escape}
use Rattle.jsonpath_select.proofs.answer.UnescapedLemmas.{plain_more, plain_none}
use Rattle.jsonpath_select.proofs.answer.text.needs_no_escape.Goals as goal

pub loop-b-preserved : goal.loop-b-preserved
loop-b-preserved c = λ e.
    c.loop-b.invariant (plain_more c.as_bytes-bytes.result.now c.loop-b.b-index c.loop-b-test.true c.if-b-lt32.false c.if-b-eq34.false c.if-b-eq92.false e)

pub returns : goal.returns
returns c = λ h.
    let bytes = c.as_bytes-bytes.result.now in
    let end : length (drop c.loop-b.b-index bytes) ≡ 0 = omega (arith, length-drop c.loop-b.b-index bytes) in
    subst (λ t. escape t ≡ t) c.as_bytes-bytes.ensures.value (c.loop-b.invariant (plain_none (drop c.loop-b.b-index bytes) end))
