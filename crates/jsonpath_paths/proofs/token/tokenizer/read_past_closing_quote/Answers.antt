use Rattle.std.proofs.Common.{◌∙◌}
use Rattle.jsonpath_paths.proofs.text.QuoteLemmas.{closes_guard, closes_plain}
use Rattle.jsonpath_paths.proofs.token.tokenizer.read_past_closing_quote.Goals as goal

pub loop-c-preserved-then-c-eq92 : goal.loop-c-preserved-then-c-eq92
loop-c-preserved-then-c-eq92 c =
    c.loop-c.invariant ∙ closes_guard c.args.quote c.loop-c.reader c.next_char.new.self c.next_char-then-c-eq92.new.self c.in-Ok.c c.next_char-then-c-eq92.result
    c.in-Ok.ensures.char.0 c.in-Ok.ensures.char.1 c.if-c-quote.false c.if-c-eq92.true c.next_char-then-c-eq92.ensures.char

pub loop-c-preserved : goal.loop-c-preserved
loop-c-preserved c =
    c.loop-c.invariant ∙ closes_plain c.args.quote c.loop-c.reader c.next_char.new.self c.in-Ok.c c.in-Ok.ensures.char.0 c.in-Ok.ensures.char.1 c.if-c-quote.false c.if-c-eq92.false
