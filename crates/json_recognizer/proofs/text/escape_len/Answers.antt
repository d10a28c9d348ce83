use Rattle.std.proofs.Common.{arith, sym, ◌∙◌}
use Rattle.json_recognizer.specs.declared.machine.TextPart.TheVariants.{InChars}
use Rattle.json_recognizer.proofs.Leads.{has_escape, has_unit, has_pair, at_end}
use Rattle.json_recognizer.proofs.text.escape_len.Goals as goal

pub returns-then-is_short_escape-clause-chars : goal.returns-then-is_short_escape-clause-chars
returns-then-is_short_escape-clause-chars c = has_escape c.args.bytes.now (omega arith) c.requires.escape (sym c.is_short_escape.ensures ∙ c.if-is_short_escape.true)

pub returns-then-is_hex-2-clause-chars : goal.returns-then-is_hex-2-clause-chars
returns-then-is_hex-2-clause-chars c = has_unit c.args.bytes.now c.requires.long c.requires.escape c.if-bytes-eq117.true (c.begins_unit.ensures c.if-begins_unit.true) (sym c.is_hex.ensures ∙ c.if-is_hex.true) (sym c.is_hex-then-is_hex.ensures ∙ c.if-is_hex-2.true)

pub returns-then-is_hex-6-clause-chars : goal.returns-then-is_hex-6-clause-chars
returns-then-is_hex-6-clause-chars c =
    has_pair c.args.bytes.now c.if-bytes-ge12.true c.requires.escape c.if-bytes-eq117-2.true (c.begins_high.ensures c.if-begins_high.true) (sym c.is_hex-then-begins_high.ensures ∙ c.if-is_hex-3.true) (sym c.is_hex-then-is_hex-3.ensures ∙ c.if-is_hex-4.true)
    c.if-bytes-eq92.true c.if-bytes-eq117-3.true (c.begins_low.ensures c.if-begins_low.true) (sym c.is_hex-then-begins_low.ensures ∙ c.if-is_hex-5.true) (sym c.is_hex-then-is_hex-5.ensures ∙ c.if-is_hex-6.true)

pub returns-else-bytes-ge12-clause-chars : goal.returns-else-bytes-ge12-clause-chars
returns-else-bytes-ge12-clause-chars c = at_end InChars
