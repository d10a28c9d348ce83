use Rattle.std.proofs.Common.{sym, ◌∙◌}
use Rattle.json_recognizer.specs.declared.machine.TextPart.TheVariants.{InChars}
use Rattle.json_recognizer.proofs.Leads.{has_two, has_three, has_four, has_plain, plain_chars, at_end}
use Rattle.json_recognizer.proofs.text.front_len.Goals as goal

pub returns-then-is_alone-clause-chars : goal.returns-then-is_alone-clause-chars
returns-then-is_alone-clause-chars c = has_plain c.args.bytes.now c.requires (c.is_alone.ensures c.if-is_alone.true)

pub returns-else-is_alone-clause-chars : goal.returns-else-is_alone-clause-chars
returns-else-is_alone-clause-chars c = plain_chars c.args.bytes.now c.count_chars.result c.count_chars.ensures.within c.count_chars.ensures.chars

pub returns-then-not-is_tail-clause-chars : goal.returns-then-not-is_tail-clause-chars
returns-then-not-is_tail-clause-chars c = at_end InChars

pub returns-then-are_two-clause-chars : goal.returns-then-are_two-clause-chars
returns-then-are_two-clause-chars c = has_two c.args.bytes.now c.requires (c.are_two.ensures c.if-are_two.true)

pub returns-then-is_tail-clause-chars : goal.returns-then-is_tail-clause-chars
returns-then-is_tail-clause-chars c = has_three c.args.bytes.now c.requires (c.begins_three.ensures c.if-begins_three.true) (sym c.is_tail-then-begins_three.ensures ∙ c.if-is_tail.true)

pub returns-then-is_tail-3-clause-chars : goal.returns-then-is_tail-3-clause-chars
returns-then-is_tail-3-clause-chars c = has_four c.args.bytes.now c.requires (c.begins_four.ensures c.if-begins_four.true) (sym c.is_tail-then-begins_four.ensures ∙ c.if-is_tail-2.true) (sym c.is_tail-then-is_tail-2.ensures ∙ c.if-is_tail-3.true)

pub returns-else-begins_four-clause-chars : goal.returns-else-begins_four-clause-chars
returns-else-begins_four-clause-chars c = at_end InChars
