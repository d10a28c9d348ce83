use Rattle.std.proofs.Common.{◌+◌, refl}
use Rattle.std.proofs.lemmas.List.{take_rest}
use Rattle.json_recognizer.proofs.Leads.{plain_chars, chars_further}
use Rattle.json_recognizer.proofs.text.count_text.Goals as goal

pub returns-then-has_quote-clause-chars : goal.returns-then-has_quote-clause-chars
returns-then-has_quote-clause-chars c = plain_chars c.args.bytes.now c.count_chars-plain.result c.count_chars-plain.ensures.within c.count_chars-plain.ensures.chars

pub returns-clause-chars : goal.returns-clause-chars
returns-clause-chars c =
    let bytes = c.args.bytes.now in
    let plain = c.count_chars-plain in
    let fronts = c.count_fronts in
    chars_further bytes _ plain.result fronts.result (plain.result + fronts.result) (take_rest bytes plain.result) (plain_chars bytes plain.result plain.ensures.within plain.ensures.chars) fronts.ensures.chars refl
