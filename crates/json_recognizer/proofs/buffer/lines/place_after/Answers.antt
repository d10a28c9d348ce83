use Rattle.std.proofs.Common.{ap, ◌∷◌, ◌∙◌}
use Rattle.json_recognizer.proofs.BufferLemmas.{place_on_next_line}
use Rattle.json_recognizer.proofs.buffer.lines.place_after.Goals as goal

pub returns-in-Some-eq10-default : goal.returns-in-Some-eq10-default
returns-in-Some-eq10-default c = λ passed placed.
    place_on_next_line c.args.place passed c.args.bytes.now c.in-Some-eq10-default.rest.now c.saturating_add-line.result c.place_after_text.result placed
    (c.in-Some-eq10-default.ensures.cases.0 ∙ ap (λ byte. byte ∷ c.in-Some-eq10-default.rest.now) c.in-Some-eq10-default.field-0-0-test) c.saturating_add-line.ensures c.place_after_text.ensures
