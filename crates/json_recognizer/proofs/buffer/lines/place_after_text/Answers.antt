use Rattle.std.proofs.Common.{◌+◌, length, refl, sym, ap, ◌∙◌}
use Rattle.json_recognizer.specs.Lines.{counted}
use Rattle.json_recognizer.proofs.BufferLemmas.{place_in_bytes, place_in_line, place_on_line}
use Rattle.json_recognizer.proofs.buffer.lines.place_after_text.Goals as goal

pub returns-in-Some : goal.returns-in-Some
returns-in-Some c = λ passed placed.
    place_in_line c.args.place passed c.args.bytes.now placed c.saturating_add.result c.saturating_add-in-Some.result c.in-Some.behind (c.saturating_add.ensures ∙ ap (λ n. counted (c.args.place.line + n)) c.count_line_ends.ensures) (sym c.in-Some.ensures.behind) c.in-Some.ensures.within c.saturating_add-in-Some.ensures

pub returns-in-None : goal.returns-in-None
returns-in-None c = λ passed placed.
    place_on_line c.args.place passed c.args.bytes.now placed c.saturating_add.result c.saturating_add-in-None.result (length c.args.bytes.now) (c.saturating_add.ensures ∙ ap (λ n. counted (c.args.place.line + n)) c.count_line_ends.ensures) (sym c.in-None.ensures.behind) refl c.saturating_add-in-None.ensures

pub returns-then-not-contains : goal.returns-then-not-contains
returns-then-not-contains c = λ passed placed.
    place_in_bytes c.args.place passed c.args.bytes.now placed c.args.place.line c.saturating_add-column.result (sym c.if-not-contains.ensures.value) refl c.saturating_add-column.ensures
