use Rattle.std.proofs.Common.{◌≡◌, length, Some, None, sym, ap, ◌∙◌, arith}
use Rattle.jsonpath_select.proofs.compile.CaretLemmas.{begin_of, begun_at_end, carets_counted, none_counted, no_row_of_position}
use Rattle.jsonpath_select.proofs.compile.parser.caret_row_length.Goals as goal

pub returns-in-Some-clause-carets : goal.returns-in-Some-clause-carets
returns-in-Some-clause-carets c = λ path n is.
    let bytes = c.as_bytes-bytes.result.now in
    let end : c.loop-place.place ≡ length bytes = omega arith in
    let begun = begun_at_end bytes c.loop-place.place c.loop-place.row end c.loop-place.invariant in
    ap Some (carets_counted bytes path n c.in-Some.start (c.as_bytes-bytes.ensures.value ∙ is) (sym c.in-Some.is ∙ begun))

pub returns-in-Some-clause-position : goal.returns-in-Some-clause-position
returns-in-Some-clause-position c = λ at small is.
    let bytes = c.as_bytes-bytes.result.now in
    let end : c.loop-place.place ≡ length bytes = omega arith in
    let begun = begun_at_end bytes c.loop-place.place c.loop-place.row end c.loop-place.invariant in
    let both : Some c.in-Some.start ≡ None = sym c.in-Some.is ∙ begun ∙ ap (begin_of 0 None) (c.as_bytes-bytes.ensures.value ∙ is) ∙ no_row_of_position at small in
    cc

pub returns-in-None-clause-carets : goal.returns-in-None-clause-carets
returns-in-None-clause-carets c = λ path n is.
    let bytes = c.as_bytes-bytes.result.now in
    let end : c.loop-place.place ≡ length bytes = omega arith in
    let begun = begun_at_end bytes c.loop-place.place c.loop-place.row end c.loop-place.invariant in
    absurd (none_counted bytes path n c.loop-place.row c.in-None.is begun (c.as_bytes-bytes.ensures.value ∙ is))
