use Rattle.std.proofs.Common.{ap, arith, ◌≤◌}
use Rattle.jsonpath_paths.proofs.token.ReadingLemmas.{span_read}
use Rattle.jsonpath_paths.proofs.text.str_reader.StrReader.next_char.Goals as goal

pub returns-in-Ok-clause-part : goal.returns-in-Ok-clause-part
returns-in-Ok-clause-part c =
    let from = c.args.self.now in
    let to = c.next_char_without_span.new.self in
    let moved = c.in-Ok.ensures.char.1 in
    let further : from.pos ≤ to.pos = omega (arith, ap (λ p. p.pos) moved) in
    span_read from to c.current_pos-start.result c.current_pos.result c.new.result c.current_pos-start.ensures.pos c.current_pos.ensures.pos c.new.ensures (ap (λ p. p.text) moved) further
    c.current_pos.ensures.within c.current_pos-start.ensures.utf8 c.current_pos.ensures.utf8
