use Rattle.std.proofs.Common.{sym}
use Rattle.std.specs.Prelude.{not}
use Rattle.json_recognizer.specs.Blanks.{is_json_whitespace}
use Rattle.json_recognizer.proofs.BufferLemmas.{place_is, no_place}
use Rattle.json_recognizer.proofs.buffer.lines.count_blanks.Goals as goal

pub returns-in-Some-clause-blanks : goal.returns-in-Some-clause-blanks
returns-in-Some-clause-blanks c = sym (place_is (λ byte. not (is_json_whitespace byte)) c.args.bytes.now c.in-Some.at (sym c.in-Some.ensures.at))

pub returns-in-None-clause-blanks : goal.returns-in-None-clause-blanks
returns-in-None-clause-blanks c = sym (no_place (λ byte. not (is_json_whitespace byte)) c.args.bytes.now (sym c.in-None.ensures.at))
