use Rattle.std.proofs.Common.{◌≤◌, length, refl, arith, length-take}
use Rattle.json_recognizer.specs.Buffer.{left, piece_of}
use Rattle.jsonpath_lib.proofs.StreamLemmas.{document, refused, fewer_left}
use Rattle.jsonpath_lib.proofs.stream.documents.DocumentsIterator.next.Goals as goal

pub returns-in-Ok-Document-clause-steps : goal.returns-in-Ok-Document-clause-steps
returns-in-Ok-Document-clause-steps g c =
    let found = c.read_next_piece.new.self in
    let within : length (piece_of found) ≤ length (left found) = grind (arith, length-take) in
    document g.R.Input.given g.R.Input.has_ended g.R.Input.has_failed c.args.self.now c.if-self.false c.begin_piece.new.self found c.read_next_piece.new.reader c.begin_piece.ensures.stays c.begin_piece.ensures.whole c.begin_piece.ensures.place c.read_next_piece.ensures.whole c.read_next_piece.ensures.place
    c.in-Ok-Document.ensures.ok c.in-Ok-Document.field-0 c.in-Ok-Document.ensures.first c.in-Ok-Document.field-0-is within c.take_document.result c.take_document.new.self c.take_document.ensures.ok _ refl refl refl c.take_document.ensures.passed
    c.take_document.ensures.whole c.take_document.ensures.input c.take_document.ensures.over c.take_document.ensures.long c.take_document.ensures.unread

pub returns-in-Ok-Document-clause-goes : goal.returns-in-Ok-Document-clause-goes
returns-in-Ok-Document-clause-goes g c = record {
  on = λ finite. (tt, tt, fewer_left c.args.self.now _ c.take_document.new.self c.take_document.result c.if-self.false refl refl (c.in-Ok-Document.ensures.some c.in-Ok-Document.field-0-is) c.take_document.ensures.passed c.take_document.ensures.over);
  keeps = tt;
  rests = λ finite. tt;
}

pub returns-in-Ok-Refused-clause-steps : goal.returns-in-Ok-Refused-clause-steps
returns-in-Ok-Refused-clause-steps g c =
    refused g.R.Input.given g.R.Input.has_ended g.R.Input.has_failed c.args.self.now c.if-self.false c.begin_piece.new.self c.read_next_piece.new.self c.read_next_piece.new.reader c.begin_piece.ensures.stays c.begin_piece.ensures.whole c.begin_piece.ensures.place c.read_next_piece.ensures.whole c.read_next_piece.ensures.place
    c.in-Ok-Refused.ensures.ok c.in-Ok-Refused.field-0 c.in-Ok-Refused.ensures.first c.in-Ok-Refused.field-0-is (c.in-Ok-Refused.ensures.wrong c.in-Ok-Refused.field-0-is) c.of_piece.result c.of_piece.ensures.place c.of_piece.ensures.cut c.of_piece.ensures.byte _ refl refl refl
