use Rattle.std.proofs.Common.{◌∷◌, [], sym, ap, ◌∙◌}
use Rattle.std.specs.Prelude.{nat_eq}
use Rattle.std.specs.List.{starts_with}
use Rattle.std.proofs.lemmas.List.{drop-drop}
use Rattle.json_recognizer.specs.Buffer.{left}
use Rattle.json_recognizer.proofs.BufferLemmas.{mark_first, rest_is}
use Rattle.json_recognizer.proofs.buffer.stream_buffer.StreamBuffer.pass_byte_order_mark.Goals as goal

pub returns-then-starts_with-clause-mark : goal.returns-then-starts_with-clause-mark
returns-then-starts_with-clause-mark c =
    let feed = c.args.self.now in
    let begins = sym (ap (λ xs. starts_with nat_eq xs (239 ∷ 187 ∷ 191 ∷ [])) (rest_is c.deref.result.now feed.bytes.items feed.start c.deref.ensures.value)) ∙ sym c.if-starts_with.ensures.value in
    mark_first (left feed) begins ∙ ap (λ xs. 239 ∷ 187 ∷ 191 ∷ xs) (drop-drop 3 feed.start feed.bytes.items ∙ sym c.begin_piece.ensures.stays)
