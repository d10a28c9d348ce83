use Rattle.std.proofs.Common.{[], refl, ◌++◌}
use Rattle.json_recognizer.specs.Buffer.{left, piece_of}
use Rattle.json_recognizer.proofs.BufferLemmas.{document_some}
use Rattle.json_recognizer.proofs.buffer.stream_buffer.StreamBuffer.read_next_piece.Goals as goal

pub returns-in-Some-clause-some : goal.returns-in-Some-clause-some
returns-in-Some-clause-some g c =
    let found = c.find_next_piece.new.self in
    document_some c.in-Some.kind (piece_of found) (left found ++ []) (c.in-Some.ensures.first [] (λ whole. refl))
