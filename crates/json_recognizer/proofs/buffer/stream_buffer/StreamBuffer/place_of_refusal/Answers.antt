use Rattle.json_recognizer.proofs.BufferLemmas.{wrong_at_byte, wrong_at_end}
use Rattle.json_recognizer.proofs.buffer.stream_buffer.StreamBuffer.place_of_refusal.Goals as goal

pub returns-then-not-is_cut_short : goal.returns-then-not-is_cut_short
returns-then-not-is_cut_short c = λ passed stream placed whole begins.
    wrong_at_byte c.args.self.now passed stream c.deref.result.now begins.0 c.place_after.result c.deref.ensures.value c.requires (c.is_cut_short.ensures.byte c.if-not-is_cut_short.true) begins.1 (c.place_after.ensures passed placed)

pub returns : goal.returns
returns c = λ passed stream placed whole begins.
    wrong_at_end c.args.self.now passed stream c.current_piece.result.now c.place_after-behind.result c.saturating_sub.result c.current_piece.ensures (c.is_cut_short.ensures.cut c.if-not-is_cut_short.false) whole (c.place_after-behind.ensures passed placed) c.saturating_sub.ensures
