use Rattle.std.proofs.Common.{◌≡◌, length, refl, sym, ap, ◌∙◌, arith}
use Rattle.json_recognizer.specs.declared.stream.Found.TheVariants.{GoesOn}
use Rattle.json_recognizer.proofs.BufferLemmas.{goes_on, first_whole, wrong_whole}
use Rattle.json_recognizer.proofs.buffer.stream_buffer.StreamBuffer.find_next_piece.Goals as goal

pub returns-else-not-self-clause-first : goal.returns-else-not-self-clause-first
returns-else-not-self-clause-first c = λ more may.
    let feed = c.args.self.now in
    let lent = c.deref.result.now in
    let long : c.len-self.result ≡ length feed.bytes.items = c.len-self.ensures ∙ sym c.deref.ensures.len ∙ ap length c.deref.ensures.value in
    first_whole c.find_end.new.state feed.bytes.items more feed.start c.len-self.result c.kind_at_end.result (omega (arith, long)) long (may c.if-not-self.false)
    (goes_on feed.state c.find_end.new.state lent feed.bytes.items more feed.start feed.seen GoesOn c.deref.ensures.value c.requires.sound.behind c.requires.sound.seen (c.requires.ahead more) (c.in-GoesOn.ensures.found more) refl c.len-self.result long) c.kind_at_end.ensures

pub returns-else-not-self-clause-wrong : goal.returns-else-not-self-clause-wrong
returns-else-not-self-clause-wrong c = λ wrong more may.
    let feed = c.args.self.now in
    let lent = c.deref.result.now in
    let long : c.len-self.result ≡ length feed.bytes.items = c.len-self.ensures ∙ sym c.deref.ensures.len ∙ ap length c.deref.ensures.value in
    wrong_whole c.find_end.new.state feed.bytes.items more feed.start c.len-self.result c.kind_at_end.result _ long (may c.if-not-self.false)
    (goes_on feed.state c.find_end.new.state lent feed.bytes.items more feed.start feed.seen GoesOn c.deref.ensures.value c.requires.sound.behind c.requires.sound.seen (c.requires.ahead more) (c.in-GoesOn.ensures.found more) refl c.len-self.result long) c.kind_at_end.ensures wrong
