use Rattle.std.proofs.Common.{◌≡◌, length, sym, ap, ◌∙◌}
use Rattle.json_recognizer.specs.Buffer.{left}
use Rattle.json_recognizer.proofs.BufferLemmas.{passed_line, passed_all}
use Rattle.json_recognizer.proofs.buffer.stream_buffer.StreamBuffer.pass_line.Goals as goal

pub returns-in-Some-clause-passed : goal.returns-in-Some-clause-passed
returns-in-Some-clause-passed c = λ found more may.
    let feed = c.args.self.now in
    passed_line c.deref.result.now feed.bytes.items (left c.begin_piece_at.new.self) feed.start c.deref.ensures.value c.in-Some.at (sym c.in-Some.ensures.at) c.in-Some.ensures.within c.begin_piece_at.ensures.left more

pub returns-in-None-clause-open : goal.returns-in-None-clause-open
returns-in-None-clause-open c = λ unread. (
  unread,
  λ more.
      let feed = c.args.self.now in
      let long : c.len-end.result ≡ length feed.bytes.items = c.len-end.ensures ∙ sym c.deref.ensures.len ∙ ap length c.deref.ensures.value in
      (passed_all c.deref.result.now feed.bytes.items (left c.begin_piece_at-in-None.new.self) feed.start c.deref.ensures.value (sym c.in-None.ensures.at) c.len-end.result long c.begin_piece_at-in-None.ensures.left more).0,
)
