use Rattle.std.proofs.Common.{refl, sym, ◌∙◌}
use Rattle.jpath_texts.proofs.StreamLemmas.{passing_start, passing_read, passing_stopped}
use Rattle.jpath_texts.proofs.stream.visit_documents.pass_refused_line.Goals as goal

pub loop-init : goal.loop-init
loop-init g c = record {
  ready = c.pass_blanks.ensures.ready;
  whole = λ is. c.requires.whole (sym c.pass_blanks.ensures.whole ∙ is);
  read = refl;
  written = refl;
  stay = λ kind piece taken text h. h;
  passing = passing_start (g.R.Input.given c.args.reader.now) c.args.feed.now c.pass_blanks.new.self c.pass_blanks.ensures.whole c.pass_blanks.ensures.passed;
}

pub loop-preserved : goal.loop-preserved
loop-preserved g c =
    let more = c.in_ok-notify_visitor_then_read.ensures.ok in
    let open_ = c.if-pass_line.ensures.open refl in record {
      ready = c.in_ok-notify_visitor_then_read.ensures.ready;
      whole = λ is. (c.in_ok-notify_visitor_then_read.ensures.whole is).1;
      read = c.in_ok-notify_visitor_then_read.ensures.read (λ is. absurd (cc)) ∙ c.loop.invariant.read;
      written = c.notify_visitor_then_read.ensures.written ∙ c.loop.invariant.written;
      stay = λ kind piece taken text h. c.notify_visitor_then_read.ensures.stay kind piece taken text (c.loop.invariant.stay kind piece taken text h);
      passing = passing_read (g.R.Input.given c.args.reader.now) (g.R.Input.given c.loop.reader) c.args.feed.now c.loop.feed c.pass_line.new.self c.loop.invariant.passing c.pass_line.ensures.whole c.notify_visitor_then_read.new.feed (g.R.Input.given c.notify_visitor_then_read.new.reader) more.0 open_.0 open_.1 more.1 more.2;
    }

pub returns-clause-err : goal.returns-clause-err
returns-clause-err g c = passing_stopped (g.R.Input.given c.args.reader.now) (g.R.Input.given c.loop.reader) c.args.feed.now c.loop.feed c.loop.invariant.passing
