use Rattle.std.proofs.Common.{◌≡◌, true}
use Rattle.json_recognizer.specs.Buffer.{IsReady}
use Rattle.jpath_texts.specs.Stream.{StayGiven}
use Rattle.jpath_texts.proofs.StreamLemmas.{IsPassing}
use Rattle.jpath_texts.proofs.stream.visit_documents.pass_refused_line.Given as goal

abbrev pub invariant-loop : goal.invariant-loop
invariant-loop g l = record {
  ready : IsReady l.feed;
  whole : l.feed.is_whole ≡ true → g.R.Input.has_ended l.reader ≡ true;
  read : g.R.Input.has_failed l.reader ≡ g.R.Input.has_failed l.fn.reader;
  written : g.V.Visitor.written l.visitor ≡ g.V.Visitor.written l.fn.visitor;
  stay : StayGiven (g.V.Visitor.gives l.fn.visitor) (g.V.Visitor.gives l.visitor);
  passing : IsPassing (g.R.Input.given l.fn.reader) (g.R.Input.given l.reader) l.fn.feed l.feed;
}
