use Rattle.std.proofs.Common.{◌≡◌, ◌++◌, true}
use Rattle.json_recognizer.specs.Buffer.{left, IsReady}
use Rattle.jpath_texts.proofs.stream.visit_documents.read_past_byte_order_mark.Given as goal

abbrev pub invariant-loop : goal.invariant-loop
invariant-loop g l = record {
  ready : IsReady l.feed;
  given : g.R.Input.given l.reader ≡ g.R.Input.given l.fn.reader ++ left l.feed;
  whole : l.feed.is_whole ≡ true → g.R.Input.has_ended l.reader ≡ true;
  read : g.R.Input.has_failed l.reader ≡ g.R.Input.has_failed l.fn.reader;
  written : g.V.Visitor.written l.visitor ≡ g.V.Visitor.written l.fn.visitor;
}
