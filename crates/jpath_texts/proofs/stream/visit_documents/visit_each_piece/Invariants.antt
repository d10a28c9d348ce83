use Rattle.std.proofs.Common.{◌≡◌, ◌++◌, true, false}
use Rattle.json_recognizer.specs.Buffer.{left, IsReady, MayCome}
use Rattle.jpath_texts.proofs.StreamLemmas.{IsAlong}
use Rattle.jpath_texts.proofs.stream.visit_documents.visit_each_piece.Given as goal

abbrev pub invariant-loop : goal.invariant-loop
invariant-loop g l = record {
  ready : IsReady l.feed;
  whole : l.feed.is_whole ≡ true → g.R.Input.has_ended l.reader ≡ true;
  read : g.R.Input.has_failed l.reader ≡ g.R.Input.has_failed l.fn.reader;
  along : IsAlong (g.V.Visitor.gives l.visitor) (g.R.Input.given l.fn.reader) (g.R.Input.given l.reader) (left l.fn.feed) (MayCome l.feed) (λ more. left l.feed ++ more) (g.V.Visitor.written l.fn.visitor) (g.V.Visitor.written l.visitor) l.count false;
}
