use Rattle.std.proofs.Common.{◌≡◌, length}
use Rattle.std.specs.Str.{chars}
use Rattle.jsonpath_paths.specs.plan.NextToken.{reading}
use Rattle.jsonpath_paths.specs.text.Spans.{AreSpans, Tile}
use Rattle.jsonpath_paths.specs.token.Reading.{reading_from}
use Rattle.jsonpath_paths.specs.text.TextPlace.{ahead}
use Rattle.jsonpath_paths.proofs.token.ReadingLemmas.{behind}
use Rattle.jsonpath_paths.proofs.token.tokenizer.lexemes_up_to_refusal.Given as goal

abbrev pub invariant-loop-lexeme : goal.invariant-loop-lexeme
invariant-loop-lexeme l = record {
  text : l.tokenizer.text ≡ l.text;
  read : reading_from 0 0 (chars l.text) ≡ behind l.found.items (reading l.tokenizer);
  spans : AreSpans l.text l.found.items;
  tile : Tile 0 l.found.items l.tokenizer.pos;
}

abbrev pub decreases-loop-lexeme : goal.decreases-loop-lexeme
decreases-loop-lexeme l = length (ahead l.tokenizer)
