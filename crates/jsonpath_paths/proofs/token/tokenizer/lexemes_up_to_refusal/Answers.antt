use Rattle.std.proofs.Common.{rules, ◌∙◌, sym, ap, subst, []}
use Rattle.jsonpath_paths.specs.plan.NextToken.{reading}
use Rattle.jsonpath_paths.specs.text.Spans.{IsSpan, AreSpans, Tile}
use Rattle.jsonpath_paths.proofs.token.ReadingLemmas.{behind, behind_more, reading_all, spans_more, tile_more}
use Rattle.jsonpath_paths.proofs.token.tokenizer.lexemes_up_to_refusal.Goals as goal

pub loop-lexeme-init : goal.loop-lexeme-init
loop-lexeme-init c =
    let text = c.args.text.now in
    let start = ap (λ p. p.text) c.new-tokenizer.ensures in
    let none : AreSpans text [] = search rules in
    record {
      text = start;
      read = sym (reading_all text c.new-tokenizer.result start (ap (λ p. p.pos) c.new-tokenizer.ensures)) ∙ ap (λ xs. behind xs (reading c.new-tokenizer.result)) (sym c.in_ok-found.ensures.items);
      spans = subst (AreSpans text) (sym c.in_ok-found.ensures.items) none;
      tile = subst (λ ps. Tile 0 ps c.new-tokenizer.result.pos) (sym c.in_ok-found.ensures.items) (sym (ap (λ p. p.pos) c.new-tokenizer.ensures));
    }

pub loop-lexeme-preserved : goal.loop-lexeme-preserved
loop-lexeme-preserved c =
    let text = c.args.text.now in
    let l = c.loop-lexeme in
    let same = c.in-Ok.ensures.text ∙ l.invariant.text in
    record {
      text = same;
      read = l.invariant.read ∙ (ap (behind l.found.items) c.in-Ok.ensures.more.0 ∙ (behind_more l.found.items c.in-Ok.lexeme (reading c.take_next_lexeme.new.self)
          ∙ ap (λ xs. behind xs (reading c.take_next_lexeme.new.self)) (sym c.in_ok-push.ensures.items)));
      spans = subst (AreSpans text) (sym c.in_ok-push.ensures.items)
          (spans_more text l.found.items c.in-Ok.lexeme l.invariant.spans (subst (λ t. IsSpan t c.in-Ok.lexeme.span) same c.in-Ok.ensures.more.1));
      tile = subst (λ ps. Tile 0 ps c.take_next_lexeme.new.self.pos) (sym c.in_ok-push.ensures.items)
          (tile_more 0 l.tokenizer.pos c.take_next_lexeme.new.self.pos l.found.items c.in-Ok.lexeme l.invariant.tile c.in-Ok.ensures.follows.0 c.in-Ok.ensures.follows.1);
    }
