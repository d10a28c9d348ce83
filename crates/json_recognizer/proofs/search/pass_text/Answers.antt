use Rattle.std.proofs.Common.{◌≡◌, ◌+◌, subst, sym, refl, ◌∙◌}
use Rattle.std.proofs.lemmas.List.{take_rest}
use Rattle.json_recognizer.specs.plan.Rows.{at_row, Steps, Reaches}
use Rattle.json_recognizer.proofs.Letters.{chars_lead, reaches_one}
use Rattle.json_recognizer.proofs.Streams.{passed}
use Rattle.json_recognizer.proofs.search.pass_text.Goals as goal
use Rattle.json_recognizer.proofs.search.pass_text.Goals.{else-has_quote-via-then-has_quote+else-close_text, else-has_quote-via-else-has_quote}

pub returns-then-close_text-clause-found : goal.returns-then-close_text-clause-found
returns-then-close_text-clause-found c = λ s₀ so_far.
    let s = at_row c.args.state.now c.args.row.now in
    let next = at_row c.args.state.now c.close_text.new.row in
    let piece = c.args.piece.now in
    let at = c.args.at in
    let n = c.count_text in
    let in_text = c.is_in_text.ensures c.if-not-is_in_text.false in
    let run = passed s₀ s s piece at n.result (at + n.result) so_far c.requires.open.unended refl _ (take_rest piece at) n.ensures.within (chars_lead c.args.row.now _ in_text n.ensures.chars) refl in
    reaches_one s₀ s next piece (at + n.result) run (c.if-has_quote.ensures.within refl) (subst (λ x. Steps s x next) (sym (c.if-has_quote.ensures.quote refl)) (c.if-close_text.ensures.closed refl))

pub returns-clause-found : goal.returns-clause-found
returns-clause-found c = λ s₀ so_far.
    let s = at_row c.args.state.now c.args.row.now in
    let piece = c.args.piece.now in
    let at = c.args.at in
    let n = c.count_text in
    let in_text = c.is_in_text.ensures c.if-not-is_in_text.false in
    let run = passed s₀ s s piece at n.result (at + n.result) so_far c.requires.open.unended refl _ (take_rest piece at) n.ensures.within (chars_lead c.args.row.now _ in_text n.ensures.chars) refl in
    let same : c.else-has_quote.row ≡ c.args.row.now = elim c.else-has_quote.branch [
      | else-has_quote-via-then-has_quote+else-close_text w ↦ w.row-is ∙ w.close_text.ensures.stays w.if-close_text.false
      | else-has_quote-via-else-has_quote w ↦ w.row-is
    ] in
    subst (λ row. Reaches s₀ piece (at + n.result) (at_row c.args.state.now row)) (sym same) run
