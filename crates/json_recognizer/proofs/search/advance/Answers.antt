use Rattle.json_recognizer.specs.plan.Rows.{at_row}
use Rattle.json_recognizer.proofs.Letters.{reaches_one, ends_at, refused_at}
use Rattle.json_recognizer.proofs.search.advance.Goals as goal

pub returns-in-GoesOn-clause-found : goal.returns-in-GoesOn-clause-found
returns-in-GoesOn-clause-found c = λ s₀ so_far.
    let s = at_row c.args.state.now c.args.row.now in
    let next = at_row c.take_letter.new.state c.take_letter.new.row in
    reaches_one s₀ s next c.args.piece.now c.args.index.now so_far c.requires.within (c.in-GoesOn.ensures.found _ c.requires.letter)

pub returns-in-Ends-clause-found : goal.returns-in-Ends-clause-found
returns-in-Ends-clause-found c = λ s₀ so_far.
    let s = at_row c.args.state.now c.args.row.now in
    let next = at_row c.take_letter.new.state c.take_letter.new.row in
    ends_at s₀ s next c.args.piece.now c.args.index.now so_far c.requires.within c.in-Ends.len (c.in-Ends.ensures.found _ c.requires.letter)

pub returns-in-Refused-clause-found : goal.returns-in-Refused-clause-found
returns-in-Refused-clause-found c = λ s₀ so_far.
    let s = at_row c.args.state.now c.args.row.now in
    let next = at_row c.take_letter.new.state c.take_letter.new.row in
    refused_at s₀ s next c.args.piece.now c.args.index.now so_far c.requires.within c.in-Refused.len (c.in-Refused.ensures.found _ c.requires.letter)
