use Rattle.std.proofs.Common.{sym, ap, refl, ◌∙◌}
use Rattle.json_recognizer.specs.plan.Rows.{at_row}
use Rattle.json_recognizer.proofs.Letters.{stands_alone_wrong, wrong, goes_on, ends_one, ends_behind}
use Rattle.json_recognizer.proofs.steps.take_letter.Goals as goal
use Rattle.json_recognizer.proofs.steps.take_letter.Goals.{else-letter-eq37-via-then-letter-eq37+else-state-eq0, else-letter-eq37-via-else-letter-eq37}

pub returns-then-state-eq0-clause-found : goal.returns-then-state-eq0-clause-found
returns-then-state-eq0-clause-found c = λ x letter.
    stands_alone_wrong (at_row c.args.state.now c.args.row.now) x c.args.letter letter c.requires.open.unended (sym (ap (λ s. s.depth) (c.if-not-make.ensures.stays refl)) ∙ c.if-state-eq0.true) c.if-letter-eq37.true

pub returns-then-not-make-clause-found : goal.returns-then-not-make-clause-found
returns-then-not-make-clause-found c = λ x letter.
    let same = ap (λ s. s.depth) (c.if-not-make.ensures.stays refl) in
    wrong (at_row c.args.state.now c.args.row.now) x c.args.letter letter c.requires.open.unended (c.if-not-make.ensures.refused refl) (λ is none. elim c.else-letter-eq37.branch [
      | else-letter-eq37-via-then-letter-eq37+else-state-eq0 w ↦ w.if-state-eq0.false (same ∙ none)
      | else-letter-eq37-via-else-letter-eq37 w ↦ w.if-letter-eq37.false is
    ])

pub returns-then-not-is_over-clause-found : goal.returns-then-not-is_over-clause-found
returns-then-not-is_over-clause-found c = λ x letter.
    goes_on (at_row c.args.state.now c.args.row.now) x c.args.letter letter c.requires.open.unended (at_row c.make.new.state c.make.new.row) (c.if-not-make.ensures.goes refl) (sym (c.if-not-is_over.ensures))

pub returns-then-letter-eq38-clause-found : goal.returns-then-letter-eq38-clause-found
returns-then-letter-eq38-clause-found c = λ x letter.
    ends_behind (at_row c.args.state.now c.args.row.now) x c.args.letter letter c.requires.open.unended (at_row c.make.new.state c.make.new.row) (c.if-not-make.ensures.goes refl) (sym (c.if-not-is_over.ensures)) c.if-letter-eq38.true

pub returns-else-letter-eq38-clause-found : goal.returns-else-letter-eq38-clause-found
returns-else-letter-eq38-clause-found c = λ x letter.
    ends_one (at_row c.args.state.now c.args.row.now) x c.args.letter letter c.requires.open.unended (at_row c.make.new.state c.make.new.row) (c.if-not-make.ensures.goes refl) (sym (c.if-not-is_over.ensures)) c.if-letter-eq38.false
