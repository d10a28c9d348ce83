use Rattle.std.proofs.Common.{rules, ◌≡◌, subst, sym, arith}
use Rattle.json_recognizer.specs.plan.Rows.{at_row, Steps}
use Rattle.json_recognizer.proofs.Letters.{closes_name, closes_text}
use Rattle.json_recognizer.proofs.search.close_text.Goals as goal

pub returns-then-row-eq-NAME_CHARS-clause-closed : goal.returns-then-row-eq-NAME_CHARS-clause-closed
returns-then-row-eq-NAME_CHARS-clause-closed c = λ _. subst (λ row. Steps (at_row c.args.state.now row) 34 (at_row c.args.state.now 53)) (sym c.if-row-eq-NAME_CHARS.true) (closes_name c.args.state.now)

pub returns-clause-closed : goal.returns-clause-closed
returns-clause-closed c = λ _.
    let is : 72 ≡ c.args.row.now = search (rules, arith) in
    subst (λ row. Steps (at_row c.args.state.now row) 34 (at_row c.args.state.now 50)) is (closes_text c.args.state.now c.if-state-eq0.false)
