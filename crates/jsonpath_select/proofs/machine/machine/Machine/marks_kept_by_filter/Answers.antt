use Rattle.std.proofs.lemmas.Result.{IfOk-weaker}
use Rattle.jsonpath_select.specs.plan.Machine.{gathered}
use Rattle.jsonpath_select.specs.plan.Standing.{along}
use Rattle.jsonpath_select.proofs.machine.machine.Machine.marks_kept_by_filter.Goals as goal

pub keep_passing_with_standing-requires : goal.keep_passing_with_standing-requires
keep_passing_with_standing-requires g c =
    let doc = g.M.Mark.content c.args.self.now.root.now in
    let way = c.args.way in
    let ms = along c.args.self.now.text.now doc way.steps.now c.requires.there.0 in
    record { is = c.requires.is; there = (gathered doc way.leaves way.deep ms, c.in_ok-candidates.ensures ms (c.in_ok-led.ensures c.requires.there.0 c.requires.there.1)) }

pub returns : goal.returns
returns g c =
    let doc = g.M.Mark.content c.args.self.now.root.now in
    let way = c.args.way in
    IfOk-weaker c.keep_passing_with_standing.result _ _
    (λ found keeps f ls is there.
    let ms = along c.args.self.now.text.now doc way.steps.now ls in
    keeps f (gathered doc way.leaves way.deep ms) is (c.in_ok-candidates.ensures ms (c.in_ok-led.ensures ls there)))
    c.keep_passing_with_standing.ensures
