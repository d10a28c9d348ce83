use Rattle.std.proofs.Common.{◌<◌, length, arith}
use Rattle.jsonpath_select.specs.plan.Machine.{stepped}
use Rattle.jsonpath_select.proofs.machine.StandingLemmas.{few_disjoint}
use Rattle.jsonpath_select.proofs.machine.machine.Machine.standing_after_step_from_marks.Goals as goal

pub returns-then-count-lt2 : goal.returns-then-count-lt2
returns-then-count-lt2 g c = λ ls stand few s.
    let less : length (stepped c.args.self.now.text.now (g.M.Mark.content c.args.self.now.root.now) c.args.leaves c.args.token.now ls) < 2 = omega arith in
    few_disjoint (stepped c.args.self.now.text.now (g.M.Mark.content c.args.self.now.root.now) c.args.leaves c.args.token.now ls) less
