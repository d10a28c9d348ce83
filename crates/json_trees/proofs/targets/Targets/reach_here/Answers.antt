use Rattle.std.proofs.Common.{sym}
use Rattle.json_trees.proofs.TargetsLemmas.{root_first}
use Rattle.json_trees.proofs.targets.Targets.reach_here.Goals as goal

pub returns-in-Some : goal.returns-in-Some
returns-in-Some c =
    let t = c.args.self.now in
    sym (root_first t.depth t.paths.now t.sorted c.in-Some.path.now c.in-Some.field-0-1.now c.in-Some.ensures.cases.0)
