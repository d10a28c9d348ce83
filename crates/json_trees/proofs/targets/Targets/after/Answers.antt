use Rattle.json_trees.proofs.TargetsLemmas.{behind_is, behind_sorted}
use Rattle.json_trees.proofs.targets.Targets.after.Goals as goal

pub invariant_of-result : goal.invariant_of-result
invariant_of-result c = record { sorted = behind_sorted c.args.self.depth c.args.count c.args.self.paths.now c.split_at.result.1.now c.split_at.ensures.back c.args.self.sorted }

pub returns-clause-rest : goal.returns-clause-rest
returns-clause-rest c = behind_is c.args.self.depth c.args.count c.args.self.paths.now c.split_at.result.1.now c.split_at.ensures.back
