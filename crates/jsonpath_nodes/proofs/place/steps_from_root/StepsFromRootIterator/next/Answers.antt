use Rattle.std.proofs.Common.{◌≡◌, [], ◌-◌, ◌^◌, length, ap, arith, rules}
use Rattle.jsonpath_nodes.specs.place.SpotPlace.{key_bytes, path_location, step_of, steps_left}
use Rattle.jsonpath_nodes.proofs.place.StepsLeftLemmas.{one_left, none_behind, none_at_most}
use Rattle.jsonpath_nodes.proofs.place.steps_from_root.StepsFromRootIterator.next.Goals as goal

pub returns-then-taken-clause-steps : goal.returns-then-taken-clause-steps
returns-then-taken-clause-steps c = let none : steps_left c.args.self.now ≡ [] = rw c.if-taken.true (none_at_most (path_location key_bytes c.args.self.now.path_to) (2 ^ 64 - 1)) in (none, none)

pub returns-in-Ok-clause-steps : goal.returns-in-Ok-clause-steps
returns-in-Ok-clause-steps c = one_left (path_location key_bytes c.args.self.now.path_to) (2 ^ 64 - 1) c.args.self.now.taken (step_of c.in-Ok.step) c.in-Ok.ensures (omega arith)

pub returns-in-Ok-clause-goes : goal.returns-in-Ok-clause-goes
returns-in-Ok-clause-goes c =
    let one = one_left (path_location key_bytes c.args.self.now.path_to) (2 ^ 64 - 1) c.args.self.now.taken (step_of c.in-Ok.step) c.in-Ok.ensures (omega arith) in
    let fewer = ap length one in search (rules, arith, fewer)

pub returns-in-Err-clause-steps : goal.returns-in-Err-clause-steps
returns-in-Err-clause-steps c =
    let none : steps_left c.args.self.now ≡ [] = none_behind (path_location key_bytes c.args.self.now.path_to) (2 ^ 64 - 1) c.args.self.now.taken c.in-Err.field-0 c.in-Err.ensures in (none, none)
