use Rattle.std.proofs.Common.{◌≡◌, map, take}
use Rattle.jpath_words.proofs.task.compile_all_or_tell.Given as goal

abbrev pub invariant-loop-path : goal.invariant-loop-path
invariant-loop-path g l = map (λ q. q.path) l.queries.items ≡ map (λ t. t.now) (take l.path-index l.paths)
