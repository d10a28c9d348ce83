use Rattle.std.proofs.Common.{◌≡◌, ◌++◌, map, drop}
use Rattle.std.specs.Cow.{cow_str_bytes}
use Rattle.jsonpath_nodes.proofs.step.stride.lend_names.Given as goal

abbrev pub invariant-loop-name : goal.invariant-loop-name
invariant-loop-name l = map (λ s. s.now) l.strs.items ++ map cow_str_bytes (drop l.name-index l.names) ≡ map cow_str_bytes l.names
