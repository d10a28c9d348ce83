use Rattle.std.proofs.Common.{◌≡◌, ◌++◌, map, drop}
use Rattle.std.specs.Cow.{cow_str_bytes}
use Rattle.jsonpath_select.specs.Parts.{name_at}
use Rattle.jsonpath_select.proofs.step.names.names_at.Given as goal

abbrev pub invariant-loop-span : goal.invariant-loop-span
invariant-loop-span l = map cow_str_bytes l.names.items ++ map (name_at l.text) (drop l.span-index l.spans) ≡ map (name_at l.text) l.spans
