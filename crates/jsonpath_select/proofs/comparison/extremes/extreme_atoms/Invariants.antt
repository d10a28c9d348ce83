use Rattle.std.proofs.Common.{◌≡◌, ◌||◌, map, drop}
use Rattle.jsonpath_nodes.specs.compare.Atoms.{seen_with}
use Rattle.jsonpath_nodes.specs.compare.Comparisons.{Seen}
use Rattle.jsonpath_select.specs.plan.Deciders.{some_right, seen_kept}
use Rattle.jsonpath_select.proofs.comparison.extremes.extreme_atoms.Given as goal

abbrev pub invariant-loop-atom : goal.invariant-loop-atom
invariant-loop-atom g l = (x : Seen) → (some_right l.op x (map (seen_kept g.N.Fraction.fraction) l.few.items) || some_right l.op x (map (seen_with g.N.Fraction.fraction) (drop l.atom-index l.atoms))) ≡ some_right l.op x (map (seen_with g.N.Fraction.fraction) l.atoms)
