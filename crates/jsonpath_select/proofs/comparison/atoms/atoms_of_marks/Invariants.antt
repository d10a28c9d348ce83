use Rattle.std.proofs.Common.{◌≡◌, ◌++◌, map, drop}
use Rattle.jsonpath_nodes.specs.compare.Comparisons.{seen}
use Rattle.jsonpath_nodes.specs.compare.Atoms.{seen_with}
use Rattle.jsonpath_select.proofs.comparison.atoms.atoms_of_marks.Given as goal

abbrev pub invariant-loop-mark : goal.invariant-loop-mark
invariant-loop-mark g l = map (seen_with g.M.Number.Fraction.fraction) l.atoms.items ++ map (λ s. seen (g.M.Mark.content s)) (drop l.mark-index l.marks) ≡ map (λ s. seen (g.M.Mark.content s)) l.marks
