use Rattle.std.proofs.Common.{◌≡◌, ◌||◌, map, drop}
use Rattle.jsonpath_paths.specs.declared.token.tokens.FilterToken.TheVariants.{Equal}
use Rattle.jsonpath_nodes.specs.compare.Atoms.{seen_with}
use Rattle.jsonpath_nodes.specs.compare.Comparisons.{Seen}
use Rattle.jsonpath_select.specs.plan.Deciders.{some_right, is_among_known}
use Rattle.jsonpath_select.proofs.comparison.value_set.ValueSet.of_atoms.Given as goal

abbrev pub invariant-loop-atom : goal.invariant-loop-atom
invariant-loop-atom g l = (x : Seen) → (is_among_known g.N.Fraction.fraction l.known x || some_right Equal x (map (seen_with g.N.Fraction.fraction) (drop l.atom-index l.atoms))) ≡ some_right Equal x (map (seen_with g.N.Fraction.fraction) l.atoms)
