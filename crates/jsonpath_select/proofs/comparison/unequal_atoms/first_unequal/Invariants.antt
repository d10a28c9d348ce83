use Rattle.std.proofs.Common.{◌≡◌, map, drop}
use Rattle.jsonpath_paths.specs.declared.token.tokens.FilterToken.TheVariants.{NotEqual}
use Rattle.jsonpath_nodes.specs.compare.Atoms.{seen_with}
use Rattle.jsonpath_select.specs.plan.Deciders.{some_right}
use Rattle.jsonpath_select.proofs.comparison.unequal_atoms.first_unequal.Given as goal

abbrev pub invariant-loop-atom : goal.invariant-loop-atom
invariant-loop-atom g l = some_right NotEqual (seen_with g.N.Fraction.fraction l.first) (map (seen_with g.N.Fraction.fraction) (drop l.atom-index l.rest)) ≡ some_right NotEqual (seen_with g.N.Fraction.fraction l.first) (map (seen_with g.N.Fraction.fraction) l.rest)
