use Rattle.std.proofs.Common.{◌≡◌, map, drop}
use Rattle.std.specs.List.{list_any}
use Rattle.jsonpath_nodes.specs.compare.Atoms.{seen_with}
use Rattle.jsonpath_select.specs.plan.Deciders.{decided}
use Rattle.jsonpath_select.proofs.comparison.decider.Decider.has_pair_by_trying_each_left.Given as goal

abbrev pub invariant-loop-left : goal.invariant-loop-left
invariant-loop-left g l = list_any (decided g.N.Fraction.fraction l.op l.self) (map (seen_with g.N.Fraction.fraction) (drop l.left-index l.lefts)) ≡ list_any (decided g.N.Fraction.fraction l.op l.self) (map (seen_with g.N.Fraction.fraction) l.lefts)
