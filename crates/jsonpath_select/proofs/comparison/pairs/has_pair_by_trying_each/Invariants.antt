use Rattle.std.proofs.Common.{◌≡◌, map, drop}
use Rattle.std.specs.List.{list_any}
use Rattle.jsonpath_nodes.specs.compare.Atoms.{seen_with}
use Rattle.jsonpath_select.specs.Parts.{is_pair}
use Rattle.jsonpath_select.proofs.comparison.pairs.has_pair_by_trying_each.Given as goal

abbrev pub invariant-loop-left : goal.invariant-loop-left
invariant-loop-left g l =
    list_any (λ x. list_any (λ y. is_pair l.op x y) (map (seen_with g.N.Fraction.fraction) l.rights)) (map (seen_with g.N.Fraction.fraction) (drop l.left-index l.lefts))
    ≡ list_any (λ x. list_any (λ y. is_pair l.op x y) (map (seen_with g.N.Fraction.fraction) l.rights)) (map (seen_with g.N.Fraction.fraction) l.lefts)
