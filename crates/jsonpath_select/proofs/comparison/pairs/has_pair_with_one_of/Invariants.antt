use Rattle.std.proofs.Common.{◌≡◌, map, drop}
use Rattle.std.specs.List.{list_any}
use Rattle.jsonpath_nodes.specs.compare.Atoms.{seen_with}
use Rattle.jsonpath_select.specs.Parts.{is_pair}
use Rattle.jsonpath_select.specs.plan.Deciders.{seen_kept}
use Rattle.jsonpath_select.proofs.comparison.pairs.has_pair_with_one_of.Given as goal

abbrev pub invariant-loop-right : goal.invariant-loop-right
invariant-loop-right g l =
    list_any (λ y. is_pair l.op (seen_with g.N.Fraction.fraction l.left) y) (map (seen_kept g.N.Fraction.fraction) (drop l.right-index l.rights)) ≡ list_any (λ y. is_pair l.op (seen_with g.N.Fraction.fraction l.left) y) (map (seen_kept g.N.Fraction.fraction) l.rights)
