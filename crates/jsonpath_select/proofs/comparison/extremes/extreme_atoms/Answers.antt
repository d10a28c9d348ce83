use Rattle.std.proofs.Common.{map, rules}
use Rattle.jsonpath_nodes.specs.compare.Atoms.{seen_with}
use Rattle.jsonpath_select.specs.plan.Deciders.{some_right, seen_kept}
use Rattle.jsonpath_select.specs.Parts.{is_pair}
use Rattle.jsonpath_select.proofs.comparison.FarthestLemmas.{next_value, no_more_values}
use Rattle.jsonpath_select.proofs.comparison.extremes.extreme_atoms.Goals as goal

pub loop-atom-preserved : goal.loop-atom-preserved
loop-atom-preserved g c = λ x.
    next_value (seen_with g.N.Fraction.fraction) (is_pair c.args.op x) c.args.atoms.now c.loop-atom.atom-index _ (some_right c.args.op x (map (seen_kept g.N.Fraction.fraction) c.loop-atom.few.items)) (some_right c.args.op x (map (seen_kept g.N.Fraction.fraction) c.add_atom.new.few.items)) (some_right c.args.op x (map (seen_with g.N.Fraction.fraction) c.args.atoms.now))
    (search rules) c.loop-atom-test.true (c.in_ok-add_atom.ensures x) (c.loop-atom.invariant x)

pub returns : goal.returns
returns g c = λ x.
    no_more_values (seen_with g.N.Fraction.fraction) (is_pair c.args.op x) c.args.atoms.now c.loop-atom.atom-index (some_right c.args.op x (map (seen_kept g.N.Fraction.fraction) c.loop-atom.few.items)) (some_right c.args.op x (map (seen_with g.N.Fraction.fraction) c.args.atoms.now)) c.loop-atom-test.false (c.loop-atom.invariant x)
