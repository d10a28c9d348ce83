use Rattle.std.proofs.Common.{map, refl, rules}
use Rattle.jsonpath_paths.specs.declared.token.tokens.FilterToken.TheVariants.{Equal}
use Rattle.jsonpath_nodes.specs.compare.Atoms.{seen_with}
use Rattle.jsonpath_select.specs.plan.Deciders.{some_right, is_among_known}
use Rattle.jsonpath_select.specs.Parts.{is_pair}
use Rattle.jsonpath_select.proofs.comparison.FarthestLemmas.{nothing_known, next_value, no_more_values}
use Rattle.jsonpath_select.proofs.comparison.value_set.ValueSet.of_atoms.Goals as goal

pub loop-atom-init : goal.loop-atom-init
loop-atom-init g c = λ x. nothing_known g.N.Fraction.fraction _ (some_right Equal x (map (seen_with g.N.Fraction.fraction) c.args.atoms.now)) x c.new.ensures.empty c.new-2.ensures.empty refl refl refl

pub loop-atom-preserved : goal.loop-atom-preserved
loop-atom-preserved g c = λ x.
    next_value (seen_with g.N.Fraction.fraction) (is_pair Equal x) c.args.atoms.now c.loop-atom.atom-index _ (is_among_known g.N.Fraction.fraction c.loop-atom.known x) (is_among_known g.N.Fraction.fraction c.add_atom.new.self x) (some_right Equal x (map (seen_with g.N.Fraction.fraction) c.args.atoms.now))
    (search rules) c.loop-atom-test.true (c.in_ok-add_atom.ensures x) (c.loop-atom.invariant x)

pub returns : goal.returns
returns g c = λ x.
    no_more_values (seen_with g.N.Fraction.fraction) (is_pair Equal x) c.args.atoms.now c.loop-atom.atom-index (is_among_known g.N.Fraction.fraction c.loop-atom.known x) (some_right Equal x (map (seen_with g.N.Fraction.fraction) c.args.atoms.now)) c.loop-atom-test.false (c.loop-atom.invariant x)
