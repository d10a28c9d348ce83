use Rattle.std.proofs.Common.{sym}
use Rattle.jsonpath_nodes.specs.compare.Atoms.{seen_with}
use Rattle.jsonpath_select.proofs.comparison.TwoValueLemmas.{among_at}
use Rattle.jsonpath_select.proofs.comparison.unequal_atoms.first_unequal.Goals as goal

pub returns-then-is_satisfying_pair : goal.returns-then-is_satisfying_pair
returns-then-is_satisfying_pair g c = (sym c.if-is_satisfying_pair.ensures, among_at (seen_with g.N.Fraction.fraction) c.args.rest.now c.loop-atom.atom-index c.atom-item.result c.atom-item.result c.atom-item.is c.loop-atom-test.true)
