use Rattle.std.proofs.Common.{◌≡◌, ◌≤◌, ◌-◌, ◌++◌, length, map}
use Rattle.jsonpath_nodes.specs.document.Document.{Document}
use Rattle.jsonpath_select.specs.plan.Machine.{Operand, compared}
use Rattle.jsonpath_nodes.specs.compare.Atoms.{seen_with}
use Rattle.jsonpath_select.specs.plan.Deciders.{DecidesFor}
use Rattle.jsonpath_select.specs.plan.Sides.{ShowsSide}
use Rattle.jsonpath_select.proofs.comparison.SideLemmas.{past}
use Rattle.jsonpath_select.proofs.comparison.comparer.Comparer.compare_to_constant.Given as goal

abbrev pub invariant-loop-tag : goal.invariant-loop-tag
invariant-loop-tag g l =
    (l.from ≤ length l.left.tags.now) × (l.atoms ≡ l.left.atoms.items) × DecidesFor g.N.Fraction.fraction l.self.op (map (seen_with g.N.Fraction.fraction) l.right.atoms.items) l.decider
    × ((doc : Document) (a b : Operand) → ShowsSide g.N.Fraction.fraction doc a l.left → ShowsSide g.N.Fraction.fraction doc b l.right → l.tags.items ++ compared doc l.self.op l.tag (l.self.count - l.tag) (past l.from a) b ≡ compared doc l.self.op 0 l.self.count a b)
