use Rattle.std.proofs.Common.{◌≡◌, ◌≤◌, ◌-◌, ◌++◌, length, true}
use Rattle.jsonpath_nodes.specs.document.Document.{Document}
use Rattle.jsonpath_select.specs.plan.Machine.{Operand, compared}
use Rattle.jsonpath_select.specs.plan.Sides.{ShowsSide}
use Rattle.jsonpath_select.proofs.comparison.SideLemmas.{past}
use Rattle.jsonpath_select.proofs.comparison.comparer.Comparer.compare_each_candidate.Given as goal

abbrev pub invariant-loop-tag : goal.invariant-loop-tag
invariant-loop-tag g l =
    (l.left_from ≤ length l.left_atoms) × (l.right_from ≤ length l.right_atoms) × (l.left_atoms ≡ l.left.atoms.items) × (l.right_atoms ≡ l.right.atoms.items)
    × (l.left.is_constant ≡ true → l.left_from ≡ 0) × (l.right.is_constant ≡ true → l.right_from ≡ 0)
    × ((doc : Document) (a b : Operand) → ShowsSide g.N.Fraction.fraction doc a l.left → ShowsSide g.N.Fraction.fraction doc b l.right
    → l.tags.items ++ compared doc l.self.op l.tag (l.self.count - l.tag) (past l.left_from a) (past l.right_from b) ≡ compared doc l.self.op 0 l.self.count a b)
