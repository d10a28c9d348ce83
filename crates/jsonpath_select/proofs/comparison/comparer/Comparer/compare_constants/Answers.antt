use Rattle.std.proofs.Common.{List, ap₂, ap, map, ◌∙◌}
use Rattle.jsonpath_nodes.specs.compare.Atoms.{seen_with}
use Rattle.jsonpath_nodes.specs.declared.compare.atom.Atom.{Atom}
use Rattle.jsonpath_select.specs.plan.Machine.{all_tags_or_none}
use Rattle.jsonpath_select.specs.Parts.{has_pair}
use Rattle.jsonpath_select.proofs.comparison.SideLemmas.{compared_once}
use Rattle.jsonpath_select.proofs.comparison.comparer.Comparer.compare_constants.Goals as goal

pub returns : goal.returns
returns g c = λ doc a b ha hb.
    let holds =
    c.in_ok-holds.ensures
    ∙ ap₂ (λ (xs ys : List (Atom g.row.N.Denot)). has_pair c.args.self.now.op (map (seen_with g.N.Fraction.fraction) xs) (map (seen_with g.N.Fraction.fraction) ys)) c.as_slice.ensures.value c.as_slice-2.ensures.value in
    c.in_ok-tags.ensures ∙ ap (λ h. all_tags_or_none h 0 c.args.self.now.count) holds ∙ compared_once g.N.Fraction.fraction doc c.args.self.now.op a b c.args.left.now c.args.right.now ha hb c.requires.left c.requires.right 0 c.args.self.now.count
