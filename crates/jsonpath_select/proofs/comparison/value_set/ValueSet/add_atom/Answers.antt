use Rattle.std.proofs.Common.{ap, sym, ◌∙◌, ◌||◌}
use Rattle.jsonpath_nodes.specs.compare.Atoms.{seen_with}
use Rattle.jsonpath_nodes.specs.declared.compare.atom.Atom.{Atom}
use Rattle.jsonpath_nodes.specs.compare.Comparisons.{pair, equal}
use Rattle.jsonpath_select.specs.plan.Deciders.{is_among_known}
use Rattle.jsonpath_select.proofs.comparison.FarthestLemmas.{number_known, text_known}
use Rattle.jsonpath_select.proofs.comparison.value_set.ValueSet.add_atom.Goals as goal

pub returns-in_ok-insert-in-Number : goal.returns-in_ok-insert-in-Number
returns-in_ok-insert-in-Number g c = λ x.
    number_known g.N.Fraction.fraction c.args.self.now g.N.Ord.cmp g.met.N.Fraction.in_order _ c.insert.new.self.keys x c.in_ok-insert-in-Number.ensures.keys
    ∙ ap (λ (a : Atom g.row.N.Denot). pair equal x (seen_with g.N.Fraction.fraction a) || is_among_known g.N.Fraction.fraction c.args.self.now x) (sym c.in-Number.is)

pub returns-in_ok-insert-in-Text : goal.returns-in_ok-insert-in-Text
returns-in_ok-insert-in-Text g c = λ x.
    text_known g.N.Fraction.fraction c.args.self.now _ c.insert-in-Text.new.self.keys x c.in_ok-insert-in-Text.ensures.keys
    ∙ ap (λ (a : Atom g.row.N.Denot). pair equal x (seen_with g.N.Fraction.fraction a) || is_among_known g.N.Fraction.fraction c.args.self.now x) (sym c.in-Text.is)
