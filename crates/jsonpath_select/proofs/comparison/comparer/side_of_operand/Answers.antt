use Rattle.std.proofs.Common.{List, map, refl, ap, ◌∙◌}
use Rattle.jsonpath_nodes.specs.compare.Comparisons.{seen}
use Rattle.jsonpath_select.proofs.comparison.SideLemmas.{marks_side}
use Rattle.jsonpath_select.proofs.comparison.comparer.side_of_operand.Goals as goal

pub returns-in_ok-atoms-in-Marks : goal.returns-in_ok-atoms-in-Marks
returns-in_ok-atoms-in-Marks g c = λ named doc o h.
    marks_side g.M.Number.Fraction.fraction g.M.Mark.located g.M.Mark.stand g.M.Mark.content c.args.text.now doc o c.args.operand.now c.in-Marks.found _ c.in-Marks.is h refl c.as_slice-in-Marks.ensures.value
    (c.in_ok-atoms-in-Marks.ensures ∙ ap (λ (ss : List g.row.M.Denot). map (λ s. seen (g.M.Mark.content s)) ss) c.as_slice.ensures.value)
