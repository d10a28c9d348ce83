use Rattle.std.proofs.Common.{◌++◌, ◌∷◌, ◌≡◌, ◌-◌, [], length, take, drop, slice_index_or, sym, ap, ap₂, ◌∙◌, arith, map, take_all, length-drop}
use Rattle.std.proofs.lemmas.List.{take-append-drop}
use Rattle.jpath_edits.specs.Changed.{part_text}
use Rattle.jpath_edits.specs.declared.parts.part.Part.{Part}
use Rattle.jpath_edits.proofs.SpliceLemmas.{cut_at, whole_more, replaced_more, gone_more, spliced_at}
use Rattle.jpath_edits.proofs.parts.splice.splice_parts.Goals as goal

pub loop-part-preserved : goal.loop-part-preserved
loop-part-preserved c =
    let none : Part = record { start = 0; label = 0; value = 0; value_end = 0; end = 0; target = 0 } in
    let part = slice_index_or c.args.parts.now c.loop-part.part-index none in
    let was = c.loop-part.invariant in
    let text = c.args.text.now in (
      omega arith,
      (
        was.1.0 ++ cut_at text c.loop-part.at part.start part.end ∷ [],
        whole_more text was.1.0 c.loop-part.at part.start part.end (omega arith) (omega arith) was.1.1,
        replaced_more c.args.put.now text was.1.0 c.loop-part.at part.start part.end _ _ _ was.1.2 c.in_ok-extend_from_slice.ensures.items c.in_ok-extend_from_slice-2.ensures.items,
        gone_more text was.1.0 c.args.parts.now c.loop-part.part-index c.loop-part.at none (omega arith) was.1.3,
      ),
    )

pub returns : goal.returns
returns c =
    let was = c.loop-part.invariant.1 in
    let text = c.args.text.now in
    let left = drop c.loop-part.at text in
    let rest = take (length text - c.loop-part.at) left in
    let all : rest ≡ left = take_all (length text - c.loop-part.at) left (omega (arith, length-drop c.loop-part.at text)) in
    spliced_at _ _ _ _ was.0 rest (sym (take-append-drop c.loop-part.at text) ∙ ap₂ (λ us vs. us ++ vs) was.1 (sym all)) (c.in_ok-extend_from_slice-3.ensures.items ∙ ap (λ us. us ++ rest) was.2)
    (was.3 ∙ ap (λ ps. map (part_text text) ps) (take_all c.loop-part.part-index c.args.parts.now (omega arith)))
