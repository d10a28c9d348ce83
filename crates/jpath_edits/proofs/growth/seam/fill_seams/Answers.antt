use Rattle.std.proofs.Common.{◌++◌, ◌∷◌, ◌≡◌, ◌-◌, [], length, take, drop, sym, ap, ap₂, ◌∙◌, arith, map, take_all, length-drop}
use Rattle.std.specs.Prelude.{slice_range}
use Rattle.std.proofs.lemmas.List.{take-append-drop}
use Rattle.jpath_edits.proofs.GrowthLemmas.{fill_at, before_more, after_more, gone_filled, filled_at}
use Rattle.jpath_edits.proofs.growth.seam.fill_seams.Goals as goal

pub loop-seam-preserved : goal.loop-seam-preserved
loop-seam-preserved c =
    let seam = c.seam-item.result in
    let was = c.loop-seam.invariant in
    let text = c.args.text.now in (
      omega arith,
      (
        was.1.0 ++ fill_at text c.loop-seam.at seam.start seam.end seam.put.items ∷ [],
        before_more text was.1.0 c.loop-seam.at seam.start seam.end seam.put.items (omega arith) (omega arith) was.1.1,
        after_more text was.1.0 c.loop-seam.at seam.start seam.end seam.put.items _ _ _ was.1.2 c.in_ok-extend_from_slice.ensures.items (c.in_ok-extend_from_slice-2.ensures.items ∙ ap (λ us. c.extend_from_slice.new.self.items ++ us) c.as_slice.ensures.value),
        gone_filled text was.1.0 c.args.seams.now c.loop-seam.seam-index c.loop-seam.at seam (omega arith) c.seam-item.is was.1.3,
      ),
    )

pub returns : goal.returns
returns c =
    let was = c.loop-seam.invariant.1 in
    let text = c.args.text.now in
    let left = drop c.loop-seam.at text in
    let rest = take (length text - c.loop-seam.at) left in
    let all : rest ≡ left = take_all (length text - c.loop-seam.at) left (omega (arith, length-drop c.loop-seam.at text)) in
    filled_at _ _ _ was.0 rest (sym (take-append-drop c.loop-seam.at text) ∙ ap₂ (λ us vs. us ++ vs) was.1 (sym all)) (c.in_ok-extend_from_slice-3.ensures.items ∙ ap (λ us. us ++ rest) was.2)
    (was.3 ∙ ap (λ ss. map (λ s. slice_range text s.start s.end) ss) (take_all c.loop-seam.seam-index c.args.seams.now (omega arith)))
