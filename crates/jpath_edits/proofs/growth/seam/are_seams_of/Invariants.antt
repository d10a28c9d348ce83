use Rattle.std.proofs.Common.{map, drop}
use Rattle.std.specs.Prelude.{slice_range}
use Rattle.jpath_edits.specs.Grown.{AreGoneFor}
use Rattle.jpath_edits.proofs.growth.seam.are_seams_of.Given as goal

-- if what is left of the seams fits, all do
abbrev pub invariant-loop-seam : goal.invariant-loop-seam
invariant-loop-seam l =
    AreGoneFor l.growth (map (λ s. slice_range l.text s.start s.end) (drop l.seam-index l.seams)) → AreGoneFor l.growth (map (λ s. slice_range l.text s.start s.end) l.seams)
