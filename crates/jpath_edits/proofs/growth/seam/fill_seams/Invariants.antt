use Rattle.std.proofs.Common.{◌≡◌, ◌≤◌, ◌++◌, List, map, flat_map, take, length}
use Rattle.std.specs.Prelude.{slice_range}
use Rattle.jpath_edits.specs.Grown.{Filled}
use Rattle.jpath_edits.proofs.growth.seam.fill_seams.Given as goal

abbrev pub invariant-loop-seam : goal.invariant-loop-seam
invariant-loop-seam l =
    (l.at ≤ length l.text) × ((fills : List Filled) × (take l.at l.text ≡ flat_map (λ f. f.kept ++ f.gone) fills) × (l.written.items ≡ flat_map (λ f. f.kept ++ f.put) fills)
    × (map (λ f. f.gone) fills ≡ map (λ s. slice_range l.text s.start s.end) (take l.seam-index l.seams)))
