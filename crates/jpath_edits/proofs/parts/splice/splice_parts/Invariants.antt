use Rattle.std.proofs.Common.{◌≡◌, ◌≤◌, List, map, take, length}
use Rattle.jpath_edits.specs.Changed.{Cut, whole, replaced, part_text}
use Rattle.jpath_edits.proofs.parts.splice.splice_parts.Given as goal

abbrev pub invariant-loop-part : goal.invariant-loop-part
invariant-loop-part l =
    (l.at ≤ length l.text) × ((cuts : List Cut) × (take l.at l.text ≡ whole cuts) × (l.written.items ≡ replaced l.put cuts) × (map (λ c. c.gone) cuts ≡ map (part_text l.text) (take l.part-index l.parts)))
