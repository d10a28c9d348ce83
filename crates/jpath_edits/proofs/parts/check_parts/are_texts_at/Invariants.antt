use Rattle.std.proofs.Common.{map, drop}
use Rattle.json.specs.Value.{value_view}
use Rattle.jpath_edits.specs.Changed.{AreTextsAt, part_text}
use Rattle.jpath_edits.proofs.parts.check_parts.are_texts_at.Given as goal

-- if the parts that are left are the texts at the locations that are left, all are
abbrev pub invariant-loop-index : goal.invariant-loop-index
invariant-loop-index l =
    AreTextsAt (value_view l.root.value.now) (map (λ m. m.now) (drop l.index l.locations)) (map (part_text l.text) (drop l.index l.parts))
    → AreTextsAt (value_view l.root.value.now) (map (λ m. m.now) l.locations) (map (part_text l.text) l.parts)
