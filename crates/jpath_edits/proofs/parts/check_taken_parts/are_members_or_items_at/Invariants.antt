use Rattle.std.proofs.Common.{map, drop}
use Rattle.json.specs.Value.{value_view}
use Rattle.jpath_edits.specs.Changed.{AreTakenAt, part_text}
use Rattle.jpath_edits.proofs.parts.check_taken_parts.are_members_or_items_at.Given as goal

-- if the parts that are left are those at the locations that are left, all are
abbrev pub invariant-loop-location : goal.invariant-loop-location
invariant-loop-location l =
    AreTakenAt (value_view l.root.value.now) (map (λ m. m.now) (drop l.location-index l.locations)) (map (part_text l.text) l.left)
    → AreTakenAt (value_view l.root.value.now) (map (λ m. m.now) l.locations) (map (part_text l.text) l.parts)
