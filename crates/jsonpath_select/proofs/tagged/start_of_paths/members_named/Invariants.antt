use Rattle.std.proofs.Common.{◌≡◌, length, List, [], ◌∷◌}
use Rattle.jsonpath_nodes.specs.document.Document.{Document}
use Rattle.jsonpath_nodes.specs.place.Location.{Location}
use Rattle.jsonpath_nodes.specs.place.Mark.{MarksStandAt}
use Rattle.jsonpath_nodes.specs.step.Steps.{step, named}
use Rattle.jsonpath_select.proofs.tagged.GroupLemmas.{Spread}
use Rattle.jsonpath_select.proofs.tagged.start_of_paths.members_named.Given as goal

abbrev pub invariant-loop-tag : goal.invariant-loop-tag
invariant-loop-tag g l =
    (length l.tags.items ≡ length l.marks.items)
    × ((doc : Document) (ls : List Location) → MarksStandAt g.M.Mark.located g.M.Mark.stand g.M.Mark.content doc ls l.candidates
    → Spread g.M.Mark.located g.M.Mark.stand g.M.Mark.content doc (λ k. step doc (named l.name) (k ∷ [])) ls l.tag l.tags.items l.marks.items)
