-- How the locations stand that plain steps lead to, one after the other.
use Rattle.std.specs.Prelude.{ℕ, Bool, true, List, [], ◌∷◌}
use Rattle.jsonpath_nodes.specs.document.Document.{Document}
use Rattle.jsonpath_nodes.specs.place.Location.{Location}
use Rattle.jsonpath_nodes.specs.place.Mark.{MarksStandAt}
use Rattle.jsonpath_nodes.specs.step.Separate.{HasNoRepeat, IsApart, IsDisjoint}
use Rattle.jsonpath_select.specs.plan.Machine.{Found, tagged, stepped}
use Rattle.jsonpath_select.specs.declared.machine.standing.Standing.{Standing}
use Rattle.jsonpath_select.specs.declared.machine.standing.StandingMarks.{StandingMarks}
use Rattle.jsonpath_select.specs.declared.machine.standing.Standing.TheVariants.{Disjoint, Apart, Distinct, Unknown}
use Rattle.jsonpath_select.specs.declared.machine.instruction.Instruction.{Instruction}
use Rattle.jsonpath_select.specs.declared.machine.instruction.Instruction.TheVariants.{Step}

-- where plain steps lead, each in turn
abbrev pub along : List ℕ → Document → List Instruction → List Location → List Location
along text doc [] ls = ls
along text doc (Step leaves token ∷ steps) ls = along text doc steps (stepped text doc leaves token.now ls)
along text doc (_ ∷ steps) ls = along text doc steps ls

-- the same locations for all candidates
abbrev pub for_all : List Location → Found
for_all ls = record { shared = true; pairs = tagged 0 ls }

-- what is known of the locations of a list
abbrev pub IsStanding : Standing → List Location → Type 0
IsStanding Disjoint ls = IsDisjoint ls
IsStanding Apart ls = IsApart ls
IsStanding Distinct ls = HasNoRepeat ls
IsStanding Unknown ls = Unit {0}

-- the marks stand at these locations of the document, of which this is known
abbrev pub AreStanding : {M : Type 0} → Bool → (M → Location) → (M → Document) → Document → List Location → StandingMarks M → Type 0
AreStanding b stand content doc ls found = MarksStandAt b stand content doc ls found.marks.items × IsStanding found.standing ls
