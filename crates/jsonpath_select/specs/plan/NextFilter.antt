-- The next filter of a path, and the candidates with which it begins.
use Rattle.std.specs.Prelude.{◌≡◌, ℕ, suc, ◌-◌, ◌==◌, Bool, true, List, [], ◌∷◌, ◌++◌, map, Some, if◌then◌else◌}
use Rattle.std.specs.List.{list_all}
use Rattle.jsonpath_nodes.specs.document.Document.{Document}
use Rattle.jsonpath_nodes.specs.place.Mark.{MarksStandAt}
use Rattle.jsonpath_nodes.specs.place.Order.{once_in_order}
use Rattle.jsonpath_paths.specs.tree.Tree.{Path, PathSteps, no_steps, step_then, Condition}
use Rattle.jsonpath_paths.specs.tree.WellFormed.{IsPath}
use Rattle.jsonpath_nodes.specs.place.Location.{Location}
use Rattle.jsonpath_select.specs.plan.Code as code
use Rattle.jsonpath_select.specs.plan.Code.{condition_code, path_code, steps_code, leave}
use Rattle.jsonpath_select.specs.plan.Machine.{State, answering, root_shared_by_candidates, run_all}
use Rattle.jsonpath_select.specs.plan.Ordered.{instruction_of}
use Rattle.jsonpath_select.specs.plan.Standing.{for_all}
use Rattle.jsonpath_select.specs.plan.Unfiltered.{is_plain_step}
use Rattle.jsonpath_select.specs.declared.filters.next_filter.FilterApproach.{FilterApproach}
use Rattle.jsonpath_select.specs.declared.machine.instruction.Instruction.{Instruction}
use Rattle.jsonpath_select.specs.declared.machine.instruction.Instruction.TheVariants.{Enter}

-- ---- where the instructions of a path's steps stand

-- these are the instructions of the steps
abbrev pub CodesSteps : List Instruction → PathSteps → Type 0
CodesSteps left ss = map instruction_of left ≡ steps_code ss

-- these are the instructions of the condition alone, with its end
abbrev pub CodesCondition : List Instruction → Condition → Type 0
CodesCondition is c = map instruction_of is ≡ condition_code c ++ leave ∷ []

-- a filter has begun whose condition this is, and these steps stand behind it
abbrev pub AreBegun : List Instruction → Condition → PathSteps → Type 0
AreBegun left c ss = map instruction_of left ≡ condition_code c ++ leave ∷ steps_code ss

-- plain steps lead to a filter, behind whose beginning the rest stands
abbrev pub ComesNext : List Instruction → FilterApproach → List Instruction → Type 0
ComesNext left way rest = (left ≡ way.steps.now ++ Enter way.leaves way.deep ∷ rest) × (list_all is_plain_step way.steps.now ≡ true)

-- the first of the steps alone, and those behind it
abbrev pub first_step : PathSteps → PathSteps
first_step no_steps = no_steps
first_step (step_then leaves bracket inner rest) = step_then leaves bracket inner no_steps

abbrev pub later_steps : PathSteps → PathSteps
later_steps no_steps = no_steps
later_steps (step_then leaves bracket inner rest) = rest

-- a filter of the path itself has begun, with these candidates
abbrev pub begun : List Location → State
begun cs = record { frames = for_all cs ∷ root_shared_by_candidates ∷ []; operands = [] }

-- these are the instructions of a whole path from the root
abbrev pub CodesPath : List Instruction → Path → Type 0
CodesPath is p = IsPath p × (map instruction_of is ≡ path_code p)

-- the instructions lead from some candidates to those that pass
abbrev pub Decides : List ℕ → Document → List Instruction → List Location → List Location → Type 0
Decides text doc is cs ks = run_all text doc (map instruction_of is) (begun cs) ≡ Some (answering ks)

-- the marks stand at some locations that are, each once and in order, those of a list
abbrev pub AreASetAt : {M : Type 0} → Bool → (M → Location) → (M → Document) → Document → List Location → List M → Type 0
AreASetAt b stand content doc ls marks = (ms : List Location) × MarksStandAt b stand content doc ms marks × (once_in_order ms ≡ once_in_order ls)

-- what stands behind the end of a filter, where so many more are open in it
abbrev pub behind_leave : ℕ → List code.Instruction → List code.Instruction
behind_leave d [] = []
behind_leave d (code.enter leaves deep ∷ is) = behind_leave (suc d) is
behind_leave d (leave ∷ is) = if d == 0 then is else behind_leave (d - 1) is
behind_leave d (i ∷ is) = behind_leave d is
