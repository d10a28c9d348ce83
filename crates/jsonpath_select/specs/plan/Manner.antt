-- The two manners in which a path is evaluated: as lists, in which repeats stay, and as sets, where after each step the
-- locations stand once each, in document order, and a descent begins at the topmost of them.
use Rattle.std.specs.Prelude.{ℕ, Bool, true, false, List}
use Rattle.jsonpath_nodes.specs.document.Document.{Document}
use Rattle.jsonpath_paths.specs.tree.Tree.{Path, PathSteps, Inner, Condition, Term}
use Rattle.jsonpath_nodes.specs.place.Location.{Location}
use Rattle.jsonpath_nodes.specs.place.Order.{once_in_order}
use Rattle.jsonpath_nodes.specs.compare.Comparisons.{Seen}
use Rattle.jsonpath_nodes.specs.step.SameMembers.{topmost}
use Rattle.jsonpath_nodes.specs.step.Steps.{all_below}
use Rattle.jsonpath_select.specs.SetMeaning.{Lessening, reached_by, follow_by, inner_by, holds_by, values_by}

-- what stays of a step's locations, in the manner of sets or of lists
abbrev pub lessened : Bool → Lessening
lessened true ls = once_in_order ls
lessened false ls = ls

-- where a descent begins
abbrev pub descent_starts : Bool → Lessening
descent_starts true ls = topmost ls
descent_starts false ls = ls

-- what a descent finds
abbrev pub descent : Bool → Document → Lessening
descent sets doc ls = all_below doc (descent_starts sets ls)

abbrev pub reached_in : Bool → List ℕ → Document → Path → Location → List Location
reached_in sets text doc p l = reached_by (lessened sets) (descent sets doc) text doc p l

abbrev pub follow_in : Bool → List ℕ → Document → PathSteps → List Location → List Location
follow_in sets text doc ss ls = follow_by (lessened sets) (descent sets doc) text doc ss ls

abbrev pub inner_in : Bool → List ℕ → Document → Inner → Bool → List Location → List Location
inner_in sets text doc inner leaves ls = inner_by (lessened sets) (descent sets doc) text doc inner leaves ls

abbrev pub holds_in : Bool → List ℕ → Document → Condition → Location → Bool
holds_in sets text doc f c = holds_by (lessened sets) (descent sets doc) text doc f c

abbrev pub values_in : Bool → List ℕ → Document → Term → Location → List Seen
values_in sets text doc a c = values_by (lessened sets) (descent sets doc) text doc a c
