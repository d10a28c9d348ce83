-- The walk in either manner: where steps lead the lists of all candidates of a filter.
use Rattle.std.specs.Prelude.{ℕ, Bool, List, filter, if◌then◌else◌}
use Rattle.jsonpath_nodes.specs.document.Document.{Document}
use Rattle.jsonpath_paths.specs.tree.Tree.{Path, Inner, Term}
use Rattle.jsonpath_paths.specs.tree.Tree as tree
use Rattle.jsonpath_nodes.specs.place.Location.{Location}
use Rattle.jsonpath_nodes.specs.place.Order.{once_in_order}
use Rattle.jsonpath_nodes.specs.step.SameMembers.{topmost}
use Rattle.jsonpath_nodes.specs.step.Steps.{every, step, all_below}
use Rattle.jsonpath_select.specs.plan.Machine.{Found, Operand, of_path, literal, spread, starts}
use Rattle.jsonpath_select.specs.plan.Manner.{lessened, reached_in, inner_in, holds_in}
use Rattle.jsonpath_select.specs.Parts.{literals, plain_of}
use Rattle.jsonpath_select.specs.Meaning.{candidates}

-- where what stands in a step leads, with a descent from each of the locations
abbrev pub led_in : Bool → List ℕ → Document → Inner → Bool → List Location → List Location
led_in sets text doc (tree.plain token) leaves ls = step doc (plain_of text token) (if leaves then all_below doc ls else ls)
led_in sets text doc (tree.filter f) leaves ls = filter (holds_in sets text doc f) (candidates doc f (if leaves then step doc every (all_below doc ls) else ls))

-- one step in the manner told
abbrev pub step_in : Bool → List ℕ → Document → Inner → Bool → List Location → List Location
step_in sets text doc inner leaves ls = lessened sets (inner_in sets text doc inner leaves ls)

-- one step by sets, in which conditions are decided in the manner told
abbrev pub set_after : Bool → List ℕ → Document → Inner → Bool → List Location → List Location
set_after sets text doc inner leaves ls = once_in_order (led_in sets text doc inner leaves (if leaves then topmost ls else ls))

-- where a path leads from each candidate, or from the root, once for all of them
abbrev pub found_in : Bool → List ℕ → Document → Path → List Location → Found
found_in sets text doc (tree.path absolute steps) cs = record { shared = absolute; pairs = spread (reached_in sets text doc (tree.path absolute steps)) 0 (starts absolute cs) }

-- what a term leaves
abbrev pub term_in : Bool → List ℕ → Document → Term → List Location → Operand
term_in sets text doc (tree.at_path p) cs = of_path (found_in sets text doc p cs)
term_in sets text doc (tree.literal token) cs = literal (literals text token)
