-- Plain steps one after the other, each also on all below or not.
use Rattle.std.specs.Prelude.{ℕ, List, [], ◌∷◌, map, if◌then◌else◌}
use Rattle.std.specs.Cow.{cow_str_bytes}
use Rattle.jsonpath_nodes.specs.document.Document.{Document}
use Rattle.jsonpath_nodes.specs.place.Location.{Location}
use Rattle.jsonpath_nodes.specs.step.Steps.{Plain, every, named, listed, nth, union, range, step, all_below}
use Rattle.jsonpath_nodes.specs.declared.step.stride.Selection.{Selection}
use Rattle.jsonpath_nodes.specs.declared.step.stride.Selection.TheVariants.{Every, Named, Listed, Nth, Union, Range}
use Rattle.jsonpath_nodes.specs.declared.step.stride.Stride.{Stride}

-- the plain step that a selection stands for
abbrev pub plain_in : Selection → Plain
plain_in Every = every
plain_in (Named k) = named (cow_str_bytes k)
plain_in (Listed ks) = listed (map cow_str_bytes ks.items)
plain_in (Nth n) = nth n
plain_in (Union ns) = union ns.now
plain_in (Range from to step) = range from to step

-- the names that a selection lists
abbrev pub names_in : Selection → List (List ℕ)
names_in Every = []
names_in (Named k) = []
names_in (Listed ks) = map cow_str_bytes ks.items
names_in (Nth n) = []
names_in (Union ns) = []
names_in (Range from to step) = []

-- where strides lead from a list of locations, each from where those before it have led
abbrev pub led_along : List Stride → Document → List Location → List Location
led_along [] doc ls = ls
led_along (s ∷ ss) doc ls = led_along ss doc (step doc (plain_in s.selection) (if s.leaves then all_below doc ls else ls))
