-- What the parser answers for a whole path, by the tree that is read.
use Rattle.std.specs.Prelude.{◌≡◌, Option, Some, None, Result, Ok, Err}
use Rattle.jsonpath_paths.specs.declared.parser.tree_parser.Refusal.{Refusal}
use Rattle.jsonpath_paths.specs.declared.parser.tree_parser.Refusal.TheVariants as fault
use Rattle.jsonpath_paths.specs.tree.Tree.{Path}

abbrev pub IsPathAnswer : {A : Type 0} → (A → Path) → Option Path → Result A Refusal → Type 0
IsPathAnswer view read (Ok x) = read ≡ Some (view x)
IsPathAnswer view read (Err fault.Refused) = read ≡ None
IsPathAnswer view read (Err fault.OutOfMemory) = Unit {0}
