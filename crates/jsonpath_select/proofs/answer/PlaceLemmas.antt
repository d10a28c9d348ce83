-- What follows for a caller: a text that selects one location, and one that spells a tree.
use Rattle.std.proofs.Common.{◌≡◌, ℕ, List, filter_map, option_to_list, refl, sym, ap, ◌∙◌, arith}
use Rattle.jsonpath_nodes.specs.document.Document.{Document}
use Rattle.jsonpath_paths.specs.Spelling.{Spells}
use Rattle.jsonpath_paths.specs.tree.Tree.{Path}
use Rattle.jsonpath_nodes.specs.place.Location.{Location, at}
use Rattle.jsonpath_select.specs.SelectionLaws.{where_it_is, AnswersPlace, SelectsByTree, NeverRefused}
use Rattle.jsonpath_select.specs.Meaning.{sel, answer}
use Rattle.jsonpath_select.specs.declared.error.JsonPathError.TheVariants.{EmptyPath, EmptyValue, Path as PathRefused, Serde, OutOfMemory}

value_there : (doc : Document) (l : Location) → filter_map (at doc) (where_it_is doc l) ≡ option_to_list (at doc l)
value_there doc l = grind arith

module _ (one_tree_per_text : (text : List ℕ) (p q : Path) → Spells text p → Spells text q → p ≡ q) where
  pub one_location_answers_one_value : AnswersPlace
  one_location_answers_one_value text doc l values printed found =
      found.holds ∙ ap (answer text doc) (one_tree_per_text text found.path printed.path found.spelled printed.spelled) ∙ ap (filter_map (at doc)) (sym printed.holds) ∙ value_there doc l

  pub selects_by_any_tree : SelectsByTree
  selects_by_any_tree text doc p spelled =
      (λ ls found. found.holds ∙ ap (sel text doc) (one_tree_per_text text found.path p found.spelled spelled), λ values found. found.holds ∙ ap (answer text doc) (one_tree_per_text text found.path p found.spelled spelled))

pub refused_for_memory_alone : NeverRefused
refused_for_memory_alone text EmptyPath is refused = absurd refused
refused_for_memory_alone text EmptyValue is refused = absurd refused
refused_for_memory_alone text (PathRefused message) is refused = absurd (refused.0 is)
refused_for_memory_alone text (Serde message) is refused = absurd refused
refused_for_memory_alone text OutOfMemory is refused = refl
