-- A path text selects one list in a document.
use Rattle.std.proofs.Common.{◌≡◌, ◌∙◌, ℕ, List, sym, ap, map}
use Rattle.jsonpath_paths.specs.tree.Tree.{Path}
use Rattle.jsonpath_paths.specs.Spelling.{Spells}
use Rattle.jsonpath_nodes.specs.place.SpotPlace.{look}
use Rattle.jsonpath_select.specs.SelectionLaws.{OneListOfLocations, OneListOfValues, OneListOfSights}
use Rattle.jsonpath_select.specs.Meaning.{sel, answer}

-- by the law that a text spells one tree
module _ (one_tree_per_text : (text : List ℕ) (p q : Path) → Spells text p → Spells text q → p ≡ q) where
  pub one_list_of_locations : OneListOfLocations
  one_list_of_locations text doc ls ms a b = a.holds ∙ ap (sel text doc) (one_tree_per_text text a.path b.path a.spelled b.spelled) ∙ sym b.holds

  pub one_list_of_values : OneListOfValues
  one_list_of_values text doc xs ys a b = a.holds ∙ ap (answer text doc) (one_tree_per_text text a.path b.path a.spelled b.spelled) ∙ sym b.holds

  pub one_list_of_sights : OneListOfSights
  one_list_of_sights text doc xs ys a b =
      a.holds ∙ ap (λ p. map (look doc) (sel text doc p)) (one_tree_per_text text a.path b.path a.spelled b.spelled) ∙ sym b.holds
