-- What is gathered at a value and at all below it, in one descent.
use Rattle.std.proofs.Common.{◌≡◌, List, ◌++◌, map, sym, ap, ap₂, ◌∙◌, append_assoc}
use Rattle.std.proofs.lemmas.List.{map-append}
use Rattle.jsonpath_nodes.specs.document.Document.{Document, array, object, Items, Members}
use Rattle.jsonpath_nodes.specs.place.Location.{Location, below}
use Rattle.jsonpath_nodes.specs.plan.Gathered.{all_gathered}
use Rattle.jsonpath_nodes.specs.step.Steps.{from_each}
use Rattle.jsonpath_nodes.specs.place.SpotPlace.{look_from}
use Rattle.jsonpath_nodes.proofs.place.SightLemmas.{Sight, item_sights, member_sights, items-sights, members-sights}
use Rattle.jsonpath_nodes.specs.place.Order.{NamesAscend}
use Rattle.jsonpath_nodes.proofs.step.ChildLemmas.{through, item_kids, member_kids, below_items-kids, below_members-kids, all_items_at, members_at}
use Rattle.jsonpath_nodes.proofs.step.ListLemmas.{map-nothing, from_each-through}

module _ (own : Document → List Location) where
  -- what own gives at a value, and then the same through each child
  pub items_through : (ds : Items) → all_gathered own (array ds) ≡ own (array ds) ++ through (all_gathered own) (item_kids 0 ds)
  items_through ds =
      ap₂ (λ (x y : List Location). x ++ y) (map-nothing (own (array ds)))
      (ap (from_each (array ds) own) (below_items-kids 0 ds) ∙ from_each-through own below (array ds) (item_kids 0 ds) (all_items_at ds))

  pub members_through : (ms : Members) → NamesAscend ms → all_gathered own (object ms) ≡ own (object ms) ++ through (all_gathered own) (member_kids ms)
  members_through ms h =
      ap₂ (λ (x y : List Location). x ++ y) (map-nothing (own (object ms)))
      (ap (from_each (object ms) own) (below_members-kids ms) ∙ from_each-through own below (object ms) (member_kids ms) (members_at ms h))

  parts : (l : Location) (d : Document) (ls ms : List Location) (later : List Sight) → ls ≡ own d ++ ms → map (look_from l d) ms ≡ later → map (look_from l d) ls ≡ map (look_from l d) (own d) ++ later
  parts l d ls ms later is same = ap (map (look_from l d)) is ∙ map-append (look_from l d) (own d) ms ∙ ap (λ (x : List Sight). map (look_from l d) (own d) ++ x) same

  pub gathered_items : (l : Location) (all : Items)
      → map (look_from l (array all)) (all_gathered own (array all)) ≡ map (look_from l (array all)) (own (array all)) ++ item_sights (all_gathered own) l 0 all
  gathered_items l all =
      parts l (array all) (all_gathered own (array all)) (through (all_gathered own) (item_kids 0 all)) (item_sights (all_gathered own) l 0 all) (items_through all) (items-sights (all_gathered own) l all)

  pub gathered_members : (l : Location) (all : Members) → NamesAscend all
      → map (look_from l (object all)) (all_gathered own (object all)) ≡ map (look_from l (object all)) (own (object all)) ++ member_sights (all_gathered own) l all
  gathered_members l all h =
      parts l (object all) (all_gathered own (object all)) (through (all_gathered own) (member_kids all)) (member_sights (all_gathered own) l all) (members_through all h) (members-sights (all_gathered own) l all h)

-- what a loop over the children adds, after the step from the value itself
pub deep_after : (before middle out own later all : List Sight) → out ≡ middle ++ later → middle ≡ before ++ own → all ≡ own ++ later → out ≡ before ++ all
deep_after before middle out own later all looped stepped parts =
    looped ∙ ap (λ (xs : List Sight). xs ++ later) stepped ∙ append_assoc before own later ∙ ap (λ (xs : List Sight). before ++ xs) (sym parts)
