-- The machine at the filters of the path itself, and at a whole path by sets.
use Rattle.std.proofs.Common.{◌≡◌, ℕ, true, false, List, [], ◌∷◌, ◌++◌, Equal, Option, Some, sym, ap, ◌∙◌, append-nil, filter, option_map, option_and_then}
use Rattle.jsonpath_nodes.specs.DocumentLaws.{OnceInOrderKeepsMembers}
use Rattle.jsonpath_nodes.specs.document.Document.{Document}
use Rattle.jsonpath_paths.specs.tree.Tree.{Condition, Path, path}
use Rattle.jsonpath_nodes.specs.place.Location.{Location, location_cmp}
use Rattle.jsonpath_nodes.specs.step.SameMembers.{SomeOfASet}
use Rattle.jsonpath_select.specs.Meaning.{holds}
use Rattle.jsonpath_select.specs.plan.Code.{leave, all_by_sets, condition_code, decided_by_sets, path_code}
use Rattle.jsonpath_select.specs.plan.Machine.{Tagged, tagged, places, State, of_path, root_shared_by_candidates, kept_by_number, run_all, answering, at_first}
use Rattle.jsonpath_select.specs.plan.Manner.{holds_in, reached_in, values_in}
use Rattle.jsonpath_select.specs.plan.NextFilter.{begun}
use Rattle.jsonpath_select.specs.plan.Standing.{for_all}
use Rattle.jsonpath_select.proofs.MannerLemmas.{lists_hold}
use Rattle.jsonpath_select.proofs.machine.RunLemmas.{tags-found, run_condition, run_decided, run_path}
use Rattle.jsonpath_select.proofs.tagged.DistinctLemmas.{tagged-filter}
use Rattle.jsonpath_select.proofs.tagged.TagLemmas.{kept-chosen, path_from, places_alone}

abbrev with_pairs : List Tagged → State
with_pairs ps = record { frames = root_shared_by_candidates ∷ []; operands = of_path (record { shared = true; pairs = ps }) ∷ [] }

module _ (apart : (l m : Location) → location_cmp l m ≡ Equal → l ≡ m) (keeps : OnceInOrderKeepsMembers) (some_same : SomeOfASet) (text : List ℕ) (doc : Document) where
  -- a filter of the path's own is decided
  pub top_decided : (c : Condition) (cs : List Location) → run_all text doc (condition_code c ++ leave ∷ []) (begun cs) ≡ Some (answering (filter (holds text doc c) cs))
  top_decided c cs =
      run_condition apart keeps some_same text doc false c (leave ∷ []) (for_all cs) (root_shared_by_candidates ∷ []) []
      ∙ ap (λ (o : Option (List ℕ)). option_and_then (run_all text doc []) (option_map (λ ts. with_pairs (kept_by_number 0 ts (tagged 0 cs))) o)) (tags-found apart keeps some_same text doc false c (places (tagged 0 cs)))
      ∙ ap (λ (ps : List Tagged). Some (with_pairs ps)) (kept-chosen (holds_in false text doc c) 0 (tagged 0 cs) ∙ tagged-filter (holds_in false text doc c) 0 cs)
      ∙ (λ i. Some (answering (filter (λ l. lists_hold text doc c l i) cs)))

  -- by sets, where these mean the same
  pub top_decided_by_sets : (c : Condition) (cs : List Location) → ((l : Location) → holds_in true text doc c l ≡ holds text doc c l) → run_all text doc (decided_by_sets (condition_code c)) (begun cs) ≡ Some (answering (filter (holds text doc c) cs))
  top_decided_by_sets c cs same =
      run_decided apart keeps some_same text doc c (run_condition apart keeps some_same text doc true c) [] (tagged 0 cs) true root_shared_by_candidates [] []
      ∙ ap (λ (ps : List Tagged). Some (with_pairs ps)) (tagged-filter (holds_in true text doc c) 0 cs)
      ∙ (λ i. Some (answering (filter (λ l. same l i) cs)))

  -- the state that a whole path leaves
  abbrev pub path_left : Path → State
  path_left p = record { frames = root_shared_by_candidates ∷ []; operands = of_path (path_from text doc (reached_in true text doc) (values_in true text doc) p 0 ([] ∷ [])) ∷ [] }

  pub path_run : (p : Path) → run_all text doc (all_by_sets (path_code p)) at_first ≡ Some (path_left p)
  path_run p = ap (λ is. run_all text doc is at_first) (sym (append-nil (all_by_sets (path_code p)))) ∙ run_path apart keeps some_same text doc true p [] root_shared_by_candidates [] []

  pub path_places : (p : Path) → places (path_from text doc (reached_in true text doc) (values_in true text doc) p 0 ([] ∷ [])).pairs ≡ reached_in true text doc p []
  path_places (path true ss) = places_alone 0 (reached_in true text doc (path true ss) [])
  path_places (path false ss) = places_alone 0 (reached_in true text doc (path false ss) [])
