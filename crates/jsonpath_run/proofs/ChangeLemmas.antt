-- Masking and removing by one path are what the commands for one path do.
use Rattle.std.proofs.Common.{◌≡◌, ◌⊎◌, inl, inr, ℕ, List, [], ◌∷◌, ◌++◌, length, refl, ap, ◌∙◌, append-nil, subst}
use Rattle.jsonpath_nodes.specs.document.Document.{Document}
use Rattle.jsonpath_nodes.specs.place.Location.{Location}
use Rattle.jsonpath_nodes.specs.place.Order.{once_in_order}
use Rattle.jsonpath_nodes.specs.update.Topmost.{nulled, taken}
use Rattle.jsonpath_select.specs.Meaning.{sel}
use Rattle.jsonpath_select.specs.Targets.{targets, IsDeleted, IsRemoved}
use Rattle.jsonpath_select.specs.declared.error.JsonPathError.{JsonPathError}
use Rattle.jsonpath_select.specs.declared.error.JsonPathError.TheVariants.{EmptyPath, EmptyValue, Path as bad_path, Serde, OutOfMemory}
use Rattle.jsonpath_nodes.specs.document.OfData.{document_of}
use Rattle.jsonpath_lib.specs.Text.{IsTextOfChanged, IsChangedTextRefused}
use Rattle.jsonpath_lib.specs.update.Masked.{AreTargetsOfAll, IsMasked, AreRemoved}
use Rattle.jsonpath_paths.specs.tree.Tree.{Path}
use Rattle.jsonpath_paths.specs.Spelling.{Spells}
use Rattle.jsonpath_run.specs.Output.{IsChange}
use Rattle.jsonpath_run.specs.Words.{IsCount}
use Rattle.jsonpath_run.specs.declared.words.Command.{Command}
use Rattle.jsonpath_run.specs.declared.words.Command.TheVariants.{Select, Delete, Remove, Check, Mask}

one_path : (path : List ℕ) (doc : Document) (ls : List Location) → AreTargetsOfAll (path ∷ []) doc ls → (p : Path) × Spells path p × (ls ≡ targets path doc p)
one_path path doc ls h =
    let is = h.selected in (is.0, is.2, h.are ∙ ap once_in_order (is.4 ∙ ap (λ rest. sel path doc is.0 ++ rest) is.3 ∙ append-nil (sel path doc is.0)))

deleted : (path : List ℕ) (before after : Document) → IsMasked (path ∷ []) before after → IsDeleted path before after
deleted path before after h =
    let is = one_path path before h.locations h.targets in record { path = is.0; spelled = is.1; holds = h.changed ∙ ap (λ ls. nulled ls before) is.2 }

removed : (path : List ℕ) (before after : Document) → AreRemoved (path ∷ []) before after → IsRemoved path before after
removed path before after h =
    let is = one_path path before h.locations h.targets in record { path = is.0; spelled = is.1; holds = h.changed ∙ ap (λ ls. taken ls before) is.2 }

-- a list of one
single : (paths : List (List ℕ)) → length paths ≡ 1 → (path : List ℕ) × (paths ≡ path ∷ [])
single [] h = absurd (cc)
single (path ∷ []) h = (path, refl)
single (path ∷ other ∷ more) h = absurd (cc)

masked_change : (command : Command) (paths : List (List ℕ)) (before after : Document) → IsCount command (length paths) → (command ≡ Delete) ⊎ (command ≡ Mask) → IsMasked paths before after → IsChange command paths before after
masked_change Select paths before after count (inl is) h = cc
masked_change Select paths before after count (inr is) h = cc
masked_change Delete paths before after count is h = let one = single paths count in (one.0, one.1, deleted one.0 before after (subst (λ ps. IsMasked ps before after) one.1 h))
masked_change Remove paths before after count (inl is) h = cc
masked_change Remove paths before after count (inr is) h = cc
masked_change Check paths before after count (inl is) h = cc
masked_change Check paths before after count (inr is) h = cc
masked_change Mask paths before after count is h = h

removed_change : (command : Command) (paths : List (List ℕ)) (before after : Document) → IsCount command (length paths) → command ≡ Remove → AreRemoved paths before after → IsChange command paths before after
removed_change Select paths before after count is h = cc
removed_change Delete paths before after count is h = cc
removed_change Remove paths before after count is h = let one = single paths count in (one.0, one.1, removed one.0 before after (subst (λ ps. AreRemoved ps before after) one.1 h))
removed_change Check paths before after count is h = cc
removed_change Mask paths before after count is h = cc

-- ---- the text of the one change is that of the other

module _ {Makes Is : Document → Type 0} (same : (after : Document) → Makes after → Is after) where
  text_kept : (text : List ℕ) → IsTextOfChanged Makes text → IsTextOfChanged Is text
  text_kept text h = (h.0, same (document_of h.0) h.1, h.2)

  refusal_kept : (error : JsonPathError) → IsChangedTextRefused Makes error → IsChangedTextRefused Is error
  refusal_kept EmptyPath h = h
  refusal_kept EmptyValue h = h
  refusal_kept (bad_path m) h = h
  refusal_kept (Serde m) h = (h.0, same (document_of h.0) h.1, h.2, h.3)
  refusal_kept OutOfMemory h = h

module _ (command : Command) (paths : List (List ℕ)) (before : Document) (count : IsCount command (length paths)) where
  module _ (is : (command ≡ Delete) ⊎ (command ≡ Mask)) where
    pub masked_text : (text : List ℕ) → IsTextOfChanged (IsMasked paths before) text → IsTextOfChanged (IsChange command paths before) text
    masked_text text h = text_kept (λ after made. masked_change command paths before after count is made) text h

    pub masked_refusal : (error : JsonPathError) → IsChangedTextRefused (IsMasked paths before) error → IsChangedTextRefused (IsChange command paths before) error
    masked_refusal error h = refusal_kept (λ after made. masked_change command paths before after count is made) error h

  module _ (is : command ≡ Remove) where
    pub removed_text : (text : List ℕ) → IsTextOfChanged (AreRemoved paths before) text → IsTextOfChanged (IsChange command paths before) text
    removed_text text h = text_kept (λ after made. removed_change command paths before after count is made) text h

    pub removed_refusal : (error : JsonPathError) → IsChangedTextRefused (AreRemoved paths before) error → IsChangedTextRefused (IsChange command paths before) error
    removed_refusal error h = refusal_kept (λ after made. removed_change command paths before after count is made) error h
