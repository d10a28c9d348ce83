-- Edited texts, read again.
use Rattle.std.proofs.Common.{◌≡◌, ℕ, List, subst}
use Rattle.std.specs.Prelude.{Option, Some, IfSome}
use Rattle.json.specs.Json.{Json}
use Rattle.jsonpath_nodes.specs.place.Location.{Location}
use Rattle.jsonpath_select.specs.Targets.{AreTargets}
use Rattle.json_trees.specs.ExactDocument.{exact_document}
use Rattle.jpath_edits.specs.Changed.{ReadsChanged}
use Rattle.jpath_edits.specs.declared.change.Change.{Change}
use Rattle.jpath_edits.specs.Grown.{IsGrownAt}
use Rattle.jpath_edits.specs.declared.growth.Growth.{Growth}
use Rattle.jpath_core.specs.declared.edit.Edited.{Edited}
use Rattle.jpath_core.specs.Edited.{IsAppended, IsItemOf}

pub read_again : (change : Change) (places locations : List Location) (before : Json) (bytes written : List ℕ) → places ≡ locations → bytes ≡ written
    → ReadsChanged change places before bytes → ReadsChanged change locations before written
read_again change places locations before bytes written there same h =
    subst (λ (us : List ℕ). ReadsChanged change locations before us) same (subst (λ (ls : List Location). ReadsChanged change ls before bytes) there h)

-- items at the ends of selected lists, from what was found of the text
pub appended : (path value : List ℕ) (exact : Json) (text : List ℕ) (growth : Growth) (places lent : List Location) (found : Option Edited) (edited : Edited) → found ≡ Some edited → lent ≡ places
    → IfSome found (λ e. IsGrownAt growth exact lent text e.text.items) → AreTargets path (exact_document exact) places → IsItemOf value growth → IsAppended path value exact text edited.text.items
appended path value exact text growth places lent found edited is same made targets item = record {
  growth = growth;
  is_item = item;
  grown = record {
    locations = places;
    targets = targets;
    grown = subst (λ (ls : List Location). IsGrownAt growth exact ls text edited.text.items) same
        (subst (λ (o : Option Edited). IfSome o (λ e. IsGrownAt growth exact lent text e.text.items)) is made);
  };
}
