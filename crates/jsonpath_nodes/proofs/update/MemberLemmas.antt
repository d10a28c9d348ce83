-- Nulling and taking depend on the members of a list of locations alone.
use Rattle.std.proofs.Common.{◌≡◌, List, [], ◌∷◌, true, Ordering, Equal, is_eq, Some, None, refl, sym, ap, subst, ◌∙◌}
use Rattle.std.specs.Ordering.{ordering_then}
use Rattle.jsonpath_nodes.specs.document.Document.{null}
use Rattle.jsonpath_nodes.specs.step.SameMembers.{SameMembers}
use Rattle.jsonpath_nodes.specs.update.Topmost.{is_covered_by}
use Rattle.jsonpath_nodes.specs.place.Location.{Location, location_cmp}
use Rattle.jsonpath_nodes.specs.place.Order.{once_in_order}
use Rattle.jsonpath_nodes.specs.DocumentLaws.{SetsAlone, OnceInOrderKeepsMembers}
use Rattle.jsonpath_nodes.proofs.place.AscendsLemmas.{step-tied}
use Rattle.jsonpath_nodes.proofs.place.CompleteLemmas.{IsAmong, among-Contains, Contains-among}
use Rattle.jsonpath_nodes.proofs.step.SameMemberLemmas.{any_back, any_same, any_to, same_is}
use Rattle.jsonpath_nodes.proofs.update.SetLemmas.{contains, same_location, location_eq, once_in_order-same, SameCover, topmost_same}

pub location-tied : (l : Location) → location_cmp l l ≡ Equal
location-tied [] = refl
location-tied (s ∷ l) = ap (λ (o : Ordering). ordering_then o (location_cmp l l)) (step-tied s) ∙ location-tied l

from_contains : (l : Location) (ls : List Location) → contains l ls ≡ true → IsAmong l ls
from_contains l ls h =
    let found = any_back (λ m. same_location m l) ls h in
    subst (λ (m : Location). IsAmong m ls) (same_is found.0 l (sym (location_eq found.0 l) ∙ found.2)) found.1

to_contains : (l : Location) (ls : List Location) → IsAmong l ls → contains l ls ≡ true
to_contains l ls h = any_to (λ m. same_location m l) l ls h (location_eq l l ∙ ap is_eq (location-tied l))

same_cover : (ls ms : List Location) → SameMembers ls ms → SameCover ls ms
same_cover ls ms h p = any_same (λ m. is_covered_by m p) ls ms h

pub nulling_and_taking_ignore_order : SetsAlone
nulling_and_taking_ignore_order doc ls ms h = (topmost_same (Some null) ls ms doc (same_cover ls ms h), topmost_same None ls ms doc (same_cover ls ms h))

-- each once and in document order, a list keeps exactly the members
pub keeps_members : OnceInOrderKeepsMembers
keeps_members ls l = (
  λ h. Contains-among l ls (from_contains l ls (sym (once_in_order-same ls l) ∙ to_contains l (once_in_order ls) (among-Contains l (once_in_order ls) h))),
  λ h. Contains-among l (once_in_order ls) (from_contains l (once_in_order ls) (once_in_order-same ls l ∙ to_contains l ls (among-Contains l ls h))),
)
