use Rattle.jsonpath_lib.proofs.update.PlaceUpdateLemmas.{targets_place, deletes_place, removes_place}
use Rattle.jsonpath_lib.proofs.laws.deletes_and_removes_selected_location.Goals as goal

pub returns-clause-targets : goal.returns-clause-targets
returns-clause-targets c = targets_place c.one_tree_per_text.ensures

pub returns-clause-deletes : goal.returns-clause-deletes
returns-clause-deletes c = deletes_place c.putting_at_one_location.ensures.nowhere (targets_place c.one_tree_per_text.ensures) c.nulling_at_topmost.ensures.in_turn

pub returns-clause-removes : goal.returns-clause-removes
returns-clause-removes c = removes_place c.putting_at_one_location.ensures.nowhere (targets_place c.one_tree_per_text.ensures) c.taking_at_once_is_in_turn.ensures c.locations_once_in_order_ascend.ensures.ascends
