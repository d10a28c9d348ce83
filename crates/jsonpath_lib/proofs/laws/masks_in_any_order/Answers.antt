use Rattle.jsonpath_lib.proofs.update.AnyOrderLemmas.{masks_in_any_order}
use Rattle.jsonpath_lib.proofs.laws.masks_in_any_order.Goals as goal

pub returns : goal.returns
returns c = masks_in_any_order c.one_tree_per_text.ensures c.locations_once_in_order_ascend.ensures.members c.nulling_and_taking_ignore_order.ensures
