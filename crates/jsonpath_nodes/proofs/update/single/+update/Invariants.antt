use Rattle.std.proofs.Common.{◌+◌, ◌*◌, length}
use Rattle.jsonpath_nodes.proofs.update.single.+update.Given as goal

abbrev pub decreases-update_at_steps : goal.decreases-update_at_steps
decreases-update_at_steps g l = 3 * length l.steps.now

abbrev pub decreases-update_item : goal.decreases-update_item
decreases-update_item g l = 3 * length l.rest.now + 1

abbrev pub decreases-update_member_of_owned_name : goal.decreases-update_member_of_owned_name
decreases-update_member_of_owned_name g l = 3 * length l.rest.now + 2

abbrev pub decreases-update_member : goal.decreases-update_member
decreases-update_member g l = 3 * length l.rest.now + 1
