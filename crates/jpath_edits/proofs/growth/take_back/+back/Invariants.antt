use Rattle.std.proofs.Common.{◌+◌, ◌*◌, length}
use Rattle.jpath_edits.proofs.growth.take_back.+back.Given as goal

abbrev pub decreases-take_back : goal.decreases-take_back
decreases-take_back l = 3 * length l.steps.now

abbrev pub decreases-take_back_by_name : goal.decreases-take_back_by_name
decreases-take_back_by_name l = 3 * length l.rest.now + 2

abbrev pub decreases-take_back_in_member : goal.decreases-take_back_in_member
decreases-take_back_in_member l = 3 * length l.rest.now + 1

abbrev pub decreases-take_back_in_item : goal.decreases-take_back_in_item
decreases-take_back_in_item l = 3 * length l.rest.now + 1
