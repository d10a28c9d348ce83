use Rattle.std.proofs.Common.{◌+◌, ◌*◌, ◌≤◌, length}
use Rattle.jsonpath_nodes.specs.document.OfData.{members_document}
use Rattle.jsonpath_nodes.specs.plan.Groups.{beyond}
use Rattle.jsonpath_nodes.proofs.update.ClearLemmas.{Clears}
use Rattle.jsonpath_nodes.proofs.update.GroupLemmas.{total}
use Rattle.jsonpath_nodes.proofs.update.PassLemmas.{Passes}
use Rattle.jsonpath_nodes.proofs.update.at_once.take.+take.Given as goal

abbrev pub decreases-take_from_value : goal.decreases-take_from_value
decreases-take_from_value l = 2 * total (beyond l.depth l.locations.now) + 1

abbrev pub decreases-take_items : goal.decreases-take_items
decreases-take_items l = 2 * total (beyond l.depth l.locations.now)

abbrev pub decreases-take_members : goal.decreases-take_members
decreases-take_members l = 2 * total (beyond l.depth l.locations.now)

abbrev pub invariant-take_items-loop-first : goal.invariant-take_items-loop-first
invariant-take_items-loop-first l = record {
  passes : Passes (beyond l.depth l.locations) l.initial.list.items l.list.items (beyond l.depth l.rest) l.kept l.next;
  fewer : total (beyond l.depth l.rest) ≤ total (beyond l.depth l.locations);
}

abbrev pub decreases-take_items-loop-first : goal.decreases-take_items-loop-first
decreases-take_items-loop-first l = length l.rest

abbrev pub invariant-take_members-loop-first : goal.invariant-take_members-loop-first
invariant-take_members-loop-first l = record {
  clears : Clears (beyond l.depth l.locations) (members_document l.initial.map.entries) (members_document l.map.entries) (beyond l.depth l.rest);
  fewer : total (beyond l.depth l.rest) ≤ total (beyond l.depth l.locations);
}

abbrev pub decreases-take_members-loop-first : goal.decreases-take_members-loop-first
decreases-take_members-loop-first l = length l.rest
