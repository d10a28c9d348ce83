use Rattle.jsonpath_nodes.proofs.update.MemberLemmas.{keeps_members}
use Rattle.jsonpath_nodes.proofs.place.OrderLemmas.{once_in_order-sorted}
use Rattle.jsonpath_nodes.proofs.laws.locations_once_in_order_ascend.Goals as goal

pub returns-clause-ascends : goal.returns-clause-ascends
returns-clause-ascends c = once_in_order-sorted

pub returns-clause-members : goal.returns-clause-members
returns-clause-members c = keeps_members
