use Rattle.jsonpath_nodes.proofs.update.MemberLemmas.{nulling_and_taking_ignore_order}
use Rattle.jsonpath_nodes.proofs.laws.nulling_and_taking_ignore_order.Goals as goal

pub returns : goal.returns
returns c = nulling_and_taking_ignore_order
