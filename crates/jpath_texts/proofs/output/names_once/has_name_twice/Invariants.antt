use Rattle.std.proofs.Common.{◌≡◌, take}
use Rattle.json.specs.Value.{members_view}
use Rattle.jpath_texts.specs.NamesOnce.{each_name_once}
use Rattle.jpath_texts.proofs.output.names_once.has_name_twice.Given as goal

abbrev pub invariant-loop-at : goal.invariant-loop-at
invariant-loop-at l = each_name_once (members_view (take l.at l.members)) ≡ members_view (take l.at l.members)
