use Rattle.std.proofs.Common.{◌≡◌}
use Rattle.json.specs.Value.{members_view}
use Rattle.jpath_edits.specs.Grown.{each_renamed}
use Rattle.jpath_edits.proofs.growth.take_back.members_with_old_name.Given as goal

abbrev pub invariant-loop-name : goal.invariant-loop-name
invariant-loop-name l = members_view l.made.items ≡ each_renamed l.new l.old (members_view l.yielded)
