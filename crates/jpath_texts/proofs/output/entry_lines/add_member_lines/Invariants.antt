use Rattle.std.proofs.Common.{◌≡◌, ◌++◌, drop}
use Rattle.json.specs.Tree.{MembersHaveNumbers}
use Rattle.json.specs.Value.{members_view}
use Rattle.jpath_texts.specs.Entries.{entries_of_members, lines_of_entries}
use Rattle.jpath_texts.proofs.output.entry_lines.add_member_lines.Given as goal

abbrev pub invariant-loop-member : goal.invariant-loop-member
invariant-loop-member l = record {
  numbers : MembersHaveNumbers (members_view (drop l.member-index l.member-items));
  written : l.out.items ++ lines_of_entries l.has_values l.line (entries_of_members (members_view (drop l.member-index l.member-items)))
      ≡ l.initial.out.items ++ lines_of_entries l.has_values l.line (entries_of_members (members_view l.member-items));
}
