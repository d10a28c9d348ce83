use Rattle.json.specs.Tree.{HasNumbers}
use Rattle.json.specs.Value.{value_view}
use Rattle.jpath_texts.proofs.output.entry_lines.add_entry_lines.Goals as goal

pub add_lines_of_entries-requires : goal.add_lines_of_entries-requires
add_lines_of_entries-requires c =
    let keeps : HasNumbers (value_view c.args.value.now) → HasNumbers (value_view c.in-Some.made) = rw c.in-Some.is at c.in_ok-made.ensures.writable in keeps c.requires
