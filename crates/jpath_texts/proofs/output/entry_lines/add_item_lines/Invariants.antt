use Rattle.std.proofs.Common.{◌≡◌, ◌++◌, drop}
use Rattle.json.specs.Tree.{ItemsHaveNumbers}
use Rattle.json.specs.Value.{items_view}
use Rattle.jpath_texts.specs.Entries.{entries_of_items, lines_of_entries}
use Rattle.jpath_texts.proofs.output.entry_lines.add_item_lines.Given as goal

abbrev pub invariant-loop-index : goal.invariant-loop-index
invariant-loop-index l = record {
  numbers : ItemsHaveNumbers (items_view (drop l.index l.items.items));
  written : l.out.items ++ lines_of_entries l.has_values l.line (entries_of_items l.index (items_view (drop l.index l.items.items)))
      ≡ l.initial.out.items ++ lines_of_entries l.has_values l.line (entries_of_items 0 (items_view l.items.items));
}
