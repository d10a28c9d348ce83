use Rattle.json.specs.Tree.{HasNumbers}
use Rattle.json.specs.Value.{value_view}
use Rattle.jpath_texts.proofs.output.value_text.add_value_in_look.Goals as goal

pub add_value_with_members_kept-requires : goal.add_value_with_members_kept-requires
add_value_with_members_kept-requires c =
    let keeps : HasNumbers (value_view c.args.value.now) → HasNumbers (value_view c.in-Some.made) = rw c.in-Some.is at c.in_ok-made.ensures.writable in keeps c.requires
