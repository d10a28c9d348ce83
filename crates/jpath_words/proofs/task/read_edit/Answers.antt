use Rattle.std.proofs.Common.{refl, ◌∙◌}
use Rattle.jpath_words.proofs.task.read_edit.Goals as goal

pub returns : goal.returns
returns g c = record {
  words_kept = refl;
  path = c.in_ok-query.ensures ∙ c.path.ensures;
  value = c.in_ok-value.ensures;
}
