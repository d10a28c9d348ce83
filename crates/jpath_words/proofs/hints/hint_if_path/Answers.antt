use Rattle.std.proofs.Common.{◌++◌, codes, sym, ◌∙◌, append_assoc}
use Rattle.jpath_words.proofs.hints.hint_if_path.Goals as goal

pub returns-in-Ok : goal.returns-in-Ok
returns-in-Ok c = record {
  sentence = c.args.sentence.now ++ codes ": ";
  path = c.as_str-fixed.result.now;
  spelled = c.in-Ok.ensures.found.1;
  says = c.in_ok-hint-in-Ok.ensures.ok ∙ sym (append_assoc c.args.sentence.now (codes ": ") c.as_str-fixed.result.now);
}
