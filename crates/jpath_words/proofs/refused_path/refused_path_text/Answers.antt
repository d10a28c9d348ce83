use Rattle.std.proofs.Common.{◌++◌, codes}
use Rattle.std.proofs.lemmas.Result.{IfOk-weaker}
use Rattle.jpath_words.proofs.refused_path.refused_path_text.Goals as goal

pub returns : goal.returns
returns c =
    IfOk-weaker c.format.result _ _
    (λ text e. record {
      what = c.if-at-path.what.now;
      below = c.as_str-blanks.result.now ++ (codes "^\n" ++ (c.as_str-expected.result.now ++ c.as_str-hint.result.now));
      shown = e;
    }) c.format.ensures.ok
