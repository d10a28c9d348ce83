use Rattle.std.proofs.Common.{◌++◌, codes}
use Rattle.std.proofs.lemmas.Result.{IfOk-weaker}
use Rattle.jpath_words.proofs.hints.other_tools.hint_to_begin_with_root.Goals as goal

pub returns-in-Some : goal.returns-in-Some
returns-in-Some c = IfOk-weaker c.format.result _ _ (λ hint e. record { more = codes "; " ++ c.in-Some.sentence.now; says = e }) c.format.ensures.ok

pub returns-then-is_ok : goal.returns-then-is_ok
returns-then-is_ok c = IfOk-weaker c.format-then-is_ok.result _ _ (λ hint e. record { more = codes ": write " ++ (c.as_str-fixed.result.now ++ c.if-goes_down.note.now); says = e }) c.format-then-is_ok.ensures.ok

pub returns : goal.returns
returns c = IfOk-weaker c.format-2.result _ _ (λ hint e. record { more = c.if-is_file_name.more.now; says = e }) c.format-2.ensures.ok
