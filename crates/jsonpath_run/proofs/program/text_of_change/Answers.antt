use Rattle.std.proofs.Common.{string_bytes}
use Rattle.std.proofs.lemmas.Result.{IfErr-weaker, IfOk-weaker}
use Rattle.serde_json.specs.Data.{Data}
use Rattle.jsonpath_nodes.specs.document.OfData.{document_of}
use Rattle.jsonpath_lib.specs.Text.{IsTreeOf, IsTextOfChanged, IsChangedTextRefused}
use Rattle.jsonpath_lib.specs.update.Masked.{IsMasked, AreRemoved}
use Rattle.jsonpath_run.specs.Output.{IsChange}
use Rattle.jsonpath_run.proofs.ChangeLemmas.{masked_text, masked_refusal, removed_text, removed_refusal}
use Rattle.jsonpath_run.proofs.program.text_of_change.Goals as goal

pub returns-in-Delete-clause-ok : goal.returns-in-Delete-clause-ok
returns-in-Delete-clause-ok c =
    IfOk-weaker c.mask_as_str.result (λ text. (before : Data) → IsTreeOf c.args.document.now before → IsTextOfChanged (IsMasked c.args.paths.now (document_of before)) (string_bytes text))
    (λ text. (before : Data) → IsTreeOf c.args.document.now before → IsTextOfChanged (IsChange c.args.command c.args.paths.now (document_of before)) (string_bytes text))
    (λ text said before tree. masked_text c.args.command c.args.paths.now (document_of before) c.requires.count c.in-Delete.is (string_bytes text) (said before tree)) c.mask_as_str.ensures.ok

pub returns-in-Delete-clause-refused : goal.returns-in-Delete-clause-refused
returns-in-Delete-clause-refused c =
    IfErr-weaker c.mask_as_str.result (λ e. (before : Data) → IsTreeOf c.args.document.now before → IsChangedTextRefused (IsMasked c.args.paths.now (document_of before)) e)
    (λ e. (before : Data) → IsTreeOf c.args.document.now before → IsChangedTextRefused (IsChange c.args.command c.args.paths.now (document_of before)) e)
    (λ e said before tree. masked_refusal c.args.command c.args.paths.now (document_of before) c.requires.count c.in-Delete.is e (said before tree)) c.mask_as_str.ensures.refused

pub returns-in-Remove-clause-ok : goal.returns-in-Remove-clause-ok
returns-in-Remove-clause-ok c =
    IfOk-weaker c.remove_as_str.result (λ text. (before : Data) → IsTreeOf c.args.document.now before → IsTextOfChanged (AreRemoved c.args.paths.now (document_of before)) (string_bytes text))
    (λ text. (before : Data) → IsTreeOf c.args.document.now before → IsTextOfChanged (IsChange c.args.command c.args.paths.now (document_of before)) (string_bytes text))
    (λ text said before tree. removed_text c.args.command c.args.paths.now (document_of before) c.requires.count c.in-Remove.is (string_bytes text) (said before tree)) c.remove_as_str.ensures.ok

pub returns-in-Remove-clause-refused : goal.returns-in-Remove-clause-refused
returns-in-Remove-clause-refused c =
    IfErr-weaker c.remove_as_str.result (λ e. (before : Data) → IsTreeOf c.args.document.now before → IsChangedTextRefused (AreRemoved c.args.paths.now (document_of before)) e)
    (λ e. (before : Data) → IsTreeOf c.args.document.now before → IsChangedTextRefused (IsChange c.args.command c.args.paths.now (document_of before)) e)
    (λ e said before tree. removed_refusal c.args.command c.args.paths.now (document_of before) c.requires.count c.in-Remove.is e (said before tree)) c.remove_as_str.ensures.refused
