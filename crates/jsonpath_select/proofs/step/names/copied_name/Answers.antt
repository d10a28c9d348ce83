use Rattle.std.proofs.Common.{sym, ap, ◌∙◌, encode_utf8_all}
use Rattle.std.proofs.lemmas.Str.{encodes-chars}
use Rattle.jsonpath_select.proofs.step.names.copied_name.Goals as goal

pub returns-in_ok-from_str-in-None : goal.returns-in_ok-from_str-in-None
returns-in_ok-from_str-in-None c =
    c.in_ok-from_str-in-None.ensures.ok ∙ sym (encodes-chars c.args.whole.now c.utf8.whole) ∙ ap encode_utf8_all (sym c.in-None.ensures)
