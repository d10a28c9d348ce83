use Rattle.std.proofs.Common.{sym}
use Rattle.jsonpath_select.proofs.step.QuotedLemmas.{but_last}
use Rattle.jsonpath_select.proofs.step.names.without_last_character.Goals as goal

pub returns : goal.returns
returns c =
    but_last (λ s. s.rest.now) c.next_back.result c.chars-chars.result c.next_back.new.self c.args.text.now c.as_str.result.now c.utf8.text c.as_str.utf8 (sym c.chars-chars.ensures.rest) c.as_str.ensures c.next_back.ensures.steps
