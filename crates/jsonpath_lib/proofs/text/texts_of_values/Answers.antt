use Rattle.std.proofs.Common.{Err, map, string_bytes, arith, ap, ◌∙◌}
use Rattle.std.proofs.lemmas.List.{map-append}
use Rattle.json_trees.specs.AsRead.{text_document}
use Rattle.jsonpath_lib.proofs.TextLemmas.{no_text_yet, one_text_more, no_texts}
use Rattle.jsonpath_lib.proofs.text.texts_of_values.Goals as goal

pub loop-value-init : goal.loop-value-init
loop-value-init c = no_text_yet (map string_bytes c.in_ok-texts.texts.items) (ap (map string_bytes) c.in_ok-texts.ensures.items)

pub loop-value-preserved : goal.loop-value-preserved
loop-value-preserved c =
    one_text_more text_document c.args.values.now (map string_bytes c.loop-value.texts.items) (map string_bytes c.push.new.self.items) c.loop-value.value-index c.value-item.result (string_bytes c.in-Ok.text) (omega arith) c.value-item.is c.in-Ok.ensures.ok
    (ap (map string_bytes) c.in_ok-push-in-Ok.ensures.items ∙ map-append string_bytes _ _) c.loop-value.invariant

pub returns-in-Err-clause-refused : goal.returns-in-Err-clause-refused
returns-in-Err-clause-refused c =
    no_texts text_document c.args.values.now c.loop-value.value-index c.value-item.result c.in-Err.unprinted c.why_unprinted.result (omega arith) c.value-item.is c.why_unprinted.ensures
    (λ h. c.compact_text.ensures.unread (c.in-Err.is ∙ ap Err h))
