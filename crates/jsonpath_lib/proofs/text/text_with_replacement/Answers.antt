use Rattle.std.proofs.Common.{Err, map, string_bytes, ap, ◌∙◌}
use Rattle.json_trees.specs.AsRead.{text_document}
use Rattle.jsonpath_nodes.specs.place.SpotPlace.{step_of}
use Rattle.jsonpath_lib.proofs.TextLemmas.{text_of_changed, no_text_of_changed}
use Rattle.jsonpath_lib.proofs.text.text_with_replacement.Goals as goal

pub returns-in-Ok-clause-ok : goal.returns-in-Ok-clause-ok
returns-in-Ok-clause-ok c document paths same targets =
    text_of_changed c.args.replacement paths (text_document c.args.root) document (map (λ p. map step_of p.steps.now) c.args.targets.now) same targets (string_bytes c.in-Ok.text) c.in-Ok.ensures.ok

pub returns-in-Err-clause-refused : goal.returns-in-Err-clause-refused
returns-in-Err-clause-refused c document paths same targets =
    no_text_of_changed c.args.replacement paths (text_document c.args.root) document (map (λ p. map step_of p.steps.now) c.args.targets.now) same targets c.in-Err.unprinted c.why_unprinted.result c.why_unprinted.ensures
    (λ h. c.changed_text.ensures.unread (c.in-Err.is ∙ ap Err h))
