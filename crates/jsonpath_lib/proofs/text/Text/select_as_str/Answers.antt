use Rattle.std.proofs.Common.{Err, map, string_bytes, ap, ◌∙◌, subst}
use Rattle.json_trees.specs.AsRead.{text_document}
use Rattle.json_trees.specs.Prints.{IsCompactListText, IsUnreadList}
use Rattle.jsonpath_lib.proofs.TextLemmas.{text_of_selected, no_text_of_selected}
use Rattle.jsonpath_lib.proofs.text.Text.select_as_str.Goals as goal

pub returns-in-Ok-clause-ok : goal.returns-in-Ok-clause-ok
returns-in-Ok-clause-ok g c document tree =
    let found = map text_document c.in_ok-found.found.items in
    text_of_selected (g.P.AnyPath.spelling c.args.path.now) document found (c.in_ok-found.ensures.ok document tree) (string_bytes c.in-Ok.line)
    (subst (λ vs. IsCompactListText (map text_document vs) (string_bytes c.in-Ok.line)) c.as_slice.ensures.value c.in-Ok.ensures.ok)

pub returns-clause-refused : goal.returns-clause-refused
returns-clause-refused g c document tree =
    let found = map text_document c.in_ok-found.found.items in
    no_text_of_selected (g.P.AnyPath.spelling c.args.path.now) document found (c.in_ok-found.ensures.ok document tree) c.in-Err.unprinted c.why_unprinted.result c.why_unprinted.ensures
    (λ h. subst (λ vs. IsUnreadList (map text_document vs)) c.as_slice.ensures.value (c.compact_list_text.ensures.unread (c.in-Err.is ∙ ap Err h)))
