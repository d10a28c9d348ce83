use Rattle.std.proofs.Common.{true, subst}
use Rattle.std.proofs.lemmas.Result.{IfOk-weaker}
use Rattle.jsonpath_nodes.specs.document.Document.{Document}
use Rattle.jsonpath_nodes.specs.place.Mark.{MarksStandAt}
use Rattle.jsonpath_nodes.specs.place.SpotPlace.{place_location, place_value}
use Rattle.jsonpath_select.specs.Meaning.{sel}
use Rattle.jsonpath_select.proofs.answer.select.nodes_by_tokens.Goals as goal

pub select_by_tokens-requires : goal.select_by_tokens-requires
select_by_tokens-requires g c = c.requires

pub returns : goal.returns
returns g c =
    IfOk-weaker c.select_by_tokens.result _ _
    (λ found stands p is. subst (λ (doc : Document). MarksStandAt true (place_location g.T.Name.Name.bytes) (place_value g.T.Tree.content) doc (sel c.args.text.now doc p) found.items) c.at_root.ensures.value (stands p is))
    c.select_by_tokens.ensures
