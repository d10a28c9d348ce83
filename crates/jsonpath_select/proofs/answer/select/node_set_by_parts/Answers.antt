use Rattle.std.proofs.Common.{true, subst}
use Rattle.std.proofs.lemmas.Result.{IfOk-weaker}
use Rattle.jsonpath_nodes.specs.document.Document.{Document}
use Rattle.jsonpath_nodes.specs.place.SpotPlace.{place_location, place_value}
use Rattle.jsonpath_select.specs.Meaning.{sel}
use Rattle.jsonpath_select.specs.plan.NextFilter.{AreASetAt}
use Rattle.jsonpath_select.proofs.answer.select.node_set_by_parts.Goals as goal

pub select_set_by_tokens-requires : goal.select_set_by_tokens-requires
select_set_by_tokens-requires g c = (c.requires.listed.path, c.requires.listed.holds)

pub returns : goal.returns
returns g c =
    let listed = c.requires.listed in
    IfOk-weaker c.select_set_by_tokens.result _ _
    (λ found set. record {
      path = listed.path;
      spelled = listed.spelled;
      holds = subst (λ (doc : Document). AreASetAt true (place_location g.T.Name.Name.bytes) (place_value g.T.Tree.content) doc (sel c.args.path.text.now doc listed.path) found.items) c.at_root.ensures.value (set listed.path listed.holds);
    })
    c.select_set_by_tokens.ensures
