use Rattle.std.proofs.Common.{[], false, sym, subst}
use Rattle.jsonpath_select.specs.Meaning.{sel, SelectsNodes}
use Rattle.jsonpath_select.proofs.walk.MarkLemmas.{contents-at}
use Rattle.jsonpath_select.proofs.answer.select.values_in_tree.Goals as goal

pub select_by_tokens-requires : goal.select_by_tokens-requires
select_by_tokens-requires g c = (c.requires.listed.path, c.requires.listed.holds)

pub returns-in-Ok : goal.returns-in-Ok
returns-in-Ok g c =
    let doc = g.T.Tree.content c.args.root in
    let listed = c.requires.listed in
    record {
      path = listed.path;
      spelled = listed.spelled;
      holds = contents-at false (λ m. []) g.T.Tree.content doc (sel c.args.path.text.now doc listed.path) c.in-Ok.found.items (c.in-Ok.ensures listed.path listed.holds);
    }

pub returns-in_ok-found-in-Err-NeedsLocations : goal.returns-in_ok-found-in-Err-NeedsLocations
returns-in_ok-found-in-Err-NeedsLocations g c =
    let text = c.args.path.text.now in
    let doc = g.T.Tree.content c.args.root in
    c.in_ok-found-in-Err-NeedsLocations.ensures text doc
    (subst (λ ns. SelectsNodes g.T.Name.Name.bytes g.T.Tree.content text doc ns) (sym c.as_slice.ensures.value) c.in_ok-nodes-in-Err-NeedsLocations.ensures)
