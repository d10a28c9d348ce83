use Rattle.std.proofs.Common.{List, [], false, sym, subst}
use Rattle.jsonpath_nodes.specs.document.OfData.{value_document}
use Rattle.jsonpath_nodes.specs.place.SpotPlace.{Spot}
use Rattle.jsonpath_paths.specs.tree.View.{path_of}
use Rattle.jsonpath_select.specs.Meaning.{sel, SelectsSpots}
use Rattle.jsonpath_select.proofs.walk.MarkLemmas.{contents-at}
use Rattle.jsonpath_select.proofs.answer.select.values_by_walk.Goals as goal

pub returns-in-Ok-clause-ok : goal.returns-in-Ok-clause-ok
returns-in-Ok-clause-ok c =
    let doc = value_document c.args.json.now in
    let p = path_of c.args.path.tree.now in
    record {
      path = p;
      spelled = c.requires.spelled;
      holds = contents-at false (λ m. []) (λ m. value_document m.now) doc (sel c.args.path.text.now doc p) c.in-Ok.found.items c.in-Ok.ensures;
    }

pub returns-in_ok-found-in-Err-NeedsLocations-clause-ok : goal.returns-in_ok-found-in-Err-NeedsLocations-clause-ok
returns-in_ok-found-in-Err-NeedsLocations-clause-ok c =
    let text = c.args.path.text.now in
    let doc = value_document c.args.json.now in
    c.in_ok-found-in-Err-NeedsLocations.ensures text doc (subst (λ (ss : List Spot). SelectsSpots text doc ss) (sym c.as_slice.ensures.value) c.in_ok-spots-in-Err-NeedsLocations.ensures.ok)
