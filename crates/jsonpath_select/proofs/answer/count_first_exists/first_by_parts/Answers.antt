use Rattle.std.proofs.Common.{[], Some, true, false, refl, ap, ◌∙◌, subst, option_map, slice_get}
use Rattle.jsonpath_nodes.specs.document.Document.{Document}
use Rattle.jsonpath_nodes.specs.place.SpotPlace.{place_location, place_value}
use Rattle.jsonpath_select.specs.Meaning.{answer, sel}
use Rattle.jsonpath_select.specs.plan.First.{BeginAs}
use Rattle.jsonpath_select.proofs.answer.FirstLemmas.{first_answered}
use Rattle.jsonpath_select.proofs.answer.count_first_exists.first_by_parts.Goals as goal

pub returns-in-Some : goal.returns-in-Some
returns-in-Some g c =
    let text = c.args.path.text.now in
    let doc = g.T.Tree.content c.args.root in
    let p = c.requires.listed.path in (
      answer text doc p,
      record { path = p; spelled = c.requires.listed.spelled; holds = refl },
      ap (option_map g.T.Tree.content) (c.in-Some.ensures.value ∙ ap (λ vs. slice_get vs 0) c.deref.ensures.value)
          ∙ first_answered false (λ v. []) g.T.Tree.content doc (sel text doc p) c.in-Ok.found.items (c.in-Ok.ensures p c.requires.listed.holds),
    )

pub returns-in-Ok : goal.returns-in-Ok
returns-in-Ok g c =
    let text = c.args.path.text.now in
    let doc = g.T.Tree.content c.args.root in
    let p = c.requires.listed.path in (
      answer text doc p,
      record { path = p; spelled = c.requires.listed.spelled; holds = refl },
      ap (option_map g.T.Tree.content) (c.in-None.ensures.value ∙ ap (λ vs. slice_get vs 0) c.deref.ensures.value)
          ∙ first_answered false (λ v. []) g.T.Tree.content doc (sel text doc p) c.in-Ok.found.items (c.in-Ok.ensures p c.requires.listed.holds),
    )

pub returns-in-Some-first : goal.returns-in-Some-first
returns-in-Some-first g c =
    let text = c.args.path.text.now in
    let doc = g.T.Tree.content c.args.root in
    let stand = place_location g.T.Name.Name.bytes in
    let content = place_value g.T.Tree.content in
    let p = c.requires.listed.path in
    let found = c.in_ok-found-in-Err-NeedsLocations.found.items in (
      answer text doc p,
      record { path = p; spelled = c.requires.listed.spelled; holds = refl },
      ap (λ d. Some d) c.value.ensures ∙ ap (option_map content) (c.in-Some-first.ensures.value ∙ ap (λ nodes. slice_get nodes 0) c.deref-in-Err-NeedsLocations.ensures.value)
          ∙ first_answered true stand content doc (sel text doc p) found (subst (λ (d : Document). BeginAs true stand content d (sel text d p) found) c.at_root.ensures.value (c.in_ok-found-in-Err-NeedsLocations.ensures p c.requires.listed.holds)),
    )

pub returns : goal.returns
returns g c =
    let text = c.args.path.text.now in
    let doc = g.T.Tree.content c.args.root in
    let stand = place_location g.T.Name.Name.bytes in
    let content = place_value g.T.Tree.content in
    let p = c.requires.listed.path in
    let found = c.in_ok-found-in-Err-NeedsLocations.found.items in (
      answer text doc p,
      record { path = p; spelled = c.requires.listed.spelled; holds = refl },
      ap (option_map content) (c.in-None-first.ensures.value ∙ ap (λ nodes. slice_get nodes 0) c.deref-in-Err-NeedsLocations.ensures.value)
          ∙ first_answered true stand content doc (sel text doc p) found (subst (λ (d : Document). BeginAs true stand content d (sel text d p) found) c.at_root.ensures.value (c.in_ok-found-in-Err-NeedsLocations.ensures p c.requires.listed.holds)),
    )
