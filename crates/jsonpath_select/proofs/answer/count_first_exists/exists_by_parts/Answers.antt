use Rattle.std.proofs.Common.{◌==◌, length, refl, ap, ◌∙◌, not}
use Rattle.jsonpath_nodes.specs.place.SpotPlace.{place_location, place_value}
use Rattle.jsonpath_select.specs.Meaning.{answer, sel}
use Rattle.jsonpath_select.proofs.answer.FirstLemmas.{any_answered, some_answered}
use Rattle.jsonpath_select.proofs.answer.count_first_exists.exists_by_parts.Goals as goal

pub returns-then-is_better_by_sets : goal.returns-then-is_better_by_sets
returns-then-is_better_by_sets g c =
    let text = c.args.path.text.now in
    let doc = g.T.Tree.content c.args.root in
    let set = c.in_ok-set.ensures in (
      answer text doc set.path,
      record { path = set.path; spelled = set.spelled; holds = refl },
      ap not
          (c.is_empty.ensures ∙ ap (λ nodes. length nodes == 0) c.as_slice.ensures.value
          ∙ any_answered c.locations_once_in_order_ascend.ensures.members (place_location g.T.Name.Name.bytes) (place_value g.T.Tree.content) doc c.in_ok-set.set.items set.holds.0 (sel text doc set.path) set.holds.1 set.holds.2),
    )

pub returns : goal.returns
returns g c =
    let told = c.in_ok-first.ensures in
    (told.0, told.1, c.is_some.ensures ∙ some_answered g.T.Tree.content c.in_ok-first.first told.0 told.2)
