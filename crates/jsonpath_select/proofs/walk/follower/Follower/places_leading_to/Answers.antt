use Rattle.std.proofs.Common.{◌≡◌, List, length, sym, ap, subst, ◌∙◌, filter}
use Rattle.jsonpath_nodes.specs.place.Location.{Location}
use Rattle.jsonpath_nodes.specs.place.NumbersWhere.{numbers_where}
use Rattle.jsonpath_paths.specs.tree.View.{inner_of}
use Rattle.jsonpath_select.specs.Meaning.{is_some_location}
use Rattle.jsonpath_select.specs.plan.LeadingOn.{is_among}
use Rattle.jsonpath_select.specs.plan.Machine.{Tagged, places, spread, itself, some_tags}
use Rattle.jsonpath_select.specs.plan.Walk.{led_in}
use Rattle.jsonpath_select.specs.plan.Shown.{Shows}
use Rattle.jsonpath_select.proofs.tagged.TagLemmas.{filter-spread, some_tags-spread}
use Rattle.jsonpath_select.proofs.walk.FollowerLemmas.{counted, kept_numbers}
use Rattle.jsonpath_select.proofs.walk.LeadingOnLemmas.{places_filter, places_itself}
use Rattle.jsonpath_select.proofs.walk.follower.Follower.places_leading_to.Goals as goal

pub returns : goal.returns
returns g c = λ ls ms here ahead.
    let located = g.M.Mark.located in
    let stand = g.M.Mark.stand in
    let content = g.M.Mark.content in
    let doc = g.M.Mark.content c.args.self.now.root.now in
    let s = c.args.step.now in
    let qs = here.0 in
    let cs = places qs in
    let count : length c.as_slice-count.result.now ≡ length cs = ap length c.as_slice-count.ensures.value ∙ counted located stand content doc qs c.args.here.now here.1 in
    let led : Location → List Location = λ l. led_in c.args.self.now.sets c.args.self.now.text.now doc (inner_of s.inner) s.leaves (itself l) in
    let test : Location → _ = λ l. is_some_location (filter (is_among ms) (led l)) in
    let next = c.in_ok-next.ensures itself cs count (c.in_ok-starts.ensures qs here.1).1 in
    let found = c.in_ok-found.ensures (spread led 0 cs) ms next ahead in
    let numbers : c.in_ok-numbers.numbers.items ≡ numbers_where test 0 cs =
    c.in_ok-numbers.ensures (filter (λ (p : Tagged). is_among ms p.1) (spread led 0 cs)) found.0
    ∙ ap (λ n. some_tags 0 n (filter (λ (p : Tagged). is_among ms p.1) (spread led 0 cs))) count
    ∙ ap (some_tags 0 (length cs)) (filter-spread (is_among ms) led 0 cs)
    ∙ some_tags-spread (λ l. filter (is_among ms) (led l)) 0 cs in
    let kept = c.in_ok-keep_marks_at_indexes.ensures doc (spread itself 0 cs) (c.in_ok-copies.ensures qs here.1).1 in
    let those = kept_numbers test (spread itself 0 cs) c.as_slice.result.now (c.as_slice.ensures.value ∙ numbers ∙ ap (numbers_where test 0) (sym (places_itself 0 cs))) in (
      filter (λ (p : Tagged). test p.1) (spread itself 0 cs),
      subst (λ (ps : List Tagged). Shows located stand content doc ps c.in_ok-keep_marks_at_indexes.field-0) those kept,
      places_filter test (spread itself 0 cs) ∙ ap (filter test) (places_itself 0 cs ∙ here.2),
    )
