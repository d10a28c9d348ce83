use Rattle.std.proofs.Common.{◌≡◌, ℕ, List, IfOk, map, drop, ap, subst, ◌∙◌, arith}
use Rattle.std.proofs.lemmas.List.{drop_all}
use Rattle.json.specs.Value.{members_view}
use Rattle.json_trees.specs.OrderedTree.{places}
use Rattle.json_trees.specs.TreeOrder.{by_names}
use Rattle.json_trees.proofs.PlacesLemmas.{listed_places, places_named}
use Rattle.json_trees.proofs.ordered_tree.places.places_of_members.Goals as goal

pub returns : goal.returns
returns c =
    let l = c.loop-place in
    let xs = c.args.members.now in
    let sorted = c.sort_by_name.new.named.items in
    let all : by_names sorted ≡ places (members_view xs) = c.in_ok-sort_by_name.ensures ∙ listed_places l.place xs (drop l.place xs) l.found.items (drop_all l.place xs (omega (arith, c.loop-place-test.false))) l.invariant in
    subst (λ ns. IfOk c.second_of_each.result (λ made. made.items ≡ ns)) (ap (map (λ e. e.1)) c.as_slice.ensures.value ∙ places_named sorted ∙ ap (map (λ (e : List ℕ × ℕ). e.1)) all) c.second_of_each.ensures
