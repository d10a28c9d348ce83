use Rattle.std.proofs.Common.{◌≡◌, suc, ◌-◌, length, map, refl, sym, ap, ◌∙◌, arith}
use Rattle.std.specs.Prelude.{option_map}
use Rattle.std.proofs.lemmas.Option.{slice_get-map, slice_get_read}
use Rattle.json.specs.Value.{value_view}
use Rattle.json_trees.specs.Way.{last_of, passed_view}
use Rattle.json_trees.proofs.WayLemmas.{last_there}
use Rattle.json_trees.proofs.ordered_tree.way.value_behind.Goals as goal

pub returns-else-count-eq0 : goal.returns-else-count-eq0
returns-else-count-eq0 c =
    let passed = c.args.passed.now in
    let before = c.args.count - 1 in
    let last = c.index-passed-count.result in
    let next : suc before ≡ c.args.count = omega (arith, c.if-count-eq0.false) in
    let there = slice_get_read passed (length passed) before last refl (omega (arith, c.requires, next)) c.index-passed-count.is in
    let root = value_view c.args.root.value.now in
    ap (λ p. value_view p.value.value.now) (sym c.index-passed-count.is)
    ∙ sym (last_there root (map passed_view passed) before (passed_view last) (slice_get-map passed_view passed before ∙ ap (option_map passed_view) there))
    ∙ ap (last_of root (map passed_view passed)) next
