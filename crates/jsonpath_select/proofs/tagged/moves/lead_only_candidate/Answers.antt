use Rattle.std.proofs.Common.{◌≡◌, ◌++◌, ◌+◌, ◌-◌, ◌∙◌, ◌==◌, ℕ, List, [], length, replicate, sym, ap, ap₂, take, arith}
use Rattle.std.specs.List.{prefix_len}
use Rattle.jsonpath_select.specs.plan.Shown.{led}
use Rattle.jsonpath_select.proofs.tagged.GroupLemmas.{turn_begins, turn_next, turn_done, filled}
use Rattle.jsonpath_select.proofs.tagged.moves.lead_only_candidate.Goals as goal

pub fill_tags-requires : goal.fill_tags-requires
fill_tags-requires g c = let none : length c.emptied_or_new_list-tags.result.items ≡ 0 = ap length c.emptied_or_new_list-tags.ensures in omega (arith, none)

pub returns : goal.returns
returns g c = λ doc ps are.
    let way = led doc c.args.by in
    let end : ℕ = c.candidate_end_in_tags-end.result in
    let old = c.args.pairs.marks.items in
    let found = c.in_ok-marks.marks.items in
    let size : end - 0 ≡ end = omega arith in
    let ends : end ≡ 0 + prefix_len (λ u. u == 0) c.args.pairs.tags.items = c.candidate_end_in_tags-end.ensures.run ∙ ap (λ (tags : List ℕ). 0 + prefix_len (λ u. u == 0) tags) c.as_slice.ensures.value in
    let slice : take end c.as_slice-2.result.now ≡ take (end - 0) old =
    ap₂ (λ (k : ℕ) (marks : List g.row.M.Denot). take k marks) (sym size) c.as_slice-2.ensures.value in
    let longer : length found ≡ 0 + length found = omega arith in
    let tags : c.fill_tags.new.tags.items ≡ [] ++ replicate (length found) 0 =
    filled 0 (length c.as_slice-4.result.now) (length found) [] (ap length c.as_slice-4.ensures.value ∙ longer) (c.in_ok-fill_tags.ensures ∙ ap (λ (ts : List ℕ). ts ++ replicate (length c.as_slice-4.result.now - length ts) 0) c.emptied_or_new_list-tags.ensures) in
    turn_done g.M.Mark.located g.M.Mark.stand g.M.Mark.content doc way ps 1 1 end c.fill_tags.new.tags.items found (omega arith)
    (turn_next g.M.Mark.located g.M.Mark.stand g.M.Mark.content doc way ps c.args.pairs.tags.items old 1 0 0 end (length found) [] c.fill_tags.new.tags.items [] found (take end c.as_slice-2.result.now)
    are (omega arith) ends slice longer tags (λ ls h. c.in_ok-marks.ensures doc ls h) (turn_begins g.M.Mark.located g.M.Mark.stand g.M.Mark.content doc way ps 1))
