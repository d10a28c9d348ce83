use Rattle.std.proofs.Common.{◌≡◌, ℕ, ◌+◌, ◌-◌, List, [], ◌++◌, map, length, replicate, refl, sym, ap, ◌∙◌, arith}
use Rattle.jsonpath_nodes.specs.place.Mark.{look_kept}
use Rattle.jsonpath_select.proofs.tagged.GroupLemmas.{places_tagged, tags_tagged, filled}
use Rattle.jsonpath_select.proofs.walk.MarkLemmas.{length-marks}
use Rattle.jsonpath_select.proofs.tagged.shared_lists.marks_shared_by_candidates.Goals as goal

pub returns : goal.returns
returns g c = λ doc ls stand.
    let marks = c.args.marks.items in
    let same : length marks ≡ length ls = length-marks g.M.Mark.located g.M.Mark.stand g.M.Mark.content doc ls marks stand in
    let longer : length marks ≡ 0 + length marks = omega arith in
    let tags = filled 0 (length c.as_slice-count.result.now) (length marks) [] (ap length c.as_slice-count.ensures.value ∙ longer) (c.in_ok-fill_tags.ensures ∙ ap (λ (ts : List ℕ). ts ++ replicate (length c.as_slice-count.result.now - length ts) 0) c.in_ok-tags.ensures.items) in
    (refl, (tags ∙ (ap (λ n. replicate n 0) same ∙ sym (tags_tagged 0 ls)), stand ∙ ap (map (look_kept g.M.Mark.located doc)) (sym (places_tagged 0 ls))))
