use Rattle.std.proofs.Common.{Option, ◌≡◌, ◌++◌, ◌+◌, [], ◌∷◌, length, replicate, sym, ap, ◌∙◌, arith}
use Rattle.jsonpath_nodes.specs.step.Steps.{step, named}
use Rattle.jsonpath_nodes.specs.document.Document.{Document}
use Rattle.jsonpath_nodes.specs.place.Location.{Location}
use Rattle.jsonpath_select.proofs.tagged.GroupLemmas.{spread_next, spread_done, paired, filled}
use Rattle.jsonpath_select.proofs.tagged.start_of_paths.members_named.Goals as goal

pub fill_tags-requires : goal.fill_tags-requires
fill_tags-requires g c =
    let whole : length c.as_slice.result.now ≡ length c.loop-tag.marks.items + c.in_ok-add_named_member.ensures.0 = ap length c.as_slice.ensures.value ∙ c.in_ok-add_named_member.ensures.1 in
    omega (arith, whole, c.loop-tag.invariant.0)

pub loop-tag-preserved : goal.loop-tag-preserved
loop-tag-preserved g c =
    let n = c.in_ok-add_named_member.ensures.0 in
    let longer : length c.add_named_member.new.out.items ≡ length c.loop-tag.marks.items + n = c.in_ok-add_named_member.ensures.1 in
    let all : length c.as_slice.result.now ≡ length c.loop-tag.tags.items + n = ap length c.as_slice.ensures.value ∙ longer ∙ ap (λ m. m + n) (sym c.loop-tag.invariant.0) in
    let tags : c.fill_tags.new.tags.items ≡ c.loop-tag.tags.items ++ replicate n c.loop-tag.tag = filled c.loop-tag.tag (length c.as_slice.result.now) n c.loop-tag.tags.items all c.in_ok-fill_tags.ensures in (
      paired c.loop-tag.tag n c.loop-tag.tags.items c.fill_tags.new.tags.items tags ∙ ap (λ m. m + n) c.loop-tag.invariant.0 ∙ sym longer,
      λ doc ls stand.
          spread_next g.M.Mark.located g.M.Mark.stand g.M.Mark.content doc (λ k. step doc (named c.args.name.now) (k ∷ [])) ls c.loop-tag.tag n c.args.candidates.now c.index-candidates-tag.result
          c.loop-tag.tags.items c.fill_tags.new.tags.items c.loop-tag.marks.items c.add_named_member.new.out.items
          stand c.index-candidates-tag.is c.loop-tag-test.true longer tags (λ l here. c.in_ok-add_named_member.ensures.2 doc (l ∷ []) (ap (λ (x : Location × Option Document). x ∷ []) here)) (c.loop-tag.invariant.1 doc ls stand),
    )

pub returns : goal.returns
returns g c = λ doc ls stand.
    spread_done g.M.Mark.located g.M.Mark.stand g.M.Mark.content doc (λ k. step doc (named c.args.name.now) (k ∷ [])) ls c.loop-tag.tag c.args.candidates.now c.loop-tag.tags.items c.loop-tag.marks.items c.loop-tag-test.false stand (c.loop-tag.invariant.1 doc ls stand)
