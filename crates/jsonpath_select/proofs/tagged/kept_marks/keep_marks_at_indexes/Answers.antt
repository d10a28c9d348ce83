use Rattle.std.proofs.Common.{◌≡◌, ◌∷◌, ◌<◌, ◌+◌, suc, length, drop, drop-cons, sym, ap, ◌∙◌, subst, arith}
use Rattle.jsonpath_select.proofs.tagged.KeptLemmas.{KeptSoFar, left_after, is_there, keep_begins, keep_next, keep_done, same_length, all_gone}
use Rattle.jsonpath_select.proofs.tagged.kept_marks.keep_marks_at_indexes.Goals as goal

pub loop-number-init : goal.loop-number-init
loop-number-init g c =
    let gives = c.into_iter-number-iterator.ensures.into_iter_gives in
    let count = c.enumerate-number-items.ensures.count in
    record {
      left = rw (gives, count, c.enumerate-number-items.ensures.source) c.into_iter.ensures.rest;
      within = omega arith;
      same = ap length c.in_ok-tags.ensures.items ∙ sym (ap length c.in_ok-marks.ensures.items);
      kept = λ doc ps are. rw (gives, count) (keep_begins g.M.Mark.located g.M.Mark.stand g.M.Mark.content doc c.args.numbers.now ps c.in_ok-tags.tags.items c.in_ok-marks.marks.items c.in_ok-tags.ensures.items c.in_ok-marks.ensures.items);
    }

pub loop-number-preserved : goal.loop-number-preserved
loop-number-preserved g c =
    let inv = c.loop-number.invariant in
    let steps = c.in-Some.ensures.steps in
    let number = c.in-Some.number in
    let tags = c.args.pairs.tags.items in
    let marks = c.args.pairs.marks.items in
    let first_mark : drop number marks ≡ c.in-Some.mark ∷ c.next.new.self.iter.rest.items = ap (λ n. drop n marks) steps.1 ∙ sym inv.left ∙ steps.0.0 in
    let marks_there = is_there marks c.next.new.self.iter.rest.items c.in-Some.mark number first_mark in
    let tags_there : number < length tags = omega (arith, marks_there, c.args.pairs.paired) in
    let next_number : number + 1 ≡ c.next.new.self.count = ap (λ n. n + 1) steps.1 ∙ sym steps.2 in
    record {
      left = left_after marks c.next.new.self.iter.rest.items c.in-Some.mark number first_mark ∙ ap (λ n. drop n marks) next_number;
      within = c.position_past_tag-end.ensures.within;
      same = same_length g.M.Mark.located g.M.Mark.stand g.M.Mark.content _ c.index.result.now c.in-Some.mark c.loop-number.tags.items c.push_mark_if.new.tags.items c.loop-number.marks.items c.push_mark_if.new.marks.items c.in_ok-push_mark_if.ensures.tags c.in_ok-push_mark_if.ensures.marks inv.same;
      kept = λ doc ps are.
          subst (λ n. KeptSoFar g.M.Mark.located g.M.Mark.stand g.M.Mark.content doc c.args.numbers.now ps n c.position_past_tag-end.result c.push_mark_if.new.tags.items c.push_mark_if.new.marks.items) next_number
          (keep_next g.M.Mark.located g.M.Mark.stand g.M.Mark.content doc c.args.numbers.now ps tags marks number c.loop-number.from c.position_past_tag-end.result c.index.result.now c.in-Some.mark (drop (suc number) tags) c.next.new.self.iter.rest.items
          c.loop-number.tags.items c.push_mark_if.new.tags.items c.loop-number.marks.items c.push_mark_if.new.marks.items are (drop-cons tags number c.index.result.now tags_there ∙ ap (λ t. t ∷ drop (suc number) tags) (sym c.index.ensures)) first_mark
          c.position_past_tag-end.ensures.goes c.in_ok-push_mark_if.ensures.tags c.in_ok-push_mark_if.ensures.marks
          (subst (λ n. KeptSoFar g.M.Mark.located g.M.Mark.stand g.M.Mark.content doc c.args.numbers.now ps n c.loop-number.from c.loop-number.tags.items c.loop-number.marks.items) (sym steps.1) (inv.kept doc ps are)));
    }

pub returns : goal.returns
returns g c = λ doc ps shows.
    let inv = c.loop-number.invariant in
    let rest = c.loop-number.number-iterator.iter.rest in
    keep_done g.M.Mark.located g.M.Mark.stand g.M.Mark.content doc c.args.numbers.now ps c.loop-number.number-iterator.count c.loop-number.from c.loop-number.tags.items c.loop-number.marks.items
    (all_gone g.M.Mark.located g.M.Mark.stand g.M.Mark.content doc ps c.args.pairs.marks.items rest.items c.loop-number.number-iterator.count (sym rest.ok.0 ∙ c.in-None.ensures.steps.0.0) inv.left shows.1)
    (inv.kept doc ps shows)
