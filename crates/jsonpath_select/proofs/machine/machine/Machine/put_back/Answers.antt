use Rattle.std.proofs.Common.{ℕ, List, map, ap, ◌∙◌, subst}
use Rattle.jsonpath_select.specs.plan.Machine.{kept_by_number, places}
use Rattle.jsonpath_select.specs.plan.Shown.{Shows}
use Rattle.jsonpath_select.proofs.machine.LeadTopLemmas.{back_first, back_second, back_done}
use Rattle.jsonpath_select.proofs.machine.machine.Machine.put_back.Goals as goal

pub pop_marks-passed-requires : goal.pop_marks-passed-requires
pop_marks-passed-requires g c = let h = c.requires in back_first g.M.Mark.located g.M.Mark.stand g.M.Mark.content c.args.self.now.text.now h.0 h.1.frames h.1.operands h.2 c.args.stacks.now.operands.items h.3.1 h.4

pub pop_marks-is_shared-requires : goal.pop_marks-is_shared-requires
pop_marks-is_shared-requires g c =
    let h = c.requires in
    back_second g.M.Mark.located g.M.Mark.stand g.M.Mark.content c.args.self.now.text.now h.0 h.1.frames h.1.operands h.2 c.args.stacks.now.operands.items c.pop_marks-passed.new.operands.items c.pop_marks-passed.result h.3.1 h.4 c.pop_marks-passed.ensures

pub returns : goal.returns
returns g c = λ doc s t h e.
    back_done g.M.Mark.located g.M.Mark.stand g.M.Mark.content c.args.self.now.text.now doc s.frames s.operands t c.args.stacks.now.frames.items c.pop_marks-passed.result c.pop_marks-is_shared.result c.in_ok-pairs.pairs
    c.args.stacks.now.operands.items c.pop_marks-passed.new.operands.items c.pop_marks-is_shared.new.operands.items c.push_top.new.stack.items h.0 h.1 e c.pop_marks-passed.ensures c.pop_marks-is_shared.ensures
    (λ ms ps passed shows.
    let numbers = c.in_ok-indexes.ensures doc (places ps) ms (ap (map _) c.as_slice-marks.ensures.value ∙ shows.1) (ap (map _) c.as_slice.ensures.value ∙ passed) in
    subst (λ (ns : List ℕ). Shows g.M.Mark.located g.M.Mark.stand g.M.Mark.content doc (kept_by_number 0 ns ps) c.in_ok-pairs.pairs) (c.as_slice-2.ensures.value ∙ numbers) (c.in_ok-pairs.ensures doc ps shows))
    c.in_ok-push_top.ensures
