use Rattle.std.proofs.Common.{ℕ, List, length, ap, subst}
use Rattle.jsonpath_select.specs.plan.Machine.{kept_by_number}
use Rattle.jsonpath_select.specs.plan.Shown.{LeadsPairs}
use Rattle.jsonpath_select.proofs.machine.StepLemmas.{leave_frames, leave_operand, leave_condition, leave_done}
use Rattle.jsonpath_select.proofs.machine.machine.Machine.end_filter.Goals as goal

pub pop_top-condition-requires : goal.pop_top-condition-requires
pop_top-condition-requires g c = let h = c.requires in leave_operand g.M.Mark.located g.M.Mark.stand g.M.Mark.content c.args.self.now.text.now h.0 h.1.frames h.1.operands h.2 c.args.stacks.now.operands.items h.3.1 h.4

pub pop_top-is_shared-requires : goal.pop_top-is_shared-requires
pop_top-is_shared-requires g c = let h = c.requires in leave_frames g.M.Mark.located g.M.Mark.stand g.M.Mark.content c.args.self.now.text.now h.0 h.1.frames h.1.operands h.2 c.args.stacks.now.frames.items h.3.0 h.4

pub condition_tags-requires : goal.condition_tags-requires
condition_tags-requires g c =
    let h = c.requires in
    (leave_condition g.M.Mark.located g.M.Mark.stand g.M.Mark.content c.args.self.now.text.now h.0 h.1.frames h.1.operands h.2 c.args.stacks.now.operands.items c.pop_top-condition.new.stack.items c.pop_top-condition.result h.3.1 h.4 c.pop_top-condition.ensures)

pub returns : goal.returns
returns g c = λ doc s t h e.
    leave_done g.M.Mark.located g.M.Mark.stand g.M.Mark.content c.args.self.now.text.now doc s.frames s.operands t c.args.stacks.now.frames.items c.pop_top-is_shared.new.stack.items c.pop_top-is_shared.result c.in_ok-pairs.pairs c.args.stacks.now.operands.items c.pop_top-condition.new.stack.items
    c.push.new.self.items c.pop_top-condition.result _ c.in_ok-tags.tags.items h.0 h.1 e c.pop_top-is_shared.ensures (ap length c.as_slice.ensures.value) c.pop_top-condition.ensures
    (λ o shows. c.in_ok-tags.ensures c.args.self.now.text.now doc o shows)
    (subst (λ (ts : List ℕ). LeadsPairs g.M.Mark.located g.M.Mark.stand g.M.Mark.content (λ d ps. kept_by_number 0 ts ps) c.pop_top-is_shared.result.pairs c.in_ok-pairs.pairs) c.as_slice-2.ensures.value c.in_ok-pairs.ensures) c.in_ok-push.ensures.items
