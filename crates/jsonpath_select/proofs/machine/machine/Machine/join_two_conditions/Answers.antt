use Rattle.std.proofs.Common.{ap₂, ◌∙◌}
use Rattle.jsonpath_select.specs.plan.Code as code
use Rattle.jsonpath_select.specs.plan.Machine.{joined_tags}
use Rattle.jsonpath_select.proofs.machine.StepLemmas.{inside_frames, joins_two, two_first, two_second, joins_conditions, join_done}
use Rattle.jsonpath_select.proofs.machine.machine.Machine.join_two_conditions.Goals as goal

pub pop_top-right-requires : goal.pop_top-right-requires
pop_top-right-requires g c = let h = c.requires in two_first g.M.Mark.located g.M.Mark.stand g.M.Mark.content c.args.self.now.text.now h.0 c.args.stacks.now.operands.items (joins_two g.M.Mark.located g.M.Mark.stand g.M.Mark.content c.args.self.now.text.now h.0 c.args.op h.1.frames h.1.operands h.2 c.args.stacks.now.operands.items h.3.1 h.4)

pub pop_top-left-requires : goal.pop_top-left-requires
pop_top-left-requires g c =
    let h = c.requires in
    two_second g.M.Mark.located g.M.Mark.stand g.M.Mark.content c.args.self.now.text.now h.0 c.args.stacks.now.operands.items c.pop_top-right.new.stack.items c.pop_top-right.result (joins_two g.M.Mark.located g.M.Mark.stand g.M.Mark.content c.args.self.now.text.now h.0 c.args.op h.1.frames h.1.operands h.2 c.args.stacks.now.operands.items h.3.1 h.4) c.pop_top-right.ensures

pub candidate_count-count-requires : goal.candidate_count-count-requires
candidate_count-count-requires g c = let h = c.requires in inside_frames g.M.Mark.located g.M.Mark.stand g.M.Mark.content c.args.self.now.text.now h.0 (code.joins c.args.op) h.1.frames h.1.operands h.2 c.args.stacks.now.frames.items h.3.0 h.4

pub condition_tags-requires : goal.condition_tags-requires
condition_tags-requires g c =
    let h = c.requires in
    ((joins_conditions g.M.Mark.located g.M.Mark.stand g.M.Mark.content c.args.self.now.text.now h.0 c.args.op h.1.frames h.1.operands h.2 c.args.stacks.now.operands.items c.pop_top-right.new.stack.items c.pop_top-left.new.stack.items c.pop_top-right.result c.pop_top-left.result h.3.1 h.4 c.pop_top-right.ensures c.pop_top-left.ensures).0)

pub condition_tags-requires-2 : goal.condition_tags-requires-2
condition_tags-requires-2 g c =
    let h = c.requires in
    ((joins_conditions g.M.Mark.located g.M.Mark.stand g.M.Mark.content c.args.self.now.text.now h.0 c.args.op h.1.frames h.1.operands h.2 c.args.stacks.now.operands.items c.pop_top-right.new.stack.items c.pop_top-left.new.stack.items c.pop_top-right.result c.pop_top-left.result h.3.1 h.4 c.pop_top-right.ensures c.pop_top-left.ensures).1)

pub returns : goal.returns
returns g c = λ doc s t h e.
    join_done g.M.Mark.located g.M.Mark.stand g.M.Mark.content c.args.self.now.text.now doc c.args.op s.frames s.operands t c.args.stacks.now.frames.items c.candidate_count-count.ensures.0 c.candidate_count-count.ensures.1 c.args.stacks.now.operands.items c.pop_top-right.new.stack.items c.pop_top-left.new.stack.items
    c.push.new.self.items c.pop_top-right.result c.pop_top-left.result _ c.candidate_count-count.result c.in_ok-lefts.lefts.items c.in_ok-rights.rights.items c.in_ok-tags.tags.items h.0 h.1 e c.candidate_count-count.ensures.2 c.candidate_count-count.ensures.3
    c.pop_top-right.ensures c.pop_top-left.ensures (λ o shows. c.in_ok-lefts.ensures c.args.self.now.text.now doc o shows) (λ o shows. c.in_ok-rights.ensures c.args.self.now.text.now doc o shows)
    (c.in_ok-tags.ensures ∙ ap₂ (joined_tags c.args.op 0 c.candidate_count-count.result) c.as_slice.ensures.value c.as_slice-2.ensures.value) (λ ts same. same) c.in_ok-push.ensures.items
