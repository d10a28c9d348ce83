use Rattle.jsonpath_select.specs.plan.Code as code
use Rattle.jsonpath_select.proofs.machine.StepLemmas.{inside_frames, compares_two, two_first, two_second, compares_terms, compare_done}
use Rattle.jsonpath_select.proofs.machine.machine.Machine.compare_two_operands.Goals as goal

pub pop_top-right-requires : goal.pop_top-right-requires
pop_top-right-requires g c = let h = c.requires in two_first g.M.Mark.located g.M.Mark.stand g.M.Mark.content c.args.self.now.text.now h.0 c.args.stacks.now.operands.items (compares_two g.M.Mark.located g.M.Mark.stand g.M.Mark.content c.args.self.now.text.now h.0 c.args.op h.1.frames h.1.operands h.2 c.args.stacks.now.operands.items h.3.1 h.4)

pub pop_top-left-requires : goal.pop_top-left-requires
pop_top-left-requires g c =
    let h = c.requires in
    two_second g.M.Mark.located g.M.Mark.stand g.M.Mark.content c.args.self.now.text.now h.0 c.args.stacks.now.operands.items c.pop_top-right.new.stack.items c.pop_top-right.result (compares_two g.M.Mark.located g.M.Mark.stand g.M.Mark.content c.args.self.now.text.now h.0 c.args.op h.1.frames h.1.operands h.2 c.args.stacks.now.operands.items h.3.1 h.4) c.pop_top-right.ensures

pub candidate_count-requires : goal.candidate_count-requires
candidate_count-requires g c = let h = c.requires in inside_frames g.M.Mark.located g.M.Mark.stand g.M.Mark.content c.args.self.now.text.now h.0 (code.compares c.args.op) h.1.frames h.1.operands h.2 c.args.stacks.now.frames.items h.3.0 h.4

pub tags_where_comparison_holds-requires : goal.tags_where_comparison_holds-requires
tags_where_comparison_holds-requires g c =
    let h = c.requires in
    let terms = compares_terms g.M.Mark.located g.M.Mark.stand g.M.Mark.content c.args.self.now.text.now h.0 c.args.op h.1.frames h.1.operands h.2 c.args.stacks.now.operands.items c.pop_top-right.new.stack.items c.pop_top-left.new.stack.items c.pop_top-right.result c.pop_top-left.result h.3.1 h.4 c.pop_top-right.ensures c.pop_top-left.ensures in
    record { left = terms.0; right = terms.1 }

pub returns : goal.returns
returns g c = λ doc s t h e.
    compare_done g.M.Mark.located g.M.Mark.stand g.M.Mark.content c.args.self.now.text.now doc c.args.op s.frames s.operands t c.args.stacks.now.frames.items c.candidate_count.ensures.0 c.candidate_count.ensures.1 c.args.stacks.now.operands.items c.pop_top-right.new.stack.items c.pop_top-left.new.stack.items
    c.push_top.new.stack.items c.pop_top-right.result c.pop_top-left.result _ c.candidate_count.result c.in_ok-tags.tags.items h.0 h.1 e c.candidate_count.ensures.2 c.candidate_count.ensures.3 c.pop_top-right.ensures c.pop_top-left.ensures
    (λ a b on_left on_right. c.in_ok-tags.ensures doc a b on_left on_right) (λ ts same. same) c.in_ok-push_top.ensures
