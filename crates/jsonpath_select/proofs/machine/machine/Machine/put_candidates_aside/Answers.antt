use Rattle.jsonpath_select.proofs.machine.LeadTopLemmas.{aside_frames, aside_done}
use Rattle.jsonpath_select.proofs.machine.machine.Machine.put_candidates_aside.Goals as goal

pub pop_top-candidates-requires : goal.pop_top-candidates-requires
pop_top-candidates-requires g c = let h = c.requires in aside_frames g.M.Mark.located g.M.Mark.stand g.M.Mark.content h.0 h.1.frames h.1.operands h.2 c.args.stacks.now.frames.items h.3.0 h.4

pub returns : goal.returns
returns g c = λ doc s t h e.
    aside_done g.M.Mark.located g.M.Mark.stand g.M.Mark.content c.args.self.now.text.now doc s.frames s.operands t c.args.stacks.now.frames.items c.pop_top-candidates.new.stack.items c.push_top.new.stack.items c.pop_top-candidates.result c.in_ok-distinct.distinct
    c.args.stacks.now.operands.items c.push_top-2.new.stack.items h.0 h.1 e c.pop_top-candidates.ensures
    (c.in_ok-distinct.ensures doc)
    c.in_ok-push_top.ensures c.in_ok-push_top-2.ensures
