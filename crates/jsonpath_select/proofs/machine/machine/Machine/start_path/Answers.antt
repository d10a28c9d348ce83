use Rattle.jsonpath_select.specs.plan.Code as code
use Rattle.jsonpath_select.proofs.machine.StepLemmas.{inside_frames, start_done}
use Rattle.jsonpath_select.proofs.machine.machine.Machine.start_path.Goals as goal

pub innermost_candidates-requires : goal.innermost_candidates-requires
innermost_candidates-requires g c = let h = c.requires in inside_frames g.M.Mark.located g.M.Mark.stand g.M.Mark.content c.args.self.now.text.now h.0 (code.start c.args.absolute) h.1.frames h.1.operands h.2 c.args.stacks.now.frames.items h.3.0 h.4

pub returns : goal.returns
returns g c = λ s t h e.
    start_done g.M.Mark.located g.M.Mark.stand g.M.Mark.content c.args.self.now.text.now (g.M.Mark.content c.args.self.now.root.now) c.args.absolute s.frames s.operands t c.args.stacks.now.frames.items c.innermost_candidates.ensures.0 c.innermost_candidates.result.now c.in_ok-found.found c.args.stacks.now.operands.items c.push.new.self.items
    h.0 h.1 e c.innermost_candidates.ensures.1 (λ cand shows. c.in_ok-found.ensures cand.pairs shows.1) c.in_ok-push.ensures.items
