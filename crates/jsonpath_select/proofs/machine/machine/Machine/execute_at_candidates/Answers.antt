use Rattle.jsonpath_select.specs.plan.Machine.{answering}
use Rattle.jsonpath_select.specs.plan.NextFilter.{begun}
use Rattle.jsonpath_select.specs.plan.Standing.{for_all}
use Rattle.jsonpath_select.proofs.machine.OrderedLemmas.{found_there, found_is}
use Rattle.jsonpath_select.proofs.machine.machine.Machine.execute_at_candidates.Goals as goal

pub execute_all-requires : goal.execute_all-requires
execute_all-requires g c =
    let h = c.requires in
    (begun h.0, answering h.1, ((c.in_ok-stacks.stacks.frames.items, c.args.candidates, c.in_ok-push_top.ensures, h.2, c.in_ok-stacks.ensures.0), c.in_ok-stacks.ensures.1), h.3)

pub pop_marks-requires : goal.pop_marks-requires
pop_marks-requires g c =
    let h = c.requires in
    let after = c.in_ok-execute_all.ensures (begun h.0) (answering h.1) ((c.in_ok-stacks.stacks.frames.items, c.args.candidates, c.in_ok-push_top.ensures, h.2, c.in_ok-stacks.ensures.0), c.in_ok-stacks.ensures.1) h.3 in
    found_there g.M.Mark.located g.M.Mark.stand g.M.Mark.content c.args.self.now.text.now (g.M.Mark.content c.args.self.now.root.now) (for_all h.1) c.execute_all.new.stacks.operands.items after.1

pub returns : goal.returns
returns g c = λ cs ks there decides.
    let after = c.in_ok-execute_all.ensures (begun cs) (answering ks) ((c.in_ok-stacks.stacks.frames.items, c.args.candidates, c.in_ok-push_top.ensures, there, c.in_ok-stacks.ensures.0), c.in_ok-stacks.ensures.1) decides in
    found_is g.M.Mark.located g.M.Mark.stand g.M.Mark.content c.args.self.now.text.now (g.M.Mark.content c.args.self.now.root.now) (for_all ks) c.execute_all.new.stacks.operands.items c.pop_marks.new.operands.items c.pop_marks.result after.1 c.pop_marks.ensures
