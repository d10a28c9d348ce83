use Rattle.jsonpath_select.specs.plan.Shown.{led}
use Rattle.jsonpath_select.proofs.machine.StepLemmas.{lead_top_operands, lead_top_done}
use Rattle.jsonpath_select.proofs.machine.machine.Machine.lead_top.Goals as goal

pub pop_marks-is_shared-requires : goal.pop_marks-is_shared-requires
pop_marks-is_shared-requires g c =
    let h = c.requires in lead_top_operands g.M.Mark.located g.M.Mark.stand g.M.Mark.content c.args.self.now.text.now h.0 h.1 h.2 h.4 h.5 c.args.stacks.now.operands.items h.6.1 h.7

pub candidate_count-requires : goal.candidate_count-requires
candidate_count-requires g c = let h = c.requires in (h.6.0.0, h.6.0.1, h.6.0.2)

pub returns : goal.returns
returns g c = λ doc cand fs os more h e. (
  h.0,
  lead_top_done g.M.Mark.located g.M.Mark.stand g.M.Mark.content c.args.self.now.text.now doc (λ d. led d c.args.by) cand fs os more c.args.stacks.now.frames.items c.candidate_count.ensures.0 c.candidate_count.ensures.1 c.pop_marks-is_shared.result c.in_ok-pairs.pairs
      c.args.stacks.now.operands.items c.pop_marks-is_shared.new.operands.items c.push_top.new.stack.items c.candidate_count.result c.list_count_for_candidates-lists.result h.0 h.1 e c.candidate_count.ensures.2 c.candidate_count.ensures.3 c.pop_marks-is_shared.ensures c.list_count_for_candidates-lists.ensures c.in_ok-pairs.ensures c.in_ok-push_top.ensures,
)
