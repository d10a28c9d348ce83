use Rattle.std.proofs.Common.{length, ap}
use Rattle.jsonpath_select.proofs.machine.stacks.Stacks.candidate_count.Goals as goal

pub returns : goal.returns
returns g c = (c.innermost_candidates.ensures.0, c.innermost_candidates.result.now, c.innermost_candidates.ensures.1, ap length c.as_slice.ensures.value)
