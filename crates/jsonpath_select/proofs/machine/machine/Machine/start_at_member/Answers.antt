use Rattle.std.proofs.Common.{map, refl, sym, ap, ◌∙◌}
use Rattle.jsonpath_nodes.specs.place.Mark.{shown}
use Rattle.jsonpath_nodes.specs.step.Steps.{named}
use Rattle.jsonpath_paths.specs.declared.token.tokens.ParseToken.TheVariants.{Key}
use Rattle.jsonpath_select.proofs.machine.StepLemmas.{reach_done}
use Rattle.jsonpath_select.proofs.machine.machine.Machine.start_at_member.Goals as goal

pub returns : goal.returns
returns g c = λ doc s t u h e f.
    reach_done g.M.Mark.located g.M.Mark.stand g.M.Mark.content c.args.self.now.text.now doc c.as_str.result.now (Key c.args.span) s.frames s.operands t u c.args.stacks.now.frames.items c.innermost_candidates.ensures.0 c.innermost_candidates.result.now _
    c.args.stacks.now.operands.items c.push.new.self.items h.0 h.1 e f (sym (ap named (c.as_str.ensures.value ∙ c.in_ok-key.ensures))) c.innermost_candidates.ensures.1 refl (λ ls stand. c.in_ok-pairs.ensures doc ls (ap (map (shown g.M.Mark.stand g.M.Mark.content)) c.as_slice-candidates.ensures.value ∙ stand)) c.in_ok-push.ensures.items
