use Rattle.std.proofs.Common.{rules, ◌∷◌, [], ◌++◌, codes, take, ◌∙◌, sym, ap, ◌≡◌, ◌+◌, arith}
use Rattle.std.proofs.lemmas.List.{map-append, take_more}
use Rattle.std.specs.Str.{encode_utf8_all}
use Rattle.jsonpath_nodes.specs.place.LocationText.{steps_chars}
use Rattle.jsonpath_nodes.specs.place.Owned.{owned_step, owned_steps}
use Rattle.std.proofs.Output.{has_written_append, has_written_of_eq}
use Rattle.jsonpath_nodes.proofs.place.GuardedNameLemmas.{step_more}
use Rattle.jsonpath_nodes.proofs.place.location.print.LocationDisplay.fmt.Goals as goal

pub loop-step-preserved : goal.loop-step-preserved
loop-step-preserved g c = λ plain.
    let items = c.steps-step-items.result.now in
    let i = c.loop-step.step-index in
    let more : take (i + 1) items ≡ take i items ++ c.step-item.result ∷ [] = search (rules, arith, take_more) in
    has_written_of_eq _ _ _ _ _ (step_more (codes "$") (owned_steps (take i items)) (owned_step c.step-item.result)
    ∙ ap (λ ls. encode_utf8_all (codes "$" ++ steps_chars ls)) (sym (ap owned_steps more ∙ map-append owned_step (take i items) (c.step-item.result ∷ [])))) (has_written_append _ _ _ _ _ _ (c.loop-step.invariant plain) (c.write.ensures.writes (c.loop-step.invariant plain).plain (search rules)))
