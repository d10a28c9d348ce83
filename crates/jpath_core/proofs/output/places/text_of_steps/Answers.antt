use Rattle.std.proofs.Common.{◌≡◌, ℕ, ◌∷◌, [], ◌++◌, ◌+◌, ◌<◌, List, length, get_or, codes, map, take, sym, ap, ◌∙◌}
use Rattle.std.proofs.lemmas.Grind.{flat_map-append}
use Rattle.std.proofs.lemmas.List.{append-nil, append_assoc, map-append, take_more}
use Rattle.std.proofs.lemmas.Str.{encodes-append}
use Rattle.std.specs.Str.{encode_utf8_all}
use Rattle.jsonpath_nodes.specs.place.Location.{Step, Location}
use Rattle.jsonpath_nodes.specs.place.LocationText.{location_chars, location_text, step_chars, steps_chars}
use Rattle.jsonpath_nodes.specs.place.SpotPlace.{step_of}
use Rattle.jsonpath_nodes.specs.declared.place.spot.PathStep.{PathStep}
use Rattle.jsonpath_nodes.specs.declared.place.spot.PathStep.TheVariants.{Name}
use Rattle.jpath_core.proofs.output.places.text_of_steps.Goals as goal

chars_more : (l : Location) (s : Step) → location_chars l ++ step_chars s ≡ location_chars (l ++ s ∷ [])
chars_more l s = append_assoc (codes "$") (steps_chars l) (step_chars s) ∙ ap (λ cs. codes "$" ++ cs) (ap (λ cs. steps_chars l ++ cs) (sym (append-nil (step_chars s))) ∙ sym (flat_map-append step_chars l (s ∷ [])))

text_more : (steps : List PathStep) (i : ℕ) (d : PathStep) → i < length steps → location_text (map step_of (take i steps)) ++ encode_utf8_all (step_chars (step_of (get_or steps i d))) ≡ location_text (map step_of (take (i + 1) steps))
text_more steps i d h =
    let l = map step_of (take i steps) in
    let s = get_or steps i d in
    sym (encodes-append (location_chars l) (step_chars (step_of s)))
    ∙ ap encode_utf8_all (chars_more l (step_of s))
    ∙ ap location_text (sym (ap (map step_of) (take_more steps i d h) ∙ map-append step_of (take i steps) (s ∷ [])))

pub loop-step-preserved : goal.loop-step-preserved
loop-step-preserved c =
    let none : PathStep = Name record { ref_ptr = (0, 0); now = [] } in
    let steps = c.args.steps.now in
    let i = c.loop-step.step-index in
    c.in_ok-add_step.ensures
    ∙ ap (λ bs. bs ++ encode_utf8_all (step_chars (step_of (get_or steps i none)))) c.loop-step.invariant
    ∙ text_more steps i none c.loop-step-test.true
