use Rattle.jsonpath_select.proofs.answer.OnceLemmas.{paths_without_repeats_select_once}
use Rattle.jsonpath_select.proofs.laws.paths_without_repeats_select_once.Goals as goal

pub returns : goal.returns
returns c =
    let steps = c.steps_lead_without_repeats.ensures in
    let candidates = c.apart_locations_meet_candidates_once.ensures in
    paths_without_repeats_select_once steps.step steps.kept candidates.candidates candidates.no_repeat
