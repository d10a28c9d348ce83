use Rattle.std.proofs.Common.{◌≡◌, rules, ◌∙◌}
use Rattle.std.proofs.lemmas.Result.{IfOk-weaker}
use Rattle.jsonpath_nodes.specs.document.OfData.{value_document}
use Rattle.jsonpath_nodes.specs.place.LocationText.{location_text}
use Rattle.jsonpath_uses.proofs.answers.value_at.Goals as goal

pub returns : goal.returns
returns c =
    let doc = value_document c.args.json.now in
    let l = c.args.location.now in
    let printed : c.as_str.result.now ≡ location_text l = c.as_str.ensures.value ∙ search rules in
    IfOk-weaker c.select.result _ _ (λ found h. c.one_location_answers_one_value.ensures (location_text l) doc l _ (c.location_text_selects_itself.ensures doc l c.requires) (rw printed at h)) c.select.ensures.ok
