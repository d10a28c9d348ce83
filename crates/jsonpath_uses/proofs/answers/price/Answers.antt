use Rattle.std.proofs.Common.{◌≡◌, [], ◌∷◌, Option, Some, None, codes, refl, ◌∙◌, option_and_then, option_to_list}
use Rattle.std.proofs.lemmas.Result.{IfOk-weaker}
use Rattle.jsonpath_nodes.specs.document.Document.{Document}
use Rattle.jsonpath_nodes.specs.document.OfData.{value_document}
use Rattle.jsonpath_nodes.specs.place.Location.{name}
use Rattle.jsonpath_uses.proofs.answers.price.Goals as goal

-- what stands at a name is the member of that name
member : (o : Option Document) → option_to_list (option_and_then (λ d. Some d) o) ≡ option_to_list o
member None = refl
member (Some d) = refl

pub returns : goal.returns
returns c =
    IfOk-weaker c.select.result _ _ (λ found h. c.one_location_answers_one_value.ensures _ _ (name (codes "price") ∷ []) _ (c.dotted_names_select_one_location.ensures (value_document c.args.json.now) (codes "price" ∷ []) refl) h ∙ member _) c.select.ensures.ok
