use Rattle.std.proofs.Common.{◌≡◌, [], ◌∷◌, Option, Some, None, codes, true, option_map, refl, ap, ◌∙◌, rules, IsSome}
use Rattle.std.proofs.lemmas.Result.{IfOk-weaker}
use Rattle.jsonpath_nodes.specs.document.Document.{Document, boolean}
use Rattle.serde_json.specs.declared.value.Value.{Bool as truth, the_lemmas}
use Rattle.jsonpath_nodes.specs.document.OfData.{value_document}
use Rattle.jsonpath_nodes.specs.place.Location.{Location, name, at}
use Rattle.jsonpath_nodes.specs.update.Update.{update}
use Rattle.jsonpath_uses.proofs.changes.with_log_switched_on.Goals as goal

abbrev switch : Location
switch = name (codes "log") ∷ name (codes "on") ∷ []

view-truth : option_map value_document (Some (truth true)) ≡ Some (boolean true)
view-truth = search (rules, the_lemmas)

some_there : (o : Option Document) → IsSome o → (e : Document) × (o ≡ Some e)
some_there None h = cc h
some_there (Some e) h = (e, refl)

pub returns-clause-on : goal.returns-clause-on
returns-clause-on c =
    let before = value_document c.args.config in
    IfOk-weaker c.replace_with.result _ _ (λ changed h there.
    let e = some_there (at before switch) there in
    let is : value_document changed ≡ update switch (Some (boolean true)) before =
    c.replaces_selected_location.ensures (Some (boolean true)) (λ f g handed said called. let answered : said ≡ Some (truth true) = search rules in rw answered view-truth) _ before (value_document changed) switch _ _
    (c.dotted_names_select_one_location.ensures before (codes "log" ∷ codes "on" ∷ []) refl) h in
    ap (λ d. at d switch) is ∙ c.putting_at_one_location.ensures.there (boolean true) e.0 switch before e.1) c.replace_with.ensures.ok

pub returns-clause-rest : goal.returns-clause-rest
returns-clause-rest c =
    let before = value_document c.args.config in
    IfOk-weaker c.replace_with.result _ _ (λ changed h m beside.
    let is : value_document changed ≡ update switch (Some (boolean true)) before =
    c.replaces_selected_location.ensures (Some (boolean true)) (λ f g handed said called. let answered : said ≡ Some (truth true) = search rules in rw answered view-truth) _ before (value_document changed) switch _ _
    (c.dotted_names_select_one_location.ensures before (codes "log" ∷ codes "on" ∷ []) refl) h in
    ap (λ d. at d m) is ∙ c.putting_at_one_location.ensures.nothing_else (boolean true) m switch before beside) c.replace_with.ensures.ok
