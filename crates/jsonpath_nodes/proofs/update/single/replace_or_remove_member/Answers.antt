use Rattle.std.proofs.Common.{◌≡◌, [], Some, None, option_map, sym, ap, ◌∙◌}
use Rattle.std.specs.Map.{remove_entry}
use Rattle.std.specs.BTreeMap.{is_at}
use Rattle.jsonpath_nodes.specs.document.Document.{object}
use Rattle.jsonpath_nodes.specs.document.Find.{get_member}
use Rattle.jsonpath_nodes.specs.document.OfData.{value_document, members_document}
use Rattle.jsonpath_nodes.proofs.tree.ValueLemmas.{view-lookup}
use Rattle.jsonpath_nodes.specs.place.Location.{name}
use Rattle.jsonpath_nodes.proofs.update.EditLemmas.{answered, nowhere}
use Rattle.jsonpath_nodes.proofs.update.ViewLemmas.{named, members_view-set_value, members_view-remove_entry, remove_entry_set}
use Rattle.jsonpath_nodes.proofs.update.single.replace_or_remove_member.Goals as goal

pub returns-in_default-clause-updated : goal.returns-in_default-clause-updated
returns-in_default-clause-updated g c =
    let k = c.args.name.now in
    let es = c.args.map.now.entries in
    let none : get_member k (members_document es) ≡ None = sym (view-lookup k es) ∙ ap (option_map value_document) (sym c.in_default.ensures.value) in
    nowhere g.F.FnMut (name k) [] (object (members_document es)) c.args.f.now _ none (ap (λ m. object (members_document m.entries)) c.get_mut.follows.holds-at-none)

pub returns-in-Some-f-clause-updated : goal.returns-in-Some-f-clause-updated
returns-in-Some-f-clause-updated g c =
    let k = c.args.name.now in
    let es = c.args.map.now.entries in
    let found : get_member k (members_document es) ≡ Some (value_document c.take.result) =
    sym (view-lookup k es) ∙ ap (option_map value_document) (sym c.in-Some.ensures.value) ∙ ap (λ v. Some (value_document v)) (sym c.take.ensures.taken) in
    answered g.F.FnMut (name k) (object (members_document es)) c.args.f.now c.f.new.self c.take.result (Some c.in-Some-f.answer) _ found c.in-Some-f.ensures
    (ap object (ap members_document (c.get_mut.follows.holds c.in-Some-f.answer).0 ∙ members_view-set_value k es c.in-Some-f.answer))

pub returns-in-None-clause-updated : goal.returns-in-None-clause-updated
returns-in-None-clause-updated g c =
    let k = c.args.name.now in
    let es = c.args.map.now.entries in
    let found : get_member k (members_document es) ≡ Some (value_document c.take.result) =
    sym (view-lookup k es) ∙ ap (option_map value_document) (sym c.in-Some.ensures.value) ∙ ap (λ v. Some (value_document v)) (sym c.take.ensures.taken) in
    answered g.F.FnMut (name k) (object (members_document es)) c.args.f.now c.f.new.self c.take.result None _ found c.in-None.ensures
    (ap object (ap members_document (c.remove.ensures.entries ∙ ap (remove_entry (is_at (named k))) (c.get_mut.follows.holds c.take.new.self).0 ∙ remove_entry_set k es _) ∙ members_view-remove_entry k es))
