use Rattle.std.proofs.Common.{◌≡◌, Some, None, option_map, sym, refl, ap, ◌∙◌, arith, rules}
use Rattle.jsonpath_nodes.specs.document.Document.{array, object}
use Rattle.jsonpath_nodes.specs.document.Find.{get_item, get_member}
use Rattle.jsonpath_nodes.specs.document.OfData.{value_document, items_document, members_document}
use Rattle.jsonpath_nodes.proofs.tree.ValueLemmas.{view-lookup, get_item_past, get_item_within}
use Rattle.jsonpath_nodes.specs.place.Location.{name, index}
use Rattle.jsonpath_nodes.specs.place.Owned.{owned_steps}
use Rattle.jsonpath_nodes.proofs.update.EditLemmas.{nowhere, through_rest}
use Rattle.jsonpath_nodes.proofs.update.ViewLemmas.{items_view-set, members_view-set_value}
use Rattle.jsonpath_nodes.proofs.update.single.+update.Goals as goal

pub update_item-returns-then-i-len-clause-updated : goal.update_item-returns-then-i-len-clause-updated
update_item-returns-then-i-len-clause-updated g t c =
    let vs = c.args.list.now.items in
    nowhere g.F.FnMut (index c.args.i) (owned_steps c.args.rest.now) (array (items_document vs)) c.args.f.now _ (sym (get_item_past vs c.args.i (omega (arith, c.args.list.now.ok.0)))) refl

pub update_item-returns-clause-updated : goal.update_item-returns-clause-updated
update_item-returns-clause-updated g t c =
    let vs = c.args.list.now.items in
    let i = c.args.i in
    let found : get_item i (items_document vs) ≡ Some (value_document c.index_mut.result.now) =
    sym (get_item_within vs i c.index_mut.result.now (omega (arith, c.args.list.now.ok.0))) ∙ ap (λ v. Some (value_document v)) (sym c.index_mut.ensures.value) in
    through_rest g.F.FnMut (index i) c.args.rest.now (array (items_document vs)) (value_document c.index_mut.result.now) (value_document c.update_at_steps.new.value) c.args.f.now c.update_at_steps.new.f c.update_at_steps.result _
    (search rules) found (ap array (items_view-set vs i c.update_at_steps.new.value)) c.update_at_steps.ensures.updated

pub update_member-returns-in-Some-clause-updated : goal.update_member-returns-in-Some-clause-updated
update_member-returns-in-Some-clause-updated g t c =
    let k = c.args.name.now in
    let es = c.args.map.now.entries in
    let found : get_member k (members_document es) ≡ Some (value_document c.in-Some.member.now) = sym (view-lookup k es) ∙ ap (option_map value_document) (sym c.in-Some.ensures.value) in
    through_rest g.F.FnMut (name k) c.args.rest.now (object (members_document es)) (value_document c.in-Some.member.now) (value_document c.update_at_steps.new.value) c.args.f.now c.update_at_steps.new.f c.update_at_steps.result _
    (search rules) found (ap object (ap members_document (c.get_mut.follows.holds c.update_at_steps.new.value).0 ∙ members_view-set_value k es c.update_at_steps.new.value)) c.update_at_steps.ensures.updated

pub update_member-returns-in-None-clause-updated : goal.update_member-returns-in-None-clause-updated
update_member-returns-in-None-clause-updated g t c =
    let k = c.args.name.now in
    let es = c.args.map.now.entries in
    let none : get_member k (members_document es) ≡ None = sym (view-lookup k es) ∙ ap (option_map value_document) (sym c.in-None.ensures.value) in
    nowhere g.F.FnMut (name k) (owned_steps c.args.rest.now) (object (members_document es)) c.args.f.now _ none (ap (λ m. object (members_document m.entries)) c.get_mut.follows.holds-at-none)
