use Rattle.std.proofs.Common.{◌≡◌, Some, None, sym, ap, ◌∙◌, arith}
use Rattle.jsonpath_nodes.specs.document.Document.{array}
use Rattle.jsonpath_nodes.specs.document.Find.{get_item}
use Rattle.jsonpath_nodes.specs.document.OfData.{value_document, items_document}
use Rattle.jsonpath_nodes.proofs.tree.ValueLemmas.{get_item_within}
use Rattle.jsonpath_nodes.specs.place.Location.{index}
use Rattle.jsonpath_nodes.proofs.update.EditLemmas.{answered}
use Rattle.jsonpath_nodes.proofs.update.ViewLemmas.{items_view-set, items_view-remove, set_written, remove_set}
use Rattle.jsonpath_nodes.proofs.update.single.replace_or_remove_item.Goals as goal

pub returns-in-Some-clause-updated : goal.returns-in-Some-clause-updated
returns-in-Some-clause-updated g c =
    let vs = c.args.list.now.items in
    let i = c.args.i in
    let found : get_item i (items_document vs) ≡ Some (value_document c.take-handed.result) =
    sym (get_item_within vs i c.index_mut.result.now (omega (arith, c.args.list.now.ok.0))) ∙ ap (λ v. Some (value_document v)) (sym c.index_mut.ensures.value ∙ sym c.take-handed.ensures.taken) in
    answered g.F.FnMut (index i) (array (items_document vs)) c.args.f.now c.f.new.self c.take-handed.result (Some c.in-Some.answer) _ found c.in-Some.ensures (ap array (ap items_document (set_written vs i _ _) ∙ items_view-set vs i c.in-Some.answer))

pub returns-in-None-clause-updated : goal.returns-in-None-clause-updated
returns-in-None-clause-updated g c =
    let vs = c.args.list.now.items in
    let i = c.args.i in
    let found : get_item i (items_document vs) ≡ Some (value_document c.take-handed.result) =
    sym (get_item_within vs i c.index_mut.result.now (omega (arith, c.args.list.now.ok.0))) ∙ ap (λ v. Some (value_document v)) (sym c.index_mut.ensures.value ∙ sym c.take-handed.ensures.taken) in
    answered g.F.FnMut (index i) (array (items_document vs)) c.args.f.now c.f.new.self c.take-handed.result None _ found c.in-None.ensures (ap array (ap items_document (c.remove.ensures.items ∙ remove_set vs i _) ∙ items_view-remove vs i))
