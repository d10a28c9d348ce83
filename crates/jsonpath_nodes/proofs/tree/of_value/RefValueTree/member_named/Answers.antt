use Rattle.std.proofs.Common.{◌≡◌, option_map, string_bytes, sym, ap, ◌∙◌, is_eq}
use Rattle.std.proofs.lemmas.Map.Text.{is_eq-slice_cmp}
use Rattle.std.proofs.lemmas.Slice.Eq.{bytes_eq-Decides}
use Rattle.jsonpath_nodes.specs.document.OfData.{value_document}
use Rattle.jsonpath_nodes.proofs.tree.ValueLemmas.{view-lookup}
use Rattle.jsonpath_nodes.proofs.tree.of_value.RefValueTree.member_named.Goals as goal

pub returns-in-Some-clause-key : goal.returns-in-Some-clause-key
returns-in-Some-clause-key c =
    let name = c.args.name.now in
    let key = string_bytes c.in-Some.key.now in
    let same : name ≡ key = (bytes_eq-Decides name key).0 (sym (is_eq-slice_cmp name key) ∙ ap is_eq c.in-Some.ensures.same_key) in
    sym same

pub returns-in-Some-clause-value : goal.returns-in-Some-clause-value
returns-in-Some-clause-value c = ap (option_map value_document) c.in-Some.ensures.value ∙ view-lookup c.args.name.now c.args.object.now.entries

pub returns-in-None-clause-value : goal.returns-in-None-clause-value
returns-in-None-clause-value c = ap (option_map value_document) c.in-None.ensures.value ∙ view-lookup c.args.name.now c.args.object.now.entries
