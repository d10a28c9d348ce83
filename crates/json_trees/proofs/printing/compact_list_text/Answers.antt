use Rattle.std.proofs.Common.{[], ◌∷◌, ◌+◌, drop, map, string_bytes, subst, rules, arith}
use Rattle.std.proofs.lemmas.List.{at_drop_all}
use Rattle.json.specs.Token.{begin_array}
use Rattle.jsonpath_nodes.specs.document.Document.{Items}
use Rattle.json_trees.specs.AsRead.{text_document}
use Rattle.json_trees.specs.Targets.{targets_view}
use Rattle.json_trees.proofs.PrintLemmas.{ItemsLeft, items_list, list_next, list_stopped, list_child, list_compact, list_unread_there}
use Rattle.json_trees.proofs.printing.compact_list_text.Goals as goal

pub returns-in_err-add_value-clause-unread : goal.returns-in_err-add_value-clause-unread
returns-in_err-add_value-clause-unread c e =
    let xs = c.args.values.now in
    let x = c.value-item.result in
    let i = c.loop-value.value-index in
    list_unread_there (map text_document xs)
    (list_stopped _ (targets_view c.none.result) (text_document x) _ _ (items_list (map text_document xs)) _ _ (list_child text_document xs i x (omega arith) c.value-item.is) c.none.ensures c.loop-value.invariant.printed
    (c.in_err-add_value.ensures.unread (search rules)))

pub loop-value-preserved : goal.loop-value-preserved
loop-value-preserved c =
    let xs = c.args.values.now in
    let x = c.value-item.result in
    let i = c.loop-value.value-index in
    record {
      before = search rules;
      printed = list_next _ (targets_view c.none.result) (text_document x) _ (items_list (map text_document (drop (i + 1) xs))) (items_list (map text_document xs)) _ _ _
          (list_child text_document xs i x (omega arith) c.value-item.is) c.none.ensures c.loop-value.invariant.printed c.in_ok-add_value.ensures.ok;
    }

pub returns-clause-ok : goal.returns-clause-ok
returns-clause-ok c =
    let xs = c.args.values.now in
    let left = subst (λ (ds : Items). ItemsLeft (begin_array ∷ []) c.loop-value.writer.tokens ds (items_list (map text_document xs))) (at_drop_all (λ ys. items_list (map text_document ys)) xs c.loop-value.value-index (omega arith)) c.loop-value.invariant.printed in
    list_compact (map text_document xs) c.loop-value.writer.tokens c.end_array.new.self.tokens (string_bytes c.text_of_writer.result) left c.in_ok-end_array.ensures.ok c.text_of_writer.ensures
