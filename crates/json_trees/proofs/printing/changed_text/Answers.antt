use Rattle.std.proofs.Common.{◌≡◌, List, true, string_bytes, subst, rules}
use Rattle.json.specs.Token.{Token}
use Rattle.jsonpath_nodes.specs.place.Location.{Location}
use Rattle.jsonpath_nodes.specs.update.Topmost.{with_answer_at_topmost}
use Rattle.json_trees.specs.AsRead.{text_document}
use Rattle.json_trees.specs.Changed.{answer_of}
use Rattle.json_trees.specs.Prints.{Prints, is_unread, IsCompactText}
use Rattle.json_trees.specs.Targets.{targets_view}
use Rattle.json_trees.proofs.PrintLemmas.{compact, unread}
use Rattle.json_trees.proofs.printing.changed_text.Goals as goal

pub returns-in_err-add_value-clause-unread : goal.returns-in_err-add_value-clause-unread
returns-in_err-add_value-clause-unread c e =
    unread _ (subst (λ (ls : List Location). is_unread (with_answer_at_topmost (answer_of c.args.replacement) ls (text_document c.args.root)) ≡ true) c.of.ensures (c.in_err-add_value.ensures.unread (search rules)))

pub returns-clause-ok : goal.returns-clause-ok
returns-clause-ok c =
    let doc = with_answer_at_topmost (answer_of c.args.replacement) (targets_view c.of.result) (text_document c.args.root) in
    let adds = subst (λ (ts : List Token). Prints doc ts c.add_value.new.writer.tokens) c.new-writer.ensures.tokens c.in_ok-add_value.ensures.ok in
    subst (λ (ls : List Location). IsCompactText (with_answer_at_topmost (answer_of c.args.replacement) ls (text_document c.args.root)) (string_bytes c.text_of_writer.result)) c.of.ensures
    (compact doc c.add_value.new.writer.tokens (string_bytes c.text_of_writer.result) adds c.text_of_writer.ensures)
