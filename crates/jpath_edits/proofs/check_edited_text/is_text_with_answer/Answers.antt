use Rattle.std.proofs.Common.{◌≡◌, map, drop, option_map, sym, ap, ◌∙◌}
use Rattle.json.specs.Value.{value_view}
use Rattle.jsonpath_nodes.specs.update.Topmost.{with_answer_at_topmost}
use Rattle.json_trees.specs.ExactDocument.{document_at, exact_document}
use Rattle.jpath_edits.proofs.ChangedValueLemmas.{below_root_alone, none_passed}
use Rattle.jpath_edits.proofs.check_edited_text.is_text_with_answer.Goals as goal

pub returns : goal.returns
returns c same =
    let answer = option_map document_at c.args.new in
    let before = document_at c.args.before in
    let targets = c.locations_below_root-targets.result.now in
    let changed : document_at c.root.result ≡ with_answer_at_topmost answer (map (drop 0) targets) before = c.is_changed_value.ensures same in (
      value_view c.in_ok-after.after.exact,
      c.in_ok-after.ensures,
      sym (ap (λ v. exact_document (value_view v)) c.root.ensures) ∙ changed ∙ ap (λ ls. with_answer_at_topmost answer ls before) (none_passed targets ∙ c.locations_below_root-targets.ensures)
          ∙ below_root_alone answer c.args.places.now before,
    )
