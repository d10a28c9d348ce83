use Rattle.std.proofs.Common.{rules, ◌≡◌, ◌∙◌, ℕ, length, ap}
use Rattle.jsonpath_lib.specs.update.Masked.{place_unless_memory}
use Rattle.jsonpath_lib.proofs.PathTextLemmas.{next_text, text_done, spelled_done, all_done, first_refused, told_as}
use Rattle.jsonpath_lib.proofs.compiled.path_texts.compile_paths.Goals as goal

pub loop-text-preserved : goal.loop-text-preserved
loop-text-preserved c = record {
  texts = text_done _ _ _ _ _ _ c.loop-text-test.true c.loop-text.invariant.texts c.in-Ok.ensures.text c.in-Ok-push.ensures.items;
  spelled = spelled_done _ _ _ _ c.loop-text.invariant.spelled c.in-Ok.ensures.spelled c.in-Ok.ensures.text c.in-Ok-push.ensures.items;
}

pub returns-clause-spelled : goal.returns-clause-spelled
returns-clause-spelled c = all_done _ _ _ (search rules) c.loop-text.invariant.texts c.loop-text.invariant.spelled

pub returns-in-Err-clause-refused : goal.returns-in-Err-clause-refused
returns-in-Err-clause-refused c =
    let n : c.len.result ≡ length c.loop-text.paths.items = search rules in
    told_as _ _ _ _ _ (c.paths_fault_at.ensures.index ∙ ap (λ (k : ℕ). place_unless_memory k c.in-Err.fault) n) c.paths_fault_at.ensures.fault
    (first_refused _ _ _ _ c.in-Err.fault (next_text _ _ _ _ c.loop-text-test.true c.loop-text.invariant.texts) c.loop-text.invariant.spelled c.in-Err.ensures.refused)
