use Rattle.std.proofs.Common.{◌≡◌, ◌++◌, Some, true, false, arith, rules, sym, ap, ap₂, ◌∙◌, append-nil}
use Rattle.std.specs.Option.{option_to_list}
use Rattle.std.proofs.lemmas.List.{take_all}
use Rattle.jsonpath_paths.specs.declared.parser.expected.TheConstants.{OTHER_KINDS}
use Rattle.jsonpath_paths.specs.plan.Expecting.{kinds_fed, word_fed}
use Rattle.jsonpath_paths.proofs.parser.ExpectedLemmas.{kinds_more}
use Rattle.jsonpath_paths.proofs.parser.expected.expected_behind.Goals as goal
use Rattle.jsonpath_paths.proofs.parser.expected.expected_behind.Goals.{then-branch+in_ok-push, else-branch}

pub loop-kind-preserved : goal.loop-kind-preserved
loop-kind-preserved c = λ us ran.
    let before = c.loop-kind.invariant us ran in
    let fed = c.in_ok-can_follow.ensures us ran in
    elim c.if-branch.branch [
      | then-branch+in_ok-push w ↦ kinds_more us OTHER_KINDS c.loop-kind.kind-index _ true _ _ (search rules) before (sym w.if-branch.true ∙ fed) (search rules)
      | else-branch w ↦ kinds_more us OTHER_KINDS c.loop-kind.kind-index _ false _ _ (search rules) before (sym w.if-branch.false ∙ fed) (search rules)
    ]

pub returns-in_ok-push-in-Some : goal.returns-in_ok-push-in-Some
returns-in_ok-push-in-Some c = λ us ran.
    let before = c.loop-kind.invariant us ran in
    let whole = ap (kinds_fed us) (take_all c.loop-kind.kind-index OTHER_KINDS (omega arith)) in
    let word : Some c.in-Some.word ≡ word_fed us = sym c.in-Some.is ∙ c.in_ok-word.ensures us ran in
    c.in_ok-push-in-Some.ensures.items ∙ ap₂ (λ es o. es ++ option_to_list o) (before ∙ whole) word

pub returns-in-None : goal.returns-in-None
returns-in-None c = λ us ran.
    let before = c.loop-kind.invariant us ran in
    let whole = ap (kinds_fed us) (take_all c.loop-kind.kind-index OTHER_KINDS (omega arith)) in
    sym (append-nil c.loop-kind.expected.items) ∙ ap₂ (λ es o. es ++ option_to_list o) (before ∙ whole) (sym c.in-None.is ∙ c.in_ok-word.ensures us ran)
