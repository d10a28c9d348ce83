use Rattle.std.proofs.Common.{◌≡◌, ◌∙◌, ◌∷◌, [], ◌++◌, refl, sym, ap, subst, arith, rules, Some, Err, Box, Global}
use Rattle.jsonpath_paths.specs.declared.tree.parser_node.Condition.{Condition}
use Rattle.std.specs.Prelude.{is_some}
use Rattle.jsonpath_paths.specs.plan.ParsedParts.{by_kind}
use Rattle.jsonpath_paths.specs.Grammar.{connective}
use Rattle.jsonpath_paths.specs.plan.Wants.{stop, steps, step, word, condition, part, tail, term, literal, sign, blanks, candidate_tail, side_behind_sign, inner, plain}
use Rattle.jsonpath_paths.proofs.parser.SoundLemmas.{take_takes}
use Rattle.jsonpath_paths.proofs.parser.StopLemmas.{stops_by, stops_err, stops_result, stops_boxed, stops_more, stops_past, no_question, no_group, no_path, word_behind_dots, step_next, no_step_next, sign_next, alone_next, compared_next, condition_past_blanks, tail_refused, missed}
use Rattle.jsonpath_paths.proofs.parser.DeeperStopLemmas.{condition_to_tail, tail_deeper, err_deeper, ok_deeper}
use Rattle.jsonpath_paths.specs.tree.Tree.{step_then, no_steps}
use Rattle.jsonpath_paths.specs.tree.View.{steps_of_list, inner_of, condition_of, term_of}
use Rattle.jsonpath_paths.specs.plan.ParsedParts.{take_token, step_at, steps_at, condition_at, candidate_condition_at, comparison_or_lone_at, rest_of_comparison}
use Rattle.jsonpath_paths.specs.declared.token.tokens.Kind.TheVariants as k
use Rattle.jsonpath_paths.proofs.parser.LevelLemmas.{after_steps, then_after, then_no_steps, steps_more, steps_end, steps_pushed, step_filled, taken, not_taken, if_none, term_relative, term_absolute, steps_fault, reads_on}
use Rattle.jsonpath_paths.proofs.parser.tree_parser.TreeParser.+nested.Goals as goal

pub parse_term-returns-then-is_some-clause-reads : goal.parse_term-returns-then-is_some-clause-reads
parse_term-returns-then-is_some-clause-reads t c =
    let text = c.args.self.now.text in
    let first = taken c.take_token.result c.take_token.new.self.lexemes _ c.take_token.ensures.value (sym c.is_some.ensures ∙ c.if-is_some.true) in
    let spelled = subst (λ x. steps_at x (condition_at x c.args.levels) c.take_token.new.self.lexemes ≡ Some (steps_of_list c.in_ok-steps.steps.items, c.parse_steps.new.self.lexemes)) c.take_token.ensures.text c.in_ok-steps.ensures.reads.0 in (
      term_relative text c.args.levels c.args.self.now.lexemes _ _ first.0 _ first.1 spelled ∙ ap (λ p. Some (p, c.parse_steps.new.self.lexemes)) (sym c.in_ok-path.ensures),
      c.in_ok-steps.ensures.reads.1 ∙ c.take_token.ensures.text,
    )

pub parse_term-returns-then-is_some-2-clause-reads : goal.parse_term-returns-then-is_some-2-clause-reads
parse_term-returns-then-is_some-2-clause-reads t c =
    let text = c.args.self.now.text in
    let no_first = sym c.is_some.ensures ∙ c.if-is_some.false in
    let missed = not_taken c.take_token.result c.take_token.new.self.lexemes _ c.take_token.ensures.value no_first in
    let same = if_none c.take_token.result _ c.take_token.ensures.none no_first in
    let same_text = c.take_token-2.ensures.text ∙ c.take_token.ensures.text in
    let second = taken c.take_token-2.result c.take_token-2.new.self.lexemes _ c.take_token-2.ensures.value (sym c.is_some-2.ensures ∙ c.if-is_some-2.true) in
    let root = subst (λ ps. take_token k.Absolute ps ≡ Some (second.0, c.take_token-2.new.self.lexemes)) same second.1 in
    let spelled = subst (λ x. steps_at x (condition_at x c.args.levels) c.take_token-2.new.self.lexemes ≡ Some (steps_of_list c.in_ok-steps-2.steps.items, c.parse_steps-then-is_some-2.new.self.lexemes)) same_text
    c.in_ok-steps-2.ensures.reads.0 in (
      term_absolute text c.args.levels c.args.self.now.lexemes _ _ second.0 _ missed root spelled ∙ ap (λ p. Some (p, c.parse_steps-then-is_some-2.new.self.lexemes)) (sym c.in_ok-root.ensures),
      c.in_ok-steps-2.ensures.reads.1 ∙ same_text,
    )

pub parse_steps-loop-found-preserved : goal.parse_steps-loop-found-preserved
parse_steps-loop-found-preserved t c =
    let l = c.loop-found in
    let text = c.args.self.now.text in
    let next = c.parse_step.new.next in
    let blank = c.in_ok-push_placeholder_step.ensures in
    let filled = step_filled l.found.items c.push_placeholder_step.new.found.items blank.0 next c.len-last.result blank.1 (omega (arith, c.len-last.ensures, l.found.ok.0)) in
    let found = subst (λ x. step_at x (condition_at x c.args.levels) l.self.lexemes ≡ Some ((next.leaves, next.bracket, inner_of next.inner), c.parse_step.new.self.lexemes)) l.invariant.text c.in-Ok.ensures.reads.0 in
    let more = steps_more text c.args.levels l.self.lexemes _ (sym c.loop-found-test.ensures) found in
    record {
      text = c.in-Ok.ensures.reads.1 ∙ l.invariant.text;
      stops = λ ws. l.invariant.stops ws ∙ (step_next text ws c.args.levels l.self.lexemes (sym c.loop-found-test.ensures)
          ∙ subst (λ x. stop x (step c.args.levels ∷ steps c.args.levels ∷ ws) l.self.lexemes ≡ stop x (steps c.args.levels ∷ ws) c.parse_step.new.self.lexemes) l.invariant.text (c.in-Ok.ensures.stops (steps c.args.levels ∷ ws)));
      shorter = omega (arith, l.invariant.shorter, c.in-Ok.ensures.shorter);
      read = l.invariant.read ∙ (ap (after_steps (steps_of_list l.found.items)) more
          ∙ (then_after (steps_of_list l.found.items) (step_then next.leaves next.bracket (inner_of next.inner) no_steps) (steps_at text (condition_at text c.args.levels) c.parse_step.new.self.lexemes)
          ∙ ap (λ ss. after_steps ss (steps_at text (condition_at text c.args.levels) c.parse_step.new.self.lexemes)) (sym (ap steps_of_list filled ∙ steps_pushed l.found.items next))));
    }

pub parse_steps-returns-clause-reads : goal.parse_steps-returns-clause-reads
parse_steps-returns-clause-reads t c =
    let l = c.loop-found in
    let text = c.args.self.now.text in (
      l.invariant.read ∙ (ap (after_steps (steps_of_list l.found.items)) (steps_end text c.args.levels l.self.lexemes (sym c.loop-found-test.ensures))
          ∙ ap (λ ss. Some (ss, l.self.lexemes)) (then_no_steps (steps_of_list l.found.items))),
      l.invariant.text,
    )

pub parse_steps-returns-in-Err-clause-reads : goal.parse_steps-returns-in-Err-clause-reads
parse_steps-returns-in-Err-clause-reads t c =
    let l = c.loop-found in
    steps_fault c.args.self.now.text c.args.levels c.in-Err.fault (steps_of_list l.found.items) c.args.self.now l.self c.parse_step.new.self l.invariant.text l.invariant.read (sym c.loop-found-test.ensures) c.in-Err.ensures.reads

pub parse_candidate_path_condition-returns-clause-reads : goal.parse_candidate_path_condition-returns-clause-reads
parse_candidate_path_condition-returns-clause-reads t c =
    let text = c.args.self.now.text in
    let same = c.in_ok-steps.ensures.reads.1 in
    let steps = steps_of_list c.in_ok-steps.steps.items in
    reads_on (λ b. condition_of b.value) (candidate_condition_at text (condition_at text c.args.levels) c.args.self.now.lexemes) (comparison_or_lone_at c.parse_steps.new.self.text (condition_at c.parse_steps.new.self.text c.args.levels) steps c.parse_steps.new.self.lexemes)
    c.parse_comparison_or_existence_test.result c.args.self.now c.parse_steps.new.self c.parse_comparison_or_existence_test.new.self
    (rw (c.in_ok-steps.ensures.reads.0, same) refl) same c.parse_comparison_or_existence_test.ensures.reads

pub parse_comparison_or_existence_test-returns-in_ok-first-in-Some-clause-reads : goal.parse_comparison_or_existence_test-returns-in_ok-first-in-Some-clause-reads
parse_comparison_or_existence_test-returns-in_ok-first-in-Some-clause-reads t c =
    let text = c.args.self.now.text in
    let same = c.parse_comparison_sign_behind_blanks.ensures.text in
    let mid = c.parse_comparison_sign_behind_blanks.new.self in
    reads_on (λ b. condition_of b.value) (comparison_or_lone_at text (condition_at text c.args.levels) (steps_of_list c.args.steps.items) c.args.self.now.lexemes)
    (rest_of_comparison mid.text (condition_at mid.text c.args.levels) (term_of c.in_ok-first-in-Some.first.value) (c.in-Some.op, mid.lexemes))
    c.parse_rest_of_comparison.result c.args.self.now mid c.parse_rest_of_comparison.new.self
    (rw (sym c.in-Some.ensures.value, same, c.in_ok-first-in-Some.ensures) refl) same c.parse_rest_of_comparison.ensures.reads

pub parse_bracket_content-returns-then-is_none-clause-stops : goal.parse_bracket_content-returns-then-is_none-clause-stops
parse_bracket_content-returns-then-is_none-clause-stops t c =
    let text = c.args.self.now.text in
    let n = c.args.levels in
    stops_past _ k.Question c.take_token.result (inner n ∷ []) (plain ∷ []) [] c.args.self.now c.take_token.new.self _ c.take_token.ensures.value c.take_token.ensures.none c.take_token.ensures.text
    (search (rules, c.is_none.ensures, c.if-is_none.true)) (λ ws. no_question text ws n) c.parse_plain_token_into_step.ensures.stops

pub parse_comparison_or_existence_test-returns-in_ok-first-in-Some-clause-stops : goal.parse_comparison_or_existence_test-returns-in_ok-first-in-Some-clause-stops
parse_comparison_or_existence_test-returns-in_ok-first-in-Some-clause-stops t c =
    let n = c.args.levels in
    let old = c.args.self.now in
    let mid = c.parse_comparison_sign_behind_blanks.new.self in
    let same = c.parse_comparison_sign_behind_blanks.ensures.text in
    stops_by c.parse_rest_of_comparison.result (candidate_tail n ∷ []) (side_behind_sign n) (blanks ∷ tail n ∷ []) old mid c.parse_rest_of_comparison.new.self
    (λ ws. compared_next old.text ws n old.lexemes mid.lexemes c.in-Some.op (sym c.in-Some.ensures.value) ∙ ap (λ x. stop x (side_behind_sign n ++ ws) mid.lexemes) (sym same)) same
    (stops_more c.parse_rest_of_comparison.result (blanks ∷ term n ∷ []) [] (blanks ∷ tail n ∷ []) mid c.parse_rest_of_comparison.new.self c.parse_rest_of_comparison.ensures.stops)

pub parse_comparison_or_existence_test-returns-in-None-clause-stops : goal.parse_comparison_or_existence_test-returns-in-None-clause-stops
parse_comparison_or_existence_test-returns-in-None-clause-stops t c =
    let text = c.args.self.now.text in
    let n = c.args.levels in
    stops_boxed c.boxed_existence_test.result _ (candidate_tail n ∷ []) (blanks ∷ tail n ∷ []) c.args.self.now c.parse_comparison_sign_behind_blanks.new.self c.boxed_existence_test.ensures
    (λ ws. alone_next text ws n c.args.self.now.lexemes (sym c.in-None.ensures.value) ∙ ap (stop text (blanks ∷ tail n ∷ ws)) (sym c.in-None.ensures.none))

pub parse_condition_and_closing_parenthesis-returns-in_err-first-clause-stops : goal.parse_condition_and_closing_parenthesis-returns-in_err-first-clause-stops
parse_condition_and_closing_parenthesis-returns-in_err-first-clause-stops t c =
    let n = c.args.levels in
    let old = c.args.self.now in
    let mid = c.skip_blanks.new.self in
    let same = c.skip_blanks.ensures.text in
    let is : c.from_residual.result ≡ Err c.in_err-first.field-0.0 = search rules in
    stops_result c.from_residual.result c.in_err-first.field-0.0 (condition n ∷ []) [] old c.parse_first_part_of_condition.new.self is
    (stops_err c.in_err-first.field-0.0 (condition n ∷ []) (part n ∷ []) [] old mid c.parse_first_part_of_condition.new.self
    (λ ws. condition_past_blanks old.text ws n old.lexemes ∙ (ap (stop old.text (part n ∷ ws)) (sym c.skip_blanks.ensures.blanks) ∙ ap (λ x. stop x (part n ∷ ws) mid.lexemes) (sym same)))
    c.in_err-first.ensures.stops)

pub parse_condition_and_closing_parenthesis-returns-then-is_some-clause-stops : goal.parse_condition_and_closing_parenthesis-returns-then-is_some-clause-stops
parse_condition_and_closing_parenthesis-returns-then-is_some-clause-stops t c =
    let old = c.args.self.now in
    let second = c.skip_blanks-2.new.self in
    let close = taken c.take_token.result c.take_token.new.self.lexemes _ c.take_token.ensures.value (sym c.is_some.ensures ∙ c.if-is_some.true) in
    λ ws. condition_to_tail c.args.levels old c.skip_blanks.new.self c.parse_first_part_of_condition.new.self second c.skip_blanks.ensures.blanks c.skip_blanks.ensures.text c.in_ok-first.ensures.stops c.skip_blanks-2.ensures.blanks ws
    ∙ ap (stop old.text (tail c.args.levels ∷ ws)) (take_takes k.CloseParenthesis second.lexemes (close.0, c.take_token.new.self.lexemes) close.1)

pub parse_condition_and_closing_parenthesis-returns-in_default-clause-stops : goal.parse_condition_and_closing_parenthesis-returns-in_default-clause-stops
parse_condition_and_closing_parenthesis-returns-in_default-clause-stops t c =
    let old = c.args.self.now in
    let second = c.skip_blanks-2.new.self in
    let no_close = sym c.is_some.ensures ∙ c.if-is_some.false in
    let same = if_none c.take_token.result _ c.take_token.ensures.none no_close in
    let closes = not_taken c.take_token.result _ _ c.take_token.ensures.value no_close in
    let connects = ap (by_kind connective) (sym same) ∙ missed c.take_connective_sign.result c.take_connective_sign.new.self.lexemes _ c.take_connective_sign.ensures.value c.in_default.is in
    let end = if_none c.take_connective_sign.result _ c.take_connective_sign.ensures.none (ap is_some c.in_default.is) in
    λ ws. condition_to_tail c.args.levels old c.skip_blanks.new.self c.parse_first_part_of_condition.new.self second c.skip_blanks.ensures.blanks c.skip_blanks.ensures.text c.in_ok-first.ensures.stops c.skip_blanks-2.ensures.blanks ws
    ∙ (tail_refused old.text ws c.args.levels second.lexemes closes connects ∙ ap Some (sym (end ∙ same)))

pub parse_condition_and_closing_parenthesis-returns-in-Err-clause-stops : goal.parse_condition_and_closing_parenthesis-returns-in-Err-clause-stops
parse_condition_and_closing_parenthesis-returns-in-Err-clause-stops t c =
    let n = c.args.levels in
    let old = c.args.self.now in
    let second = c.skip_blanks-2.new.self in
    let mid = c.take_connective_sign.new.self in
    let same = if_none c.take_token.result _ c.take_token.ensures.none (sym c.is_some.ensures ∙ c.if-is_some.false) in
    let same_text = c.take_connective_sign.ensures.text ∙ (c.take_token.ensures.text ∙ (c.skip_blanks-2.ensures.text ∙ (c.in_ok-first.ensures.reads.1 ∙ c.skip_blanks.ensures.text))) in
    err_deeper (Box Condition Global) c.in-Err.fault n (condition n ∷ []) [] old mid c.parse_condition_one_level_deeper.new.self c.if-levels-eq0.self second.lexemes
    (λ ws. condition_to_tail n old c.skip_blanks.new.self c.parse_first_part_of_condition.new.self second c.skip_blanks.ensures.blanks c.skip_blanks.ensures.text c.in_ok-first.ensures.stops c.skip_blanks-2.ensures.blanks ws
    ∙ tail_deeper old.text ws n second.lexemes mid.lexemes c.in-Some.op (ap (by_kind connective) (sym same) ∙ sym c.in-Some.ensures.value))
    same_text c.in-Err.ensures.stops
    (λ z. elim c.if-levels-eq0.branch [
      | goal.parse_condition_and_closing_parenthesis-then-levels-eq0 w ↦ ap (λ t. t.lexemes) (w.self-is ∙ (w.self-then-levels-eq0.view_is ∙ c.copy_of_place-front.ensures)) ∙ same
      | goal.parse_condition_and_closing_parenthesis-else-levels-eq0 w ↦ absurd (w.if-levels-eq0.false z)
    ])
    (λ z. elim c.if-levels-eq0.branch [
      | goal.parse_condition_and_closing_parenthesis-then-levels-eq0 w ↦ absurd (z w.if-levels-eq0.true)
      | goal.parse_condition_and_closing_parenthesis-else-levels-eq0 w ↦ ap (λ t. t.lexemes) w.self-is
    ])

pub parse_condition_and_closing_parenthesis-returns-clause-stops : goal.parse_condition_and_closing_parenthesis-returns-clause-stops
parse_condition_and_closing_parenthesis-returns-clause-stops t c =
    let n = c.args.levels in
    let old = c.args.self.now in
    let second = c.skip_blanks-2.new.self in
    let mid = c.take_connective_sign.new.self in
    let same = if_none c.take_token.result _ c.take_token.ensures.none (sym c.is_some.ensures ∙ c.if-is_some.false) in
    let same_text = c.take_connective_sign.ensures.text ∙ (c.take_token.ensures.text ∙ (c.skip_blanks-2.ensures.text ∙ (c.in_ok-first.ensures.reads.1 ∙ c.skip_blanks.ensures.text))) in
    stops_boxed c.boxed_join.result _ (condition n ∷ []) [] old c.parse_condition_one_level_deeper.new.self c.boxed_join.ensures
    (ok_deeper c.in-Ok.second _ n (condition n ∷ []) [] old mid c.parse_condition_one_level_deeper.new.self second.lexemes
    (λ ws. condition_to_tail n old c.skip_blanks.new.self c.parse_first_part_of_condition.new.self second c.skip_blanks.ensures.blanks c.skip_blanks.ensures.text c.in_ok-first.ensures.stops c.skip_blanks-2.ensures.blanks ws
    ∙ tail_deeper old.text ws n second.lexemes mid.lexemes c.in-Some.op (ap (by_kind connective) (sym same) ∙ sym c.in-Some.ensures.value))
    same_text c.in-Ok.ensures.reads.0 c.in-Ok.ensures.stops)

pub parse_first_part_of_condition-returns-clause-stops : goal.parse_first_part_of_condition-returns-clause-stops
parse_first_part_of_condition-returns-clause-stops t c =
    let n = c.args.levels in
    let old = c.args.self.now in
    let mid = c.take_token-2.new.self in
    let new = c.parse_whole_comparison.new.self in
    let no_first = sym c.is_some.ensures ∙ c.if-is_some.false in
    let no_second = sym c.is_some-2.ensures ∙ c.if-is_some-2.false in
    let same = if_none c.take_token.result _ c.take_token.ensures.none no_first in
    let all_same = if_none c.take_token-2.result _ c.take_token-2.ensures.none no_second ∙ same in
    let same_text = c.take_token-2.ensures.text ∙ c.take_token.ensures.text in
    let opens = not_taken c.take_token.result _ _ c.take_token.ensures.value no_first in
    let candidate = ap (take_token k.At) (sym same) ∙ not_taken c.take_token-2.result _ _ c.take_token-2.ensures.value no_second in
    stops_by c.parse_whole_comparison.result (part n ∷ []) (term n ∷ blanks ∷ sign ∷ side_behind_sign n) (blanks ∷ tail n ∷ []) old mid new
    (λ ws. no_group old.text ws n old.lexemes opens candidate ∙ (ap (stop old.text (term n ∷ blanks ∷ sign ∷ side_behind_sign n ++ ws)) (sym all_same)
    ∙ ap (λ x. stop x (term n ∷ blanks ∷ sign ∷ side_behind_sign n ++ ws) mid.lexemes) (sym same_text)))
    same_text (stops_more c.parse_whole_comparison.result (term n ∷ blanks ∷ sign ∷ blanks ∷ term n ∷ []) [] (blanks ∷ tail n ∷ []) mid new c.parse_whole_comparison.ensures.stops)

pub parse_step-returns-clause-stops : goal.parse_step-returns-clause-stops
parse_step-returns-clause-stops t c =
    let n = c.args.levels in
    let old = c.args.self.now in
    let dotted = c.take_token-2.new.self in
    let dots = c.take_token-3.new.self in
    let mid = c.take_token-4.new.self in
    let no_bracket = sym c.is_some.ensures ∙ c.if-is_some.false in
    let no_second = sym c.is_some-2.ensures ∙ c.if-is_some-2.false in
    let same = if_none c.take_token.result _ c.take_token.ensures.none no_bracket in
    let dot = taken c.take_token-2.result dotted.lexemes _ c.take_token-2.ensures.value (search (rules, c.is_none.ensures, c.if-is_none.false)) in
    let same_end = if_none c.take_token-4.result _ c.take_token-4.ensures.none no_second in
    let same_text = c.take_token-4.ensures.text ∙ (c.take_token-3.ensures.text ∙ (c.take_token-2.ensures.text ∙ c.take_token.ensures.text)) in
    stops_by c.parse_word_step.result (step n ∷ []) (word ∷ []) [] old mid c.parse_word_step.new.self
    (λ ws. ap (stop old.text (step n ∷ ws)) (sym same ∙ take_takes k.Dot c.take_token.new.self.lexemes (dot.0, dotted.lexemes) dot.1)
    ∙ (word_behind_dots old.text ws n dotted.lexemes dots.lexemes c.take_token-3.result c.take_token-3.ensures.value c.take_token-3.ensures.none (not_taken c.take_token-4.result _ _ c.take_token-4.ensures.value no_second)
    ∙ (ap (stop old.text (word ∷ ws)) (sym same_end) ∙ ap (λ x. stop x (word ∷ ws) mid.lexemes) (sym same_text))))
    same_text c.parse_word_step.ensures.stops

pub parse_steps-returns-in-Err-clause-stops : goal.parse_steps-returns-in-Err-clause-stops
parse_steps-returns-in-Err-clause-stops t c =
    let l = c.loop-found in
    let n = c.args.levels in
    let old = c.args.self.now in
    stops_err c.in-Err.fault (steps n ∷ []) (step n ∷ []) (steps n ∷ []) old l.self c.parse_step.new.self
    (λ ws. l.invariant.stops ws ∙ (step_next old.text ws n l.self.lexemes (sym c.loop-found-test.ensures) ∙ ap (λ x. stop x (step n ∷ steps n ∷ ws) l.self.lexemes) (sym l.invariant.text)))
    c.in-Err.ensures.stops

pub parse_steps-returns-clause-stops : goal.parse_steps-returns-clause-stops
parse_steps-returns-clause-stops t c =
    let l = c.loop-found in
    λ ws. l.invariant.stops ws ∙ no_step_next c.args.self.now.text ws c.args.levels l.self.lexemes (sym c.loop-found-test.ensures)

pub parse_term-returns-clause-stops : goal.parse_term-returns-clause-stops
parse_term-returns-clause-stops t c =
    let n = c.args.levels in
    let old = c.args.self.now in
    let mid = c.take_token-2.new.self in
    let no_first = sym c.is_some.ensures ∙ c.if-is_some.false in
    let no_second = sym c.is_some-2.ensures ∙ c.if-is_some-2.false in
    let same = if_none c.take_token.result _ c.take_token.ensures.none no_first in
    let all_same = if_none c.take_token-2.result _ c.take_token-2.ensures.none no_second ∙ same in
    let same_text = c.take_token-2.ensures.text ∙ c.take_token.ensures.text in
    let candidate = not_taken c.take_token.result _ _ c.take_token.ensures.value no_first in
    let root = ap (take_token k.Absolute) (sym same) ∙ not_taken c.take_token-2.result _ _ c.take_token-2.ensures.value no_second in
    stops_by c.parse_boxed_literal_term.result (term n ∷ []) (literal ∷ []) [] old mid c.parse_boxed_literal_term.new.self
    (λ ws. no_path old.text ws n old.lexemes candidate root ∙ (ap (stop old.text (literal ∷ ws)) (sym all_same) ∙ ap (λ x. stop x (literal ∷ ws) mid.lexemes) (sym same_text)))
    same_text c.parse_boxed_literal_term.ensures.stops

pub parse_whole_comparison-returns-in-Some-clause-stops : goal.parse_whole_comparison-returns-in-Some-clause-stops
parse_whole_comparison-returns-in-Some-clause-stops t c =
    let n = c.args.levels in
    let old = c.args.self.now in
    let left = c.parse_term.new.self in
    let mid = c.parse_comparison_sign_behind_blanks.new.self in
    let same_text = c.parse_comparison_sign_behind_blanks.ensures.text ∙ c.in_ok-first.ensures.reads.1 in
    stops_by c.parse_rest_of_comparison.result (term n ∷ blanks ∷ sign ∷ blanks ∷ term n ∷ []) (blanks ∷ term n ∷ []) [] old mid c.parse_rest_of_comparison.new.self
    (λ ws. c.in_ok-first.ensures.stops (blanks ∷ sign ∷ blanks ∷ term n ∷ ws)
    ∙ (sign_next old.text (blanks ∷ term n ∷ ws) left.lexemes mid.lexemes c.in-Some.op (sym c.in-Some.ensures.value) ∙ ap (λ x. stop x (blanks ∷ term n ∷ ws) mid.lexemes) (sym same_text)))
    same_text c.parse_rest_of_comparison.ensures.stops
