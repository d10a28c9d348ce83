use Rattle.std.proofs.Common.{◌≡◌, ◌<◌, ◌≤◌, Bool, List, [], ◌∷◌, length, get_or, true, false, None, refl, sym, ap, ◌∙◌, arith}
use Rattle.jsonpath_paths.specs.tree.Tree.{Inner, plain, filter, no_steps, step_then}
use Rattle.jsonpath_paths.specs.tree.View.{path_of, path_of_out, inner_of, steps_of_list}
use Rattle.jsonpath_paths.specs.declared.tree.parser_node.ParserNode.{ParserNode, out-ParserNode}
use Rattle.jsonpath_paths.specs.declared.tree.parser_node.ParserStep.{ParserStep}
use Rattle.jpath_core.specs.AlongExactTree.{last_key, only_key, member_key}
use Rattle.jpath_core.proofs.exact_tree.exact_conditions.member_name_span.Goals as goal

of_absolute : (n : ParserNode) → (out-ParserNode n).absolute ≡ true → member_key (path_of n) ≡ None
of_absolute n is = ap member_key (path_of_out n) ∙ rw is refl

of_relative : (n : ParserNode) (ss : List ParserStep) → (out-ParserNode n).absolute ≡ false → ss ≡ (out-ParserNode n).steps.items → member_key (path_of n) ≡ only_key (steps_of_list ss)
of_relative n ss is same = ap member_key (path_of_out n) ∙ rw (is, same) refl

none : (ss : List ParserStep) → length ss < 1 → only_key (steps_of_list ss) ≡ None
none [] less = refl
none (s ∷ ss) less = absurd (omega arith)

deep : (s : ParserStep) (ss : List ParserStep) → length ss < 2 → 1 ≤ length ss → s ≡ get_or ss 0 s → s.leaves ≡ true → only_key (steps_of_list ss) ≡ None
deep s [] less more is leaves = absurd (omega arith)
deep s (t ∷ []) less more is leaves = let same : t.leaves ≡ true = ap (λ (x : ParserStep). x.leaves) (sym is) ∙ leaves in rw same refl
deep s (t ∷ u ∷ ss) less more is leaves = absurd (omega arith)

alone : (s : ParserStep) (ss : List ParserStep) → length ss < 2 → 1 ≤ length ss → s ≡ get_or ss 0 s → s.leaves ≡ false → only_key (steps_of_list ss) ≡ last_key (inner_of s.inner) no_steps
alone s [] less more is leaves = absurd (omega arith)
alone s (t ∷ []) less more is leaves = let same : t.leaves ≡ false = ap (λ (x : ParserStep). x.leaves) (sym is) ∙ leaves in rw same (ap (λ (x : ParserStep). last_key (inner_of x.inner) no_steps) (sym is))
alone s (t ∷ u ∷ ss) less more is leaves = absurd (omega arith)

many : (ss : List ParserStep) → 2 ≤ length ss → only_key (steps_of_list ss) ≡ None
many [] more = absurd (omega arith)
many (s ∷ []) more = absurd (omega arith)
many (s ∷ t ∷ ss) more = by_step s.leaves (inner_of s.inner)
  where
    by_step : (b : Bool) (i : Inner) → only_key (step_then b s.bracket i (steps_of_list (t ∷ ss))) ≡ None
    by_step true i = refl
    by_step false (plain token) = refl
    by_step false (filter f) = refl

pub returns-then-path : goal.returns-then-path
returns-then-path c = sym (of_absolute c.args.path.now c.if-path.true)

pub returns-in-len1 : goal.returns-in-len1
returns-in-len1 c =
    let ss = c.as_slice.result.now in
    let whole = of_relative c.args.path.now ss c.if-path.false c.as_slice.ensures.value in
    c.span_of_name_step.ensures ∙ sym (alone c.step-item.result ss (omega (arith, c.in-len1.len_below)) (omega (arith, c.in-len1.len_at_least)) c.step-item.is c.if-not-step.true) ∙ sym whole

pub returns-in_default : goal.returns-in_default
returns-in_default c =
    let ss = c.as_slice.result.now in
    sym (of_relative c.args.path.now ss c.if-path.false c.as_slice.ensures.value ∙ none ss (omega (arith, c.in_default.len_below)))

pub returns-in_default-2 : goal.returns-in_default-2
returns-in_default-2 c =
    let ss = c.as_slice.result.now in
    sym (of_relative c.args.path.now ss c.if-path.false c.as_slice.ensures.value
    ∙ deep c.step-item.result ss (omega (arith, c.in-len1.len_below)) (omega (arith, c.in-len1.len_at_least)) c.step-item.is c.if-not-step.false)

pub returns-in_default-3 : goal.returns-in_default-3
returns-in_default-3 c =
    let ss = c.as_slice.result.now in
    sym (of_relative c.args.path.now ss c.if-path.false c.as_slice.ensures.value ∙ many ss (omega (arith, c.in_default.len_at_least)))
