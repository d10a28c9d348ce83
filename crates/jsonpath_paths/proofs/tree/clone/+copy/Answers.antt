use Rattle.std.proofs.Common.{◌∙◌, sym, ap, arith, ◌<◌, length, refl, ◌++◌, ◌∷◌, [], take}
use Rattle.std.proofs.lemmas.List.{take_all, take_more}
use Rattle.jsonpath_paths.specs.tree.Tree.{path}
use Rattle.jsonpath_paths.specs.tree.View.{steps_of_list}
use Rattle.jsonpath_paths.specs.declared.tree.parser_node.ParserNode.{out-ParserNode}
use Rattle.jsonpath_paths.proofs.parser.LevelLemmas.{pushed_same}
use Rattle.jsonpath_paths.specs.tree.View.{path_of_out}
use Rattle.jsonpath_paths.proofs.tree.clone.+copy.Goals as goal

pub copy_node-loop-step-preserved : goal.copy_node-loop-step-preserved
copy_node-loop-step-preserved t c =
    let xs = c.deref-step-items.result.now in
    let i = c.loop-step.step-index in
    let x = c.step-item.result in
    let within : i < length xs = omega arith in
    ap steps_of_list c.in_ok-push.ensures.items ∙ (pushed_same c.loop-step.steps.items (take i xs) _ x c.loop-step.invariant refl refl c.in_ok-inner.ensures
    ∙ ap steps_of_list (ap (λ y. take i xs ++ y ∷ []) c.step-item.is ∙ sym (take_more xs i x within)))

pub copy_node-returns : goal.copy_node-returns
copy_node-returns t c =
    let xs = c.deref-step-items.result.now in
    let whole = ap steps_of_list (take_all c.loop-step.step-index xs (omega arith)) in
    c.node_of_steps.ensures ∙ (ap (path (out-ParserNode c.args.path.now).absolute) (c.loop-step.invariant ∙ (whole ∙ ap steps_of_list c.deref-step-items.ensures.value)) ∙ sym (path_of_out c.args.path.now))
