use Rattle.std.proofs.Common.{◌==◌, sym, ◌∙◌, ap, not, List, length, true, false}
use Rattle.jsonpath_paths.specs.declared.tree.parser_node.ParserStep.{ParserStep}
use Rattle.jsonpath_select.proofs.walk.WalkLemmas.{own_step}
use Rattle.jsonpath_select.proofs.walk.own_step.path_has_own_step.Goals as goal

pub returns-then-not-path : goal.returns-then-not-path
returns-then-not-path c =
    ap not (c.is_empty.ensures ∙ ap (λ (ss : List ParserStep). length ss == 0) c.as_slice.ensures.value) ∙ sym (own_step c.args.path.now false c.if-not-path.true)

pub returns-else-not-path : goal.returns-else-not-path
returns-else-not-path c = ap not c.if-not-path.false ∙ sym (own_step c.args.path.now true c.if-not-path.false)
