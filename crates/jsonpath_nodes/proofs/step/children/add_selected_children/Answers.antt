use Rattle.std.proofs.Common.{sym, ap, ◌∙◌}
use Rattle.jsonpath_nodes.specs.document.Find.{as_array, as_object}
use Rattle.jsonpath_nodes.specs.step.PlainSteps.{plain_step_of}
use Rattle.jsonpath_nodes.proofs.step.NowhereLemmas.{leaf_else}
use Rattle.jsonpath_nodes.proofs.place.KeptLemmas.{leaf_step}
use Rattle.jsonpath_nodes.proofs.step.children.add_selected_children.Goals as goal

pub returns-in_default-as_object : goal.returns-in_default-as_object
returns-in_default-as_object g c =
    let same = sym c.tree-value.ensures in
    leaf_step g.M.Descends.located (plain_step_of c.args.plain.now) (g.M.Descends.stand c.args.node.now) (g.M.Descends.content c.args.node.now) _
    (leaf_else (g.M.Descends.content c.args.node.now) (ap as_array same ∙ c.in_default.ensures.none) (ap as_object same ∙ c.in_default-as_object.ensures.none))
