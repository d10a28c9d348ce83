use Rattle.std.proofs.Common.{ap, sym, ◌∙◌}
use Rattle.jsonpath_nodes.specs.document.Find.{as_array}
use Rattle.jsonpath_nodes.proofs.step.DescentLemmas.{flat_itself}
use Rattle.jsonpath_nodes.proofs.step.candidates.add_flattened.Goals as goal

pub returns-in_ok-push : goal.returns-in_ok-push
returns-in_ok-push g c =
    flat_itself g.M.Descends.located g.M.Descends.stand g.M.Descends.content c.args.node.now c.in_ok-copy.field-0 c.args.out.now.items c.push.new.self.items
    (ap as_array (sym c.tree.ensures) ∙ c.in_default.ensures.none)
    c.in_ok-push.ensures.items
    c.in_ok-copy.ensures
