use Rattle.std.proofs.Common.{sym, suc, map}
use Rattle.json.specs.Value.{value_view}
use Rattle.jsonpath_nodes.specs.place.SpotPlace.{step_of}
use Rattle.json_trees.specs.Way.{passed_view}
use Rattle.json_trees.proofs.WayLemmas.{leads, cut, new_leads}
use Rattle.json_trees.proofs.ordered_tree.way.next_value.Goals as goal

pub returns-in_default-clause-leads : goal.returns-in_default-clause-leads
returns-in_default-clause-leads c = leads _ _ _ _ c.requires

pub returns-in_err-pass-clause-leads : goal.returns-in_err-pass-clause-leads
returns-in_err-pass-clause-leads c = rw c.in_err-pass.ensures.kept (cut _ _ _ _ c.requires)

pub returns-clause-next : goal.returns-clause-next
returns-clause-next c = rw c.in_ok-pass.ensures.added (new_leads _ _ _ _ (step_of c.args.step, value_view c.in-Some.value.value.now) c.requires (sym c.in-Some.ensures))

pub returns-clause-leads : goal.returns-clause-leads
returns-clause-leads c = leads (value_view c.args.root.value.now) (map passed_view c.pass.new.passed.items) (suc c.args.depth) (value_view c.in-Some.value.value.now) (returns-clause-next c)
