use Rattle.std.proofs.Common.{◌≡◌, Some, arith}
use Rattle.json.specs.Value.{value_view}
use Rattle.json_trees.specs.ExactAt.{exact_at}
use Rattle.jpath_core.specs.Nodes.{location_of}
use Rattle.jpath_core.proofs.LineLemmas.{has_numbers_at}
use Rattle.jpath_core.proofs.printable_value.printable_value_at_node.Goals as goal

pub returns-in-Some-clause-writable : goal.returns-in-Some-clause-writable
returns-in-Some-clause-writable c =
    let stands : Some (value_view c.in-Some.value.value.now) ≡ exact_at (value_view c.args.root.value.now) (location_of c.args.node.now) = grind arith in
    has_numbers_at (location_of c.args.node.now) (value_view c.args.root.value.now) (value_view c.in-Some.value.value.now) c.requires.writable stands
