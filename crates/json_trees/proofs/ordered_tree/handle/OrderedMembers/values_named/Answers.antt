use Rattle.std.proofs.Common.{◌≡◌, IfOk, length, map, sym, subst, arith}
use Rattle.json.specs.Value.{value_view, members_view}
use Rattle.json_trees.specs.OrderedTree.{places}
use Rattle.json_trees.proofs.EachNameOnceLemmas.{size, size_of, each_once}
use Rattle.json_trees.proofs.ordered_tree.handle.OrderedMembers.values_named.Goals as goal

pub returns-then-len : goal.returns-then-len
returns-then-len c =
    let members = c.args.self.members.now in
    let many : length (places (members_view members.items)) ≡ size (members_view members.items) = omega (arith, c.len.ensures, c.if-len.true, c.len-2.ensures, members.ok.0, size_of members.items) in
    subst (λ js. IfOk c.last_value.result (λ values. map (λ m. value_view m.value.now) values.items ≡ js)) (sym (each_once (members_view members.items) many c.args.name.now)) c.last_value.ensures
