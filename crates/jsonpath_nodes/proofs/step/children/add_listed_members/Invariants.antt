use Rattle.std.proofs.Common.{◌≡◌, ◌++◌, map, drop}
use Rattle.jsonpath_nodes.specs.document.Document.{object}
use Rattle.jsonpath_nodes.specs.place.Location.{name}
use Rattle.jsonpath_nodes.specs.place.Mark.{shown, look_kept_from}
use Rattle.jsonpath_nodes.specs.step.Steps.{present}
use Rattle.jsonpath_nodes.proofs.step.EachLemmas.{each_sights}
use Rattle.jsonpath_nodes.proofs.step.children.add_listed_members.Given as goal

abbrev pub invariant-loop-name : goal.invariant-loop-name
invariant-loop-name g l =
    let d = object (g.M.Tree.Tree.members l.members) in
    let look = look_kept_from g.M.Descends.located (g.M.Descends.members_stand l.here) d in
    map (shown g.M.Descends.stand g.M.Descends.content) l.out.items ++ each_sights (λ k. present d (name k.now)) look (drop l.name-index l.names)
    ≡ map (shown g.M.Descends.stand g.M.Descends.content) l.initial.out.items ++ each_sights (λ k. present d (name k.now)) look l.names
