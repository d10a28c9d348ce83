use Rattle.std.proofs.Common.{List, map, ap, sym, ◌∙◌}
use Rattle.std.proofs.lemmas.List.Folds.{flat_map-map}
use Rattle.jsonpath_nodes.specs.document.Document.{object}
use Rattle.jsonpath_nodes.specs.place.Location.{Step, name}
use Rattle.jsonpath_nodes.specs.place.Mark.{look_kept_from}
use Rattle.jsonpath_nodes.specs.step.Steps.{present}
use Rattle.jsonpath_nodes.proofs.step.EachLemmas.{each_done, each_sights-flat_map, singles}
use Rattle.jsonpath_nodes.proofs.step.children.add_listed_members.Goals as goal

pub returns : goal.returns
returns g c =
    let d = object (g.M.Tree.Tree.members c.args.members) in
    let look = look_kept_from g.M.Descends.located (g.M.Descends.members_stand c.args.here.now) d in
    each_done (λ k. present d (name k.now)) look c.loop-name.name-index c.args.names.now _ _ _ c.loop-name-test.false c.loop-name.invariant
    (each_sights-flat_map (λ k. present d (name k.now)) look c.args.names.now
    ∙ ap (λ (ss : List Step). map look (singles ss)) (sym (flat_map-map (λ k. present d (name k)) (λ k. k.now) c.args.names.now)))
