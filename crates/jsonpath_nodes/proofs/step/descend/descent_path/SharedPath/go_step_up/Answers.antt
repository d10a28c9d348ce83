use Rattle.std.proofs.Common.{◌≡◌, length, vec_len, arith}
use Rattle.jsonpath_nodes.specs.place.SpotPlace.{location_at}
use Rattle.jsonpath_nodes.proofs.step.DescentPathLemmas.{along_left}
use Rattle.jsonpath_nodes.proofs.step.descend.descent_path.SharedPath.go_step_up.Goals as goal

pub returns-clause-descent : goal.returns-clause-descent
returns-clause-descent g c =
    let t = c.args.self.now in
    let count : vec_len t.steps ≡ length t.steps.items = omega arith in
    rw (c.truncate.ensures.items, c.pop-last.ensures.rest, c.len.ensures, count) (along_left g.N.Name.bytes (location_at g.N.Name.bytes t.start) t.steps.items t.shared.items c.requires)
