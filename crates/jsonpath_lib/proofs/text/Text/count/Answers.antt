use Rattle.std.proofs.Common.{◌≡◌, length, map, arith}
use Rattle.std.proofs.lemmas.List.{length-map}
use Rattle.json_trees.specs.AsRead.{text_document}
use Rattle.jsonpath_lib.proofs.text.Text.count.Goals as goal

pub returns-clause-ok : goal.returns-clause-ok
returns-clause-ok g c document tree =
    let found = c.in_ok-found.found in
    let as_many : length (map text_document found.items) ≡ length found.items = simp length-map in
    (map text_document found.items, c.in_ok-found.ensures.ok document tree, omega (arith, c.len.ensures, found.ok.0, as_many))
