use Rattle.std.proofs.Common.{refl, arith}
use Rattle.jsonpath_nodes.proofs.update.GroupLemmas.{group_begins, stands}
use Rattle.jsonpath_nodes.proofs.update.at_once.take.group_len.Goals as goal

pub loop-location-init : goal.loop-location-init
loop-location-init c =
    let there = stands c.args.depth c.steps.result.now c.steps.ensures c.in-Some-get.ensures.lookup.3.0 c.in-Some-get.ensures.lookup.1 refl in
    let same = group_begins c.args.depth c.in-Some.ensures.cases.0 there in
    record { each = refl; count = omega arith }
