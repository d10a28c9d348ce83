use Rattle.std.proofs.Common.{◌∙◌}
use Rattle.jsonpath_nodes.proofs.place.OrderLemmas.{slice_cmp-steps}
use Rattle.jsonpath_nodes.proofs.place.location.compare_locations.Goals as goal

pub returns : goal.returns
returns c = c.cmp.ensures ∙ slice_cmp-steps c.args.a.now c.args.b.now
