use Rattle.jsonpath_nodes.specs.document.OfData.{value_document}
use Rattle.jsonpath_uses.specs.Routes.{NoneBefore}
use Rattle.jsonpath_uses.proofs.routes.first_route.Given as goal

abbrev pub invariant-loop-number : goal.invariant-loop-number
invariant-loop-number l = NoneBefore l.rules l.number (value_document l.message)
