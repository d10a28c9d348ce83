use Rattle.std.proofs.Common.{drop}
use Rattle.jsonpath_nodes.specs.document.Document.{Document}
use Rattle.jsonpath_nodes.specs.document.OfData.{value_document}
use Rattle.jsonpath_nodes.specs.update.Run.{RunsWith}
use Rattle.jsonpath_nodes.proofs.update.each.replace_at.Given as goal

-- a run over what is left completes the run
abbrev pub invariant-loop-location : goal.invariant-loop-location
invariant-loop-location g l = record {
  callable : goal.F-IsAlwaysCallable g l.f;
  completes : (h : _) (after : Document) → RunsWith g.F.FnMut (drop l.location-index l.locations) (value_document l.value) l.f h after
      → RunsWith g.F.FnMut l.locations (value_document l.initial.value) l.initial.f h after;
}
