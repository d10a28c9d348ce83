use Rattle.std.proofs.Common.{drop}
use Rattle.jsonpath_nodes.specs.document.Document.{Document}
use Rattle.jsonpath_nodes.specs.document.OfData.{value_document}
use Rattle.jsonpath_nodes.specs.update.Trial.{IsTrial}
use Rattle.jsonpath_nodes.proofs.update.fallible.try_replace_at.Given as goal

-- a trial over what is left completes the trial
abbrev pub invariant-loop-location : goal.invariant-loop-location
invariant-loop-location g l = record {
  callable : goal.F-IsAlwaysCallable g l.f;
  completes : (outcome : _) (h : _) (after : Document) → IsTrial g.F.FnMut (drop l.location-index l.locations) (value_document l.value) l.f outcome h after
      → IsTrial g.F.FnMut l.locations (value_document l.initial.value) l.initial.f outcome h after;
}
