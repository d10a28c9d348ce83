use Rattle.std.proofs.Common.{◌≡◌, suc, ◌+◌, ◌∷◌, List, drop, add-one, refl, sym, ap, ◌∙◌, arith, Result, Ok, Err, Bool, IsOkAnd}
use Rattle.std.proofs.Math.Seq.{drop-cons}
use Rattle.jsonpath_nodes.specs.document.Document.{Document}
use Rattle.jsonpath_nodes.specs.document.OfData.{value_document}
use Rattle.jsonpath_nodes.specs.declared.memory.NoMemory.{NoMemory}
use Rattle.jsonpath_nodes.specs.place.Location.{Location}
use Rattle.jsonpath_nodes.specs.update.Calls.{UpdateCalls, IsUpdate}
use Rattle.jsonpath_nodes.specs.update.Run.{RunsWith}
use Rattle.jsonpath_nodes.proofs.update.RunLemmas.{next}
use Rattle.jsonpath_nodes.proofs.update.each.replace_at.Goals as goal

next_of : {F : Type 0} (calls : UpdateCalls F) (l : Location) (ls : List Location) (before mid after : Document) (f g h : F) (asked : Result Bool NoMemory)
    → IsOkAnd asked (λ a. IsUpdate calls l before f a g mid) → RunsWith calls ls mid g h after → RunsWith calls (l ∷ ls) before f h after
next_of calls l ls before mid after f g h (Ok a) u r = next calls l ls before mid after f g h a u r
next_of calls l ls before mid after f g h (Err e) u r = absurd u

pub loop-location-preserved : goal.loop-location-preserved
loop-location-preserved g c = record {
  callable = c.update_at-asked.ensures.callable;
  completes = λ h after r.
      let ls = c.args.locations.now in
      let i = c.loop-location.location-index in
      let l = c.location-item.result in
      let rest : List Location = drop (i + 1) ls in
      let left : drop i ls ≡ l ∷ rest = drop-cons ls i l (omega arith) ∙ ap (λ x. x ∷ drop (suc i) ls) (sym c.location-item.is) ∙ rw add-one refl in
      c.loop-location.invariant.completes h after
      (rw left (next_of g.F.FnMut l rest (value_document c.loop-location.value) (value_document c.update_at-asked.new.value) after c.loop-location.f c.update_at-asked.new.f h c.update_at-asked.result c.update_at-asked.ensures.updated r));
}
