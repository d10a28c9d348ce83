use Rattle.std.proofs.Common.{◌≡◌, suc, ◌+◌, ◌∷◌, List, drop, add-one, Err, refl, sym, ap, ◌∙◌, arith}
use Rattle.std.proofs.Math.Seq.{drop-cons}
use Rattle.jsonpath_nodes.specs.document.OfData.{value_document}
use Rattle.jsonpath_nodes.specs.place.Location.{Location}
use Rattle.jsonpath_nodes.specs.place.Owned.{owned_steps}
use Rattle.jsonpath_nodes.proofs.update.TrialLemmas.{goes_on, stops}
use Rattle.jsonpath_nodes.proofs.update.fallible.try_replace_at.Goals as goal

pub loop-location-preserved : goal.loop-location-preserved
loop-location-preserved g c = record {
  callable = c.try_update.ensures.callable;
  completes = λ outcome h after r.
      let ls = c.args.locations.now in
      let i = c.loop-location.location-index in
      let l = c.location-item.result in
      let rest : List Location = drop (i + 1) ls in
      let left : drop i ls ≡ owned_steps c.steps.result.now ∷ rest =
      drop-cons ls i l (omega arith) ∙ ap (λ x. x ∷ drop (suc i) ls) (sym c.location-item.is ∙ sym c.steps.ensures) ∙ rw add-one refl in
      c.loop-location.invariant.completes outcome h after
      (rw left (goes_on g.F.FnMut (owned_steps c.steps.result.now) rest (value_document c.loop-location.value) (value_document c.try_update.new.value) after c.loop-location.f c.try_update.new.f h outcome c.in_default.ensures.tried r));
}

pub returns-in-Err-clause-trial : goal.returns-in-Err-clause-trial
returns-in-Err-clause-trial g c =
    let ls = c.args.locations.now in
    let i = c.loop-location.location-index in
    let l = c.location-item.result in
    let rest : List Location = drop (i + 1) ls in
    let left : drop i ls ≡ owned_steps c.steps.result.now ∷ rest =
    drop-cons ls i l (omega arith) ∙ ap (λ x. x ∷ drop (suc i) ls) (sym c.location-item.is ∙ sym c.steps.ensures) ∙ rw add-one refl in
    c.loop-location.invariant.completes (Err c.in-Err.error) c.try_update.new.f (value_document c.try_update.new.value)
    (rw left (stops g.F.FnMut (owned_steps c.steps.result.now) rest (value_document c.loop-location.value) (value_document c.try_update.new.value) c.loop-location.f c.try_update.new.f c.in-Err.error c.in-Err.ensures.tried))
