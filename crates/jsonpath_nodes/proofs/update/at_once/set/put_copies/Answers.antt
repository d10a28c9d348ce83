use Rattle.std.proofs.Common.{◌≡◌, ℕ, suc, List, [], ◌∷◌, ◌++◌, map, length, replicate, Some, Bor, add-one, sym, ap, ◌∙◌}
use Rattle.std.proofs.lemmas.List.{map-append, length-append}
use Rattle.jsonpath_nodes.specs.document.Document.{Document}
use Rattle.jsonpath_nodes.specs.document.OfData.{value_document}
use Rattle.jsonpath_nodes.specs.place.Location.{Location}
use Rattle.jsonpath_nodes.specs.update.Run.{update_each_back}
use Rattle.jsonpath_nodes.specs.update.Update.{update}
use Rattle.jsonpath_nodes.proofs.step.CoveredLemmas.{back_last, replicate_last}
use Rattle.jsonpath_nodes.proofs.update.at_once.set.put_copies.Goals as goal

pub loop-location-preserved-in-Some-pop : goal.loop-location-preserved-in-Some-pop
loop-location-preserved-in-Some-pop c = λ d all.
    let now : Bor Location → Location = λ t. t.now in
    let known = c.loop-location.invariant d all in
    let left : List Location = map now c.pop.new.self.items in
    let l = c.in-Some.location.now in
    let copies : List Document = map value_document c.pop-in-Some.new.self.items in
    let more : length c.loop-location.left.items ≡ suc (length c.pop.new.self.items) =
    ap length c.in-Some.ensures.items ∙ length-append c.pop.new.self.items (c.in-Some.location ∷ []) ∙ add-one (length c.pop.new.self.items) in
    let split : copies ++ value_document c.in-Some-pop.copy ∷ [] ≡ replicate (suc (length c.pop.new.self.items)) d =
    sym (ap (map value_document) c.in-Some-pop.ensures.items ∙ map-append value_document c.pop-in-Some.new.self.items (c.in-Some-pop.copy ∷ [])) ∙ known.0 ∙ ap (λ (n : ℕ). replicate n d) more in
    let alike = replicate_last d copies (value_document c.in-Some-pop.copy) (length c.pop.new.self.items) split in
    let whole : map now c.loop-location.left.items ≡ left ++ l ∷ [] = ap (map now) c.in-Some.ensures.items ∙ map-append now c.pop.new.self.items (c.in-Some.location ∷ []) in (
      alike.0,
      ap (update_each_back (Some d) left) (c.put_at.ensures ∙ ap (λ x. update l (Some x) (value_document c.loop-location.value)) alike.1)
          ∙ sym (back_last (Some d) left l (value_document c.loop-location.value)) ∙ sym (ap (λ (ls : List Location). update_each_back (Some d) ls (value_document c.loop-location.value)) whole) ∙ known.1,
    )
