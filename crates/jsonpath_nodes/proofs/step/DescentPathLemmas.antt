-- What of the path of a descent is shared, as it goes down and up.
use Rattle.std.proofs.Common.{◌≡◌, ℕ, zero, suc, ◌+◌, ◌-◌, ◌<◌, ◌≤◌, List, [], ◌∷◌, ◌++◌, map, length, take, get_or, set, refl, sym, ap, ◌∙◌, append_assoc, append-nil, arith}
use Rattle.std.proofs.lemmas.List.{map-append, take_more}
use Rattle.jsonpath_nodes.specs.place.Location.{Location}
use Rattle.jsonpath_nodes.specs.place.SpotPlace.{held_path_location}
use Rattle.jsonpath_nodes.specs.plan.DescentPath.{LeadAlong, location_after}
use Rattle.jsonpath_nodes.specs.plan.Way.{down_step}
use Rattle.jsonpath_nodes.specs.declared.step.descends.DownStep.{DownStep}
use Rattle.jsonpath_nodes.specs.declared.place.trail.HeldPathToContainer.{HeldPathToContainer}

module _ {N : Type 0} (bytes : N → List ℕ) where
  -- ---- down and up

  pub along_longer : (l : Location) (steps more : List (DownStep N)) (ts : List (HeldPathToContainer N)) → LeadAlong bytes l steps ts → LeadAlong bytes l (steps ++ more) ts
  along_longer l steps more [] h = tt
  along_longer l [] [] (t ∷ ts) h = h
  along_longer l [] (s ∷ more) (t ∷ ts) h = grind arith
  along_longer l (s ∷ steps) more (t ∷ ts) h = (h.0, along_longer (l ++ down_step bytes s ∷ []) steps more ts h.1)

  pub along_shorter : (l : Location) (n : ℕ) (steps : List (DownStep N)) (ts : List (HeldPathToContainer N)) → LeadAlong bytes l steps ts → LeadAlong bytes l (take n steps) (take (suc n) ts)
  along_shorter l n steps [] h = tt
  along_shorter l zero [] (t ∷ ts) h = (h.0, refl)
  along_shorter l zero (s ∷ steps) (t ∷ ts) h = (h.0, refl)
  along_shorter l (suc n) [] (t ∷ ts) h = (h.0, ap (take (suc n)) h.1)
  along_shorter l (suc n) (s ∷ steps) (t ∷ ts) h = (h.0, along_shorter (l ++ down_step bytes s ∷ []) n steps ts h.1)

  -- without the last step
  pub along_left : (l : Location) (steps : List (DownStep N)) (ts : List (HeldPathToContainer N)) → LeadAlong bytes l steps ts → LeadAlong bytes l (take (length steps - 1) steps) (take (length steps) ts)
  along_left l steps ts h = grind (arith, along_shorter)

  -- ---- where each leads, and one more

  pub leads_there : (l : Location) (steps : List (DownStep N)) (ts : List (HeldPathToContainer N)) (k : ℕ) (d : HeldPathToContainer N) → LeadAlong bytes l steps ts → k < length ts
      → held_path_location bytes (get_or ts k d) ≡ location_after bytes l (take k steps)
  leads_there l steps [] k d h below = absurd (omega arith)
  leads_there l [] (t ∷ ts) zero d h below = h.0 ∙ sym (append-nil l)
  leads_there l (s ∷ steps) (t ∷ ts) zero d h below = h.0 ∙ sym (append-nil l)
  leads_there l [] (t ∷ ts) (suc k) d h below = absurd (omega (arith, ap length h.1))
  leads_there l (s ∷ steps) (t ∷ ts) (suc k) d h below =
      leads_there (l ++ down_step bytes s ∷ []) steps ts k d h.1 (omega arith) ∙ append_assoc l (down_step bytes s ∷ []) (map (down_step bytes) (take k steps))

  pub along_more : (l : Location) (steps : List (DownStep N)) (ts : List (HeldPathToContainer N)) (t : HeldPathToContainer N) → LeadAlong bytes l steps ts → length ts ≤ length steps
      → held_path_location bytes t ≡ location_after bytes l (take (length ts) steps) → LeadAlong bytes l steps (ts ++ t ∷ [])
  along_more l [] [] t h within is = (is ∙ append-nil l, refl)
  along_more l (s ∷ steps) [] t h within is = (is ∙ append-nil l, tt)
  along_more l [] (u ∷ ts) t h within is = absurd (omega arith)
  along_more l (s ∷ steps) (u ∷ ts) t h within is = grind (arith, along_more (l ++ down_step bytes s ∷ []) steps ts t h.1 (omega arith) (is ∙ sym (append_assoc l (down_step bytes s ∷ []) (map (down_step bytes) (take (length ts) steps)))))

  pub one_further : (l : Location) (steps : List (DownStep N)) (k : ℕ) (d : DownStep N) → k < length steps
      → location_after bytes l (take k steps) ++ down_step bytes (get_or steps k d) ∷ [] ≡ location_after bytes l (take (k + 1) steps)
  one_further l steps k d below =
      append_assoc l (map (down_step bytes) (take k steps)) (down_step bytes (get_or steps k d) ∷ [])
      ∙ ap (λ (xs : Location). l ++ xs) (sym (ap (map (down_step bytes)) (take_more steps k d below) ∙ map-append (down_step bytes) (take k steps) (get_or steps k d ∷ [])))

  -- the same place held in another way
  pub along_put : (l : Location) (steps : List (DownStep N)) (ts : List (HeldPathToContainer N)) (k : ℕ) (t : HeldPathToContainer N) → LeadAlong bytes l steps ts → held_path_location bytes t ≡ held_path_location bytes (get_or ts k t) → LeadAlong bytes l steps (set ts k t)
  along_put l steps [] k t h same = tt
  along_put l [] (u ∷ ts) zero t h same = (same ∙ h.0, h.1)
  along_put l (s ∷ steps) (u ∷ ts) zero t h same = (same ∙ h.0, h.1)
  along_put l [] (u ∷ ts) (suc k) t h same = (h.0, ap (λ (us : List (HeldPathToContainer N)). set us k t) h.1)
  along_put l (s ∷ steps) (u ∷ ts) (suc k) t h same = (h.0, along_put (l ++ down_step bytes s ∷ []) steps ts k t h.1 same)
