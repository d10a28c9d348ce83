-- Values passed on the way from a tree's root.
use Rattle.std.proofs.Common.{◌≡◌, ℕ, zero, suc, List, [], ◌∷◌, ◌++◌, length, take, drop, map, option_and_then, Some, refl, sym, ap, ◌∙◌, ◌≤◌, arith}
use Rattle.std.specs.List.{slice_get}
use Rattle.json.specs.Json.{Json}
use Rattle.jsonpath_nodes.specs.place.Location.{Step}
use Rattle.json_trees.specs.ExactAt.{exact_child, exact_at}
use Rattle.json_trees.specs.Way.{values_along, Leads, LeadsTo, last_of}

first_leads : (j : Json) (p : Step × Json) (ps : List (Step × Json)) → Leads j (p ∷ ps) → exact_child p.0 j ≡ Some p.1
first_leads j p ps h = cc

rest_leads : (j : Json) (p : Step × Json) (ps : List (Step × Json)) → Leads j (p ∷ ps) → Leads p.1 ps
rest_leads j p ps h = ap (λ o. values_along o (map (λ p. p.0) ps)) (sym (first_leads j p ps h)) ∙ cc

both_lead : (j : Json) (p : Step × Json) (ps : List (Step × Json)) → exact_child p.0 j ≡ Some p.1 → Leads p.1 ps → Leads j (p ∷ ps)
both_lead j p ps h rest = rw h (ap (λ l. Some p.1 ∷ l) rest)

pub leads : (j : Json) (ps : List (Step × Json)) (n : ℕ) (here : Json) → LeadsTo j ps n here → Leads j ps
leads j ps zero here h = h.1
leads j [] (suc n) here h = absurd h
leads j (p ∷ ps) (suc n) here h = both_lead j p ps h.0 (leads p.1 ps n here h.1)

pub at_last : (j : Json) (ps : List (Step × Json)) (n : ℕ) → Leads j ps → n ≤ length ps → LeadsTo j ps n (last_of j ps n)
at_last j ps zero h few = (refl, h)
at_last j [] (suc n) h few = absurd (omega (arith, few))
at_last j (p ∷ ps) (suc n) h few = (first_leads j p ps h, at_last p.1 ps n (rest_leads j p ps h) (omega (arith, few)))

pub rest_from_last : (j : Json) (ps : List (Step × Json)) (n : ℕ) (ss : List Step) → Leads j ps → n ≤ length ps → take n (map (λ p. p.0) ps) ≡ take n ss → exact_at j ss ≡ exact_at (last_of j ps n) (drop n ss)
rest_from_last j ps zero ss h few same = refl
rest_from_last j [] (suc n) ss h few same = absurd (omega (arith, few))
rest_from_last j (p ∷ ps) (suc n) [] h few same = absurd (cc)
rest_from_last j (p ∷ ps) (suc n) (s ∷ ss) h few same =
    let first : p.0 ≡ s = cc in
    let others : take n (map (λ p. p.0) ps) ≡ take n ss = cc in
    ap (λ o. option_and_then (λ c. exact_at c ss) o) (ap (λ s. exact_child s j) (sym first) ∙ first_leads j p ps h) ∙ rest_from_last p.1 ps n ss (rest_leads j p ps h) (omega (arith, few)) others

pub last_there : (j : Json) (ps : List (Step × Json)) (n : ℕ) (p : Step × Json) → slice_get ps n ≡ Some p → last_of j ps (suc n) ≡ p.1
last_there j [] n p is = absurd (cc)
last_there j (q ∷ ps) zero p is = let same : q ≡ p = cc in ap (λ p. p.1) same
last_there j (q ∷ ps) (suc n) p is = last_there q.1 ps n p is

pub cut : (j : Json) (ps : List (Step × Json)) (n : ℕ) (here : Json) → LeadsTo j ps n here → Leads j (take n ps)
cut j ps zero here h = refl
cut j [] (suc n) here h = absurd h
cut j (p ∷ ps) (suc n) here h = both_lead j p (take n ps) h.0 (cut p.1 ps n here h.1)

pub new_leads : (j : Json) (ps : List (Step × Json)) (n : ℕ) (here : Json) (p : Step × Json) → LeadsTo j ps n here → exact_child p.0 here ≡ Some p.1 → LeadsTo j (take n ps ++ p ∷ []) (suc n) p.1
new_leads j ps zero here p h is = (rw h.0 is, (refl, refl))
new_leads j [] (suc n) here p h is = absurd h
new_leads j (q ∷ ps) (suc n) here p h is = (h.0, new_leads q.1 ps n here p h.1 is)

pub within : (j : Json) (ps : List (Step × Json)) (n : ℕ) (here : Json) → LeadsTo j ps n here → n ≤ length ps
within j ps zero here h = omega arith
within j [] (suc n) here h = absurd h
within j (p ∷ ps) (suc n) here h = omega (arith, within p.1 ps n here h.1)
