-- Each location once, at its first place: joined lists, and lists below one step.
use Rattle.std.proofs.Common.{◌≡◌, List, [], ◌∷◌, ◌++◌, map, Bool, true, false, cond, inl, is_eq, refl, sym, ap, ◌∙◌, append_assoc, append-nil, arith}
use Rattle.std.specs.List.{list_any}
use Rattle.jsonpath_nodes.specs.place.Location.{Step, Location, is_same}
use Rattle.jsonpath_nodes.specs.step.Steps.{each_once, each_once_after}
use Rattle.jsonpath_nodes.specs.update.Topmost.{same_step, under}
use Rattle.jsonpath_nodes.proofs.update.MemberLemmas.{location-tied}
use Rattle.jsonpath_nodes.proofs.update.SetLemmas.{step_eq, same_itself, same_back}
use Rattle.jsonpath_nodes.proofs.place.CompleteLemmas.{among_back}
use Rattle.jsonpath_nodes.proofs.step.SameMemberLemmas.{any_to}
use Rattle.jsonpath_nodes.proofs.step.ListLemmas.{map-nothing, map-step}

-- ---- joined lists

pub each_once_after-append : (before xs ys : List Location)
    → each_once_after before (xs ++ ys) ≡ each_once_after before xs ++ each_once_after (before ++ each_once_after before xs) ys
each_once_after-append before [] ys = ap (λ (ms : List Location). each_once_after ms ys) (sym (append-nil before))
each_once_after-append before (x ∷ xs) ys = by (list_any (is_same x) before) (each_once_after-append before xs ys) (each_once_after-append (before ++ x ∷ []) xs ys)
  where
    by : (b : Bool) → each_once_after before (xs ++ ys) ≡ each_once_after before xs ++ each_once_after (before ++ each_once_after before xs) ys
        → each_once_after (before ++ x ∷ []) (xs ++ ys) ≡ each_once_after (before ++ x ∷ []) xs ++ each_once_after ((before ++ x ∷ []) ++ each_once_after (before ++ x ∷ []) xs) ys
        → cond b (each_once_after before (xs ++ ys)) (x ∷ each_once_after (before ++ x ∷ []) (xs ++ ys))
        ≡ cond b (each_once_after before xs) (x ∷ each_once_after (before ++ x ∷ []) xs)
        ++ each_once_after (before ++ cond b (each_once_after before xs) (x ∷ each_once_after (before ++ x ∷ []) xs)) ys
    by true known new = known
    by false known new =
        let rest = each_once_after (before ++ x ∷ []) xs in
        ap (λ (ms : List Location). x ∷ ms) new
        ∙ ap (λ (ms : List Location). x ∷ rest ++ each_once_after ms ys) (append_assoc before (x ∷ []) rest)

-- ---- what was given before

pub nothing_new_after : (before xs : List Location) → each_once_after (before ++ xs) xs ≡ []
nothing_new_after before [] = refl
nothing_new_after before (x ∷ xs) =
    let all = before ++ x ∷ xs in
    let later : each_once_after all xs ≡ [] = ap (λ (ms : List Location). each_once_after ms xs) (sym (append_assoc before (x ∷ []) xs)) ∙ nothing_new_after (before ++ x ∷ []) xs in
    ap (λ (b : Bool). cond b (each_once_after all xs) (x ∷ each_once_after (all ++ x ∷ []) xs)) (any_to (is_same x) x all (among_back x before (x ∷ xs) (inl refl)) (ap is_eq (location-tied x))) ∙ later

-- ---- below one step

pub under-append : (s : Step) (xs ys : List Location) → under s (xs ++ ys) ≡ under s xs ++ under s ys
under-append s [] ys = refl
under-append s ([] ∷ xs) ys = under-append s xs ys
under-append s ((t ∷ l) ∷ xs) ys = grind (arith, under-append s xs ys)

pub under-same : (s : Step) (xs : List Location) → under s (map (λ (m : Location). s ∷ m) xs) ≡ xs
under-same s [] = refl
under-same s (x ∷ xs) = grind (arith, same_itself, under-same s xs)

pub under-other : (s t : Step) (xs : List Location) → same_step t s ≡ false → under s (map (λ (m : Location). t ∷ m) xs) ≡ []
under-other s t [] h = refl
under-other s t (x ∷ xs) h = grind (arith, under-other s t xs h)

any_under : (s : Step) (l : Location) (before : List Location) → list_any (is_same (s ∷ l)) before ≡ list_any (is_same l) (under s before)
any_under s l [] = refl
any_under s l ([] ∷ before) = any_under s l before
any_under s l ((t ∷ m) ∷ before) = grind (arith, same_back, step_eq, any_under s l before)

pub each_once_after-step : (s : Step) (before xs : List Location)
    → each_once_after before (map (λ (m : Location). s ∷ m) xs) ≡ map (λ (m : Location). s ∷ m) (each_once_after (under s before) xs)
each_once_after-step s before [] = refl
each_once_after-step s before (x ∷ xs) =
    ap (λ (b : Bool). cond b (each_once_after before deeper) ((s ∷ x) ∷ each_once_after (before ++ (s ∷ x) ∷ []) deeper)) (any_under s x before)
    ∙ by (list_any (is_same x) (under s before)) (each_once_after-step s before xs) (each_once_after-step s (before ++ (s ∷ x) ∷ []) xs ∙ ap (λ (ms : List Location). map (λ (m : Location). s ∷ m) (each_once_after ms xs)) more)
  where
    deeper : List Location
    deeper = map (λ (m : Location). s ∷ m) xs

    more : under s (before ++ (s ∷ x) ∷ []) ≡ under s before ++ x ∷ []
    more = under-append s before ((s ∷ x) ∷ []) ∙ ap (λ (ms : List Location). under s before ++ ms) (under-same s (x ∷ []))

    by : (b : Bool) → each_once_after before (map (λ (m : Location). s ∷ m) xs) ≡ map (λ (m : Location). s ∷ m) (each_once_after (under s before) xs)
        → each_once_after (before ++ (s ∷ x) ∷ []) (map (λ (m : Location). s ∷ m) xs) ≡ map (λ (m : Location). s ∷ m) (each_once_after (under s before ++ x ∷ []) xs)
        → cond b (each_once_after before (map (λ (m : Location). s ∷ m) xs)) ((s ∷ x) ∷ each_once_after (before ++ (s ∷ x) ∷ []) (map (λ (m : Location). s ∷ m) xs))
        ≡ map (λ (m : Location). s ∷ m) (cond b (each_once_after (under s before) xs) (x ∷ each_once_after (under s before ++ x ∷ []) xs))
    by true known new = known
    by false known new = ap (λ (ms : List Location). (s ∷ x) ∷ ms) new

pub each_once-deeper : (l : Location) (xs : List Location) → each_once (map (λ (m : Location). l ++ m) xs) ≡ map (λ (m : Location). l ++ m) (each_once xs)
each_once-deeper [] xs = ap each_once (map-nothing xs) ∙ sym (map-nothing (each_once xs))
each_once-deeper (s ∷ l) xs =
    ap each_once (map-step s l xs) ∙ each_once_after-step s [] (map (λ (m : Location). l ++ m) xs)
    ∙ ap (map (λ (m : Location). s ∷ m)) (each_once-deeper l xs) ∙ sym (map-step s l (each_once xs))
