-- The topmost of a list of locations; and a set in document order.
use Rattle.std.proofs.Common.{◌≡◌, ◌⊎◌, inl, inr, List, [], ◌∷◌, ◌++◌, map, Option, Some, None, Bool, true, false, cond, Less, Equal, Greater, refl, sym, ap, ap₂, ◌∙◌, append_assoc, append-nil, subst, arith}
use Rattle.std.specs.Prelude.{option_and_then, option_map, unwrap_or}
use Rattle.std.proofs.lemmas.Bool.{and_parts}
use Rattle.std.specs.List.{AllByRecursion}
use Rattle.std.specs.List.Sorted.{IsStrictlySortedBy}
use Rattle.std.specs.Ordering.{ordering_reverse}
use Rattle.jsonpath_nodes.specs.document.Document.{Document}
use Rattle.jsonpath_nodes.specs.place.Location.{Step, Location, at, below, step_cmp, location_cmp}
use Rattle.jsonpath_nodes.specs.place.Order.{IsOrderedDocument, location_total, once_in_order}
use Rattle.jsonpath_nodes.specs.step.Steps.{from, all_below}
use Rattle.jsonpath_nodes.specs.update.Topmost.{same_step, begins_with}
use Rattle.jsonpath_nodes.specs.step.SameMembers.{SameMembers, OneListOfASet, is_at_or_below, topmost, topmost_after, BelowOfTheTopmost, DescentOfTheTopmost}
use Rattle.jsonpath_nodes.proofs.place.CompleteLemmas.{IsAmong, among_map, among_mapped, below_complete, below_sound}
use Rattle.jsonpath_nodes.proofs.step.ChildLemmas.{document_at}
use Rattle.jsonpath_nodes.proofs.place.LeadLemmas.{at-append}
use Rattle.jsonpath_nodes.proofs.update.MemberLemmas.{keeps_members, location-tied}
use Rattle.jsonpath_nodes.proofs.step.OnceLemmas.{step_same}
use Rattle.jsonpath_nodes.proofs.update.GroupLemmas.{is_equal}
use Rattle.jsonpath_nodes.proofs.place.OrderLemmas.{once_in_order-sorted}
use Rattle.jsonpath_nodes.proofs.step.SameMemberLemmas.{Covers, covers, covers_back, same_members, same-trans, same-sym, from_each_to, from_each_back, step_of_a_set}
use Rattle.jsonpath_nodes.proofs.update.SetLemmas.{step_eq}

-- ---- beginnings

same_step_is : (t s : Step) → same_step t s ≡ true → t ≡ s
same_step_is t s e = step_same t s (is_equal (step_cmp t s) (sym (step_eq t s) ∙ e))

-- what a location begins goes on from it
goes_on : (m l : Location) → begins_with m l ≡ true → (k : Location) × (m ++ k ≡ l)
goes_on [] l h = (l, refl)
goes_on (s ∷ m) [] h = cc
goes_on (s ∷ m) (t ∷ l) h =
    let parts = and_parts (same_step t s) (begins_with m l) h in
    let rest = goes_on m l parts.1 in
    (rest.0, ap₂ (λ (x : Step) (xs : Location). x ∷ xs) (sym (same_step_is t s parts.0)) rest.1)

-- ---- what is left of a list

left_back : (last : Option Location) (l : Location) (ls : List Location) → IsAmong l (topmost_after last ls) → IsAmong l ls
left_back last l [] h = h
left_back last l (m ∷ ls) h = grind (arith, left_back last l ls, left_back (Some m) l ls)

-- at or above a location stands one that is left, or the one that was kept last
abbrev Higher : Option Location → List Location → Location → Type 0
Higher last left l = (m : Location) × (k : Location) × (m ++ k ≡ l) × (IsAmong m left ⊎ (last ≡ Some m))

some_is : (m l : Location) → (let o : Option Location = Some m in o) ≡ Some l → m ≡ l
some_is m l e = cc

higher : (last : Option Location) (l : Location) (ls : List Location) → IsAmong l ls → Higher last (topmost_after last ls) l
higher last l [] h = elim h [ ]
higher last l (x ∷ ls) h = by (is_at_or_below last x) refl h (higher last l ls) (higher (Some x) l ls)
  where
    covered : (o : Option Location) → last ≡ o → is_at_or_below o x ≡ true → l ≡ x → Higher last (topmost_after last ls) l
    covered None is e same = cc
    covered (Some m) is e same = let on = goes_on m x e in (m, on.0, on.1 ∙ sym same, inr is)

    later : Higher (Some x) (topmost_after (Some x) ls) l → Higher last (x ∷ topmost_after (Some x) ls) l
    later (m, k, on, inl a) = (m, k, on, inl (inr a))
    later (m, k, on, inr is) = (m, k, on, inl (inl (sym (some_is x m is))))

    by : (b : Bool) → is_at_or_below last x ≡ b → IsAmong l (x ∷ ls) → (IsAmong l ls → Higher last (topmost_after last ls) l) → (IsAmong l ls → Higher (Some x) (topmost_after (Some x) ls) l)
        → Higher last (cond b (topmost_after last ls) (x ∷ topmost_after (Some x) ls)) l
    by true is (inl e) old new = covered last refl is e
    by true is (inr a) old new = old a
    by false is (inl e) old new = (l, [], append-nil l, inl (inl e))
    by false is (inr a) old new = later (new a)

-- ---- below

below_back : (doc : Document) (l x : Location) → IsOrderedDocument doc → IsAmong x (from doc below l) → (y : Location) × (c : Document) × (x ≡ l ++ y) × (at doc (l ++ y) ≡ Some c)
below_back doc l x docs h = by (at doc l) refl h
  where
    by : (o : Option Document) → at doc l ≡ o → IsAmong x (map (λ (y : Location). l ++ y) (unwrap_or (option_map below o) [])) → (y : Location) × (c : Document) × (x ≡ l ++ y) × (at doc (l ++ y) ≡ Some c)
    by None is k = elim k [ ]
    by (Some d) is k =
        let found = among_mapped (λ (y : Location). l ++ y) x (below d) k in
        let value = below_sound found.0 d (document_at l doc d docs is) found.2 in
        (found.0, value.0, found.1, at-append l found.0 doc ∙ ap (option_and_then (λ (c : Document). at c found.0)) is ∙ value.1)

below_to : (doc : Document) (m z : Location) (c : Document) → at doc (m ++ z) ≡ Some c → IsAmong (m ++ z) (from doc below m)
below_to doc m z c h = grind (arith, among_map, at-append, below_complete)

below_higher : (doc : Document) (l m k x : Location) → IsOrderedDocument doc → m ++ k ≡ l → IsAmong x (from doc below l) → IsAmong x (from doc below m)
below_higher doc l m k x docs is h =
    let found = below_back doc l x docs h in
    let y = found.0 in
    let same : l ++ y ≡ m ++ (k ++ y) = ap (λ (n : Location). n ++ y) (sym is) ∙ append_assoc m k y in
    subst (λ (n : Location). IsAmong n (from doc below m)) (sym (found.2 ∙ same)) (below_to doc m (k ++ y) found.1 (ap (at doc) (sym same) ∙ found.3))

pub below_of_the_topmost : BelowOfTheTopmost
below_of_the_topmost doc ls docs =
    same_members (all_below doc (topmost ls)) (all_below doc ls)
    (λ x h.
    let found = from_each_back doc below x (topmost ls) h in
    from_each_to doc below found.0 x ls (left_back None found.0 ls found.1) found.2)
    (λ x h. let found = from_each_back doc below x ls h in up x found.0 found.2 (higher None found.0 ls found.1))
  where
    up : (x l : Location) → IsAmong x (from doc below l) → Higher None (topmost ls) l → IsAmong x (all_below doc (topmost ls))
    up x l a (m, k, on, inl left) = from_each_to doc below m x (topmost ls) left (below_higher doc l m k x docs on a)
    up x l a (m, k, on, inr none) = cc

pub topmost_descend_to_same_set : DescentOfTheTopmost
topmost_descend_to_same_set doc p ls docs = step_of_a_set doc p (all_below doc (topmost ls)) (all_below doc ls) (below_of_the_topmost doc ls docs)

-- ---- in document order

pub all_at : (x l : Location) (ls : List Location) → AllByRecursion (λ m. location_cmp x m ≡ Less) ls → IsAmong l ls → location_cmp x l ≡ Less
all_at x l [] h a = elim a [ ]
all_at x l (m ∷ ls) h (inl e) = ap (location_cmp x) e ∙ h.0
all_at x l (m ∷ ls) h (inr a) = all_at x l ls h.1 a

pub not_before_itself : (l : Location) → location_cmp l l ≡ Less → ⊥
not_before_itself l h = absurd (let bad : Equal ≡ Less = sym (location-tied l) ∙ h in cc)

pub not_both_before : (l m : Location) → location_cmp l m ≡ Less → location_cmp m l ≡ Less → ⊥
not_both_before l m h k = absurd (let bad : Less ≡ Greater = sym h ∙ location_total.antisymm l m ∙ ap ordering_reverse k in cc)

-- of two lists that ascend and begin alike, what is left of the first is among what is left of the second
pub left_covers : (x y : Location) (xs ys : List Location) → x ≡ y → AllByRecursion (λ m. location_cmp x m ≡ Less) xs → Covers (x ∷ xs) (y ∷ ys) → Covers xs ys
left_covers x y xs ys is less h l a = by (h l (inr a))
  where
    by : (l ≡ y) ⊎ IsAmong l ys → IsAmong l ys
    by (inl e) = absurd (not_before_itself x (ap (location_cmp x) (is ∙ sym e) ∙ all_at x l xs less a))
    by (inr k) = k

sorted_same : (xs ys : List Location) → IsStrictlySortedBy location_cmp xs → IsStrictlySortedBy location_cmp ys → Covers xs ys → Covers ys xs → xs ≡ ys
unfolding IsStrictlySortedBy
sorted_same [] [] h k to back = refl
sorted_same [] (y ∷ ys) h k to back = elim (back y (inl refl)) [ ]
sorted_same (x ∷ xs) [] h k to back = elim (to x (inl refl)) [ ]
sorted_same (x ∷ xs) (y ∷ ys) h k to back = by (to x (inl refl)) (back y (inl refl)) (sorted_same xs ys h.1 k.1)
  where
    alike : x ≡ y → (Covers xs ys → Covers ys xs → xs ≡ ys) → x ∷ xs ≡ y ∷ ys
    alike is go = ap₂ (λ (z : Location) (zs : List Location). z ∷ zs) is (go (left_covers x y xs ys is h.0 to) (left_covers y x ys xs (sym is) k.0 back))

    by : (x ≡ y) ⊎ IsAmong x ys → (y ≡ x) ⊎ IsAmong y xs → (Covers xs ys → Covers ys xs → xs ≡ ys) → x ∷ xs ≡ y ∷ ys
    by (inl e) other go = alike e go
    by (inr a) (inl e) go = alike (sym e) go
    by (inr a) (inr b) go = absurd (not_both_before x y (all_at x y xs h.0 b) (all_at y x ys k.0 a))

pub one_list_of_a_set : OneListOfASet
one_list_of_a_set ls ms h =
    let same : SameMembers (once_in_order ls) (once_in_order ms) =
    same-trans (once_in_order ls) ls (once_in_order ms) (keeps_members ls) (same-trans ls ms (once_in_order ms) h (same-sym (once_in_order ms) ms (keeps_members ms))) in
    sorted_same (once_in_order ls) (once_in_order ms) (once_in_order-sorted ls) (once_in_order-sorted ms) (covers (once_in_order ls) (once_in_order ms) same) (covers_back (once_in_order ls) (once_in_order ms) same)
