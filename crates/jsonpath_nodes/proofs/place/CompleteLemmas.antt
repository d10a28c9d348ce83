-- The locations below the root of a document are exactly those where it has a value.
use Rattle.std.proofs.Common.{◌≡◌, ℕ, zero, suc, ◌+◌, ◌<◌, length, slice_index_or, List, [], ◌∷◌, ◌++◌, map, Option, Some, None, ◌⊎◌, inl, inr, Ordering, Less, Equal, Greater, nat_cmp, refl, sym, ap, ◌∙◌, subst, arith, add-zero}
use Rattle.std.specs.Prelude.{option_and_then, Contains, IsSome}
use Rattle.std.specs.Ordering.{match_ordering}
use Rattle.std.specs.Cmp.Lexicographic.{slice_cmp}
use Rattle.jsonpath_nodes.specs.document.Document.{Document, array, object, Items, no_items, item, Members, no_members, member}
use Rattle.jsonpath_nodes.specs.document.Find.{get_item, get_member}
use Rattle.jsonpath_nodes.specs.place.Location.{Step, name, index, Location, at, child, below}
use Rattle.jsonpath_nodes.specs.place.Order.{IsOrderedDocument}
use Rattle.jsonpath_nodes.specs.DocumentLaws.{BelowIsAll}
use Rattle.jsonpath_nodes.proofs.step.ChildLemmas.{Kid, item_kids, member_kids, through, below_items-kids, below_members-kids, AreAt, all_items_at, members_at, document_child}
use Rattle.jsonpath_nodes.proofs.step.OnceLemmas.{names_same}

abbrev pub IsAmong : Location → List Location → Type 0
IsAmong l [] = ⊥
IsAmong l (m ∷ ms) = (l ≡ m) ⊎ IsAmong l ms

pub among_front : (l : Location) (xs ys : List Location) → IsAmong l xs → IsAmong l (xs ++ ys)
among_front l [] ys h = elim h [ ]
among_front l (x ∷ xs) ys (inl e) = inl e
among_front l (x ∷ xs) ys (inr h) = inr (among_front l xs ys h)

pub among_back : (l : Location) (xs ys : List Location) → IsAmong l ys → IsAmong l (xs ++ ys)
among_back l [] ys h = h
among_back l (x ∷ xs) ys h = inr (among_back l xs ys h)

pub among_map : (to : Location → Location) (l : Location) (xs : List Location) → IsAmong l xs → IsAmong (to l) (map to xs)
among_map to l [] h = elim h [ ]
among_map to l (x ∷ xs) (inl e) = inl (ap to e)
among_map to l (x ∷ xs) (inr h) = inr (among_map to l xs h)

pub among_split : (l : Location) (xs ys : List Location) → IsAmong l (xs ++ ys) → IsAmong l xs ⊎ IsAmong l ys
among_split l [] ys h = inr h
among_split l (x ∷ xs) ys (inl e) = inl (inl e)
among_split l (x ∷ xs) ys (inr h) = by (among_split l xs ys h)
  where
    by : IsAmong l xs ⊎ IsAmong l ys → IsAmong l (x ∷ xs) ⊎ IsAmong l ys
    by (inl k) = inl (inr k)
    by (inr k) = inr k

pub among_mapped : (to : Location → Location) (l : Location) (xs : List Location) → IsAmong l (map to xs) → (m : Location) × (l ≡ to m) × IsAmong m xs
among_mapped to l [] h = elim h [ ]
among_mapped to l (x ∷ xs) (inl e) = (x, e, inl refl)
among_mapped to l (x ∷ xs) (inr h) = let rest = among_mapped to l xs h in (rest.0, rest.1, inr rest.2)

-- ---- below the children

abbrev kids : Document → List Kid
kids (array ds) = item_kids 0 ds
kids (object ms) = member_kids ms
kids _ = []

below-kids : (d : Document) → below d ≡ [] ∷ through below (kids d)
below-kids (array ds) = ap (λ (ls : List Location). [] ∷ ls) (below_items-kids 0 ds)
below-kids (object ms) = ap (λ (ls : List Location). [] ∷ ls) (below_members-kids ms)
below-kids _ = refl

-- a step leads to c among the children
abbrev IsKid : Step → Document → List Kid → Type 0
IsKid s c [] = ⊥
IsKid s c (k ∷ ks) = ((k.0 ≡ s) × (k.1 ≡ c)) ⊎ IsKid s c ks

-- ---- each location that leads somewhere is among them

item_kid : (i n : ℕ) (ds : Items) (c : Document) → get_item i ds ≡ Some c → IsKid (index (n + i)) c (item_kids n ds)
item_kid i n no_items c e = cc
item_kid zero n (item d ds) c e = let same : d ≡ c = cc in inl (ap index (sym (add-zero n)), same)
item_kid (suc i) n (item d ds) c e = grind (arith, item_kid i (suc n) ds c e)

member_kid : (k : List ℕ) (ms : Members) (c : Document) → get_member k ms ≡ Some c → IsKid (name k) c (member_kids ms)
member_kid k no_members c e = cc
member_kid k (member j d ms) c e = by (slice_cmp nat_cmp k j) refl (member_kid k ms c) e
  where
    by : (o : Ordering) → slice_cmp nat_cmp k j ≡ o → (get_member k ms ≡ Some c → IsKid (name k) c (member_kids ms)) → match_ordering o (get_member k ms) (Some d) (get_member k ms) ≡ Some c
        → IsKid (name k) c (member_kids (member j d ms))
    by Less is go e = inr (go e)
    by Equal is go e = let same : d ≡ c = cc in inl (ap name (sym (names_same k j is)), same)
    by Greater is go e = inr (go e)

child_kid : (s : Step) (d c : Document) → child s d ≡ Some c → IsKid s c (kids d)
child_kid s d c e = grind (arith, item_kid, member_kid)

among_through : (s : Step) (c : Document) (l : Location) (ks : List Kid) → IsKid s c ks → IsAmong l (below c) → IsAmong (s ∷ l) (through below ks)
among_through s c l [] k h = elim k [ ]
among_through s c l (j ∷ ks) (inl e) h = grind (arith, among_front, among_map)
among_through s c l (j ∷ ks) (inr k) h = among_back (s ∷ l) (map (λ m. j.0 ∷ m) (below j.1)) (through below ks) (among_through s c l ks k h)

pub below_complete : (l : Location) (d c : Document) → at d l ≡ Some c → IsAmong l (below d)
below_complete [] d c e = subst (IsAmong []) (sym (below-kids d)) (inl refl)
below_complete (s ∷ l) d c e = by (child s d) refl (λ x there. below_complete l x c there) e
  where
    by : (o : Option Document) → child s d ≡ o → ((x : Document) → at x l ≡ Some c → IsAmong l (below x)) → option_and_then (λ x. at x l) o ≡ Some c → IsAmong (s ∷ l) (below d)
    by None is go e = cc
    by (Some x) is go e = subst (IsAmong (s ∷ l)) (sym (below-kids d)) (inr (among_through s x l (kids d) (child_kid s d x is) (go x e)))

-- ---- and each of them is there, in a document

kids_at : (d : Document) → IsOrderedDocument d → AreAt d (kids d)
kids_at (array ds) h = all_items_at ds
kids_at (object ms) h = members_at ms h.0
kids_at _ h = tt

kid_at : (s : Step) (d c : Document) (ks : List Kid) → AreAt d ks → IsKid s c ks → child s d ≡ Some c
kid_at s d c [] h k = elim k [ ]
kid_at s d c (j ∷ ks) h (inl e) = ap (λ (t : Step). child t d) (sym e.0) ∙ h.0 ∙ ap Some e.1
kid_at s d c (j ∷ ks) h (inr k) = kid_at s d c ks h.1 k

-- a location below some child begins with the step to it
abbrev Through : Location → List Kid → Type 0
Through l ks = (s : Step) × (c : Document) × (m : Location) × (l ≡ s ∷ m) × IsKid s c ks × IsAmong m (below c)

through_back : (l : Location) (ks : List Kid) → IsAmong l (through below ks) → Through l ks
through_back l [] h = elim h [ ]
through_back l (k ∷ ks) h = by (among_split l (map (λ (m : Location). k.0 ∷ m) (below k.1)) (through below ks) h) (through_back l ks)
  where
    by : IsAmong l (map (λ (m : Location). k.0 ∷ m) (below k.1)) ⊎ IsAmong l (through below ks) → (IsAmong l (through below ks) → Through l ks) → Through l (k ∷ ks)
    by (inl here) go = let found = among_mapped (λ (m : Location). k.0 ∷ m) l (below k.1) here in (k.0, k.1, found.0, found.1, inl (refl, refl), found.2)
    by (inr later) go = let found = go later in (found.0, found.1, found.2, found.3, inr found.4, found.5)

pub below_sound : (l : Location) (d : Document) → IsOrderedDocument d → IsAmong l (below d) → (c : Document) × (at d l ≡ Some c)
below_sound [] d docs h = (d, refl)
below_sound (s ∷ l) d docs h = by (subst (IsAmong (s ∷ l)) (below-kids d) h) (below_sound l)
  where
    by : (s ∷ l ≡ []) ⊎ IsAmong (s ∷ l) (through below (kids d)) → ((x : Document) → IsOrderedDocument x → IsAmong l (below x) → (c : Document) × (at x l ≡ Some c)) → (c : Document) × (at d (s ∷ l) ≡ Some c)
    by (inl e) go = cc
    by (inr a) go =
        let found = through_back (s ∷ l) (kids d) a in
        let same : s ∷ l ≡ found.0 ∷ found.2 = found.3 in
        let step : s ≡ found.0 = cc in
        let rest : l ≡ found.2 = cc in
        let there : child found.0 d ≡ Some found.1 = kid_at found.0 d found.1 (kids d) (kids_at d docs) found.4 in
        let later = go found.1 (document_child found.0 d found.1 docs there) (subst (λ (m : Location). IsAmong m (below found.1)) (sym rest) found.5) in
        (later.0, ap (λ (t : Step). option_and_then (λ c. at c l) (child t d)) step ∙ ap (option_and_then (λ c. at c l)) there ∙ later.1)

-- ---- among, by places

pub Contains-among : (l : Location) (ls : List Location) → IsAmong l ls → Contains ls l
Contains-among l [] h = elim h [ ]
Contains-among l (m ∷ ms) (inl e) = (0, omega arith, sym e)
Contains-among l (m ∷ ms) (inr h) = let rest = Contains-among l ms h in (suc rest.0, omega (arith, rest.1), rest.2)

pub among-Contains : (l : Location) (ls : List Location) → Contains ls l → IsAmong l ls
among-Contains l [] h = absurd (omega (arith, h.1))
among-Contains l (m ∷ ms) h = at_place h.0 h.1 h.2 (among-Contains l ms)
  where
    at_place : (k : ℕ) → k < length (m ∷ ms) → slice_index_or (m ∷ ms) k l ≡ l → (Contains ms l → IsAmong l ms) → IsAmong l (m ∷ ms)
    at_place zero within is go = inl (sym is)
    at_place (suc k) within is go = inr (go (k, omega arith, is))

pub all_locations_stand_below_root : BelowIsAll
all_locations_stand_below_root doc l docs = (
  λ there. by (at doc l) refl there,
  λ h. let found = below_sound l doc docs (among-Contains l (below doc) h) in subst (λ (o : Option Document). IsSome o) (sym found.1) (some found.0),
)
  where
    some : (c : Document) → IsSome (Some c)
    some c = refl

    by : (o : Option Document) → at doc l ≡ o → IsSome o → Contains (below doc) l
    by o is h = grind (arith, Contains-among, below_complete)
