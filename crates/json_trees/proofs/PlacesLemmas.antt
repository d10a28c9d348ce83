-- The places of an object's members by their names: what stands there, one after another and by name.
use Rattle.std.proofs.Common.{Bor, ◌≡◌, ℕ, zero, suc, ◌+◌, ◌<◌, ◌≤◌, List, [], ◌∷◌, ◌++◌, length, map, Option, Some, None, option_map, option_and_then, MatchOption, Bool, true, false, ◌&&◌, cond, bytes_eq, Ordering, Less, Equal, Greater, nat_cmp, is_eq, refl, sym, ap, ◌∙◌, arith}
use Rattle.std.proofs.lemmas.Cmp.{nat_list_cmp_total, tied_itself}
use Rattle.std.proofs.lemmas.Map.Text.{is_eq-slice_cmp}
use Rattle.std.proofs.lemmas.Option.{slice_get-map, slice_get_within}
use Rattle.std.proofs.lemmas.Slice.Eq.{bytes_eq-Decides}
use Rattle.std.specs.BTreeMap.{insert_entry}
use Rattle.std.specs.Cmp.Lexicographic.{slice_cmp}
use Rattle.std.specs.List.{AllByRecursion, slice_get}
use Rattle.std.specs.List.Sorted.{IsStrictlySortedBy}
use Rattle.std.specs.Ordering.{match_ordering, ordering_reverse}
use Rattle.json.specs.Json as json
use Rattle.json.specs.Json.{Json}
use Rattle.json.specs.Find as exact
use Rattle.json.specs.Find.{later_or}
use Rattle.json.specs.Value.{members_view}
use Rattle.jsonpath_nodes.specs.document.Document.{Members, no_members, member}
use Rattle.jsonpath_nodes.specs.place.Location.{name, names, step_cmp}
use Rattle.jsonpath_nodes.specs.place.Order.{NamesAscend}
use Rattle.json_trees.specs.ExactDocument.{exact_document}
use Rattle.json_trees.specs.OrderedTree.{is_before, is_ordered, are_members_ordered, members_of_tree, put_in_order, in_order, members_in_order, places_from, places, member_at, taken, members_from}
use Rattle.json_trees.specs.TreeOrder.{by_names, put_each}
use Rattle.json_trees.proofs.OrderedTreeLemmas.{Entry, and_left, less, rest_ordered}

abbrev pub Places : Type 0
Places = List (List ℕ × ℕ)

abbrev pub compare : List ℕ → List ℕ → Ordering
compare = slice_cmp nat_cmp

abbrev pub put : {V : Type 0} → List (List ℕ × V) → List ℕ → V → List (List ℕ × V)
put es k v = insert_entry compare es k v

abbrev value_in : Option (List ℕ × Json) → Json
value_in None = json.null
value_in (Some m) = m.1

-- the value of the member at a place
abbrev pub value_at : json.Members → ℕ → Json
value_at ms n = value_in (member_at n ms)

pub same_name : (k l : List ℕ) → compare k l ≡ Equal → k ≡ l
same_name k l is = (bytes_eq-Decides k l).0 (sym (is_eq-slice_cmp k l) ∙ ap is_eq is)

pub turned_less : (k l : List ℕ) → compare k l ≡ Greater → compare l k ≡ Less
turned_less k l is = nat_list_cmp_total.antisymm l k ∙ ap ordering_reverse is

-- ---- the members from a place on

abbrev Follows : json.Members → ℕ → json.Members → Type 0
Follows ms n rest = (i : ℕ) → member_at (n + i) ms ≡ member_at i rest

all_follow : (ms : json.Members) → Follows ms 0 ms
all_follow ms i = let same : 0 + i ≡ i = omega arith in ap (λ n. member_at n ms) same

next_follow : (ms : json.Members) (n : ℕ) (k : List ℕ) (j : Json) (rest : json.Members) → Follows ms n (json.member k j rest) → Follows ms (suc n) rest
next_follow ms n k j rest f i = let same : suc n + i ≡ n + suc i = omega arith in ap (λ m. member_at m ms) same ∙ f (suc i)

first_there : (ms : json.Members) (n : ℕ) (k : List ℕ) (j : Json) (rest : json.Members) → Follows ms n (json.member k j rest) → member_at n ms ≡ Some (k, j)
first_there ms n k j rest f = let same : n ≡ n + 0 = omega arith in ap (λ m. member_at m ms) same ∙ f 0

-- ---- the members at the places, as they stand in order

abbrev pub image : json.Members → Places → json.Members
image ms [] = json.no_members
image ms (e ∷ es) = json.member e.0 (in_order (value_at ms e.1)) (image ms es)

image_of_choice : (ms : json.Members) (o : Ordering) (a b c : Places) → image ms (match_ordering o a b c) ≡ match_ordering o (image ms a) (image ms b) (image ms c)
image_of_choice ms Less a b c = refl
image_of_choice ms Equal a b c = refl
image_of_choice ms Greater a b c = refl

image_puts : (ms : json.Members) (es : Places) (k : List ℕ) (n : ℕ) → image ms (put es k n) ≡ put_in_order k (in_order (value_at ms n)) (image ms es)
image_puts ms [] k n = refl
image_puts ms (e ∷ es) k n = image_of_choice ms (compare k e.0) _ _ _ ∙ rw (image_puts ms es k n)

image_of_all : (ms : json.Members) (n : ℕ) (rest : json.Members) (es : Places) → Follows ms n rest → image ms (places_from n rest es) ≡ members_in_order rest (image ms es)
image_of_all ms n json.no_members es f = refl
image_of_all ms n (json.member k j rest) es f =
    image_of_all ms (suc n) rest (put es k n) (next_follow ms n k j rest f)
    ∙ ap (members_in_order rest) (image_puts ms es k n ∙ ap (λ m. put_in_order k (in_order (value_in m)) (image ms es)) (first_there ms n k j rest f))

pub all_in_order : (ms : json.Members) → image ms (places ms) ≡ members_in_order ms json.no_members
all_in_order ms = image_of_all ms 0 ms [] (all_follow ms)

-- ---- each name has the place of its last member

abbrev pub found : json.Members → List ℕ → Places → Option Json
found ms q [] = None
found ms q (e ∷ es) = cond (bytes_eq e.0 q) (Some (value_at ms e.1)) (found ms q es)

twice : (b : Bool) (x y z : Option Json) → cond b x z ≡ cond b x (cond b y z)
twice true x y z = refl
twice false x y z = refl

swap : (a b : Bool) (x y z : Option Json) → (a ≡ true → b ≡ true → ⊥) → cond a y (cond b x z) ≡ cond b x (cond a y z)
swap true true x y z apart = absurd (apart refl refl)
swap true false x y z apart = refl
swap false true x y z apart = refl
swap false false x y z apart = refl

pub put_found : (ms : json.Members) (q k : List ℕ) (n : ℕ) (es : Places) → found ms q (put es k n) ≡ cond (bytes_eq k q) (Some (value_at ms n)) (found ms q es)
put_found ms q k n [] = refl
put_found ms q k n (e ∷ es) = by (compare k e.0) refl (put_found ms q k n es)
  where
    by : (o : Ordering) → compare k e.0 ≡ o → found ms q (put es k n) ≡ cond (bytes_eq k q) (Some (value_at ms n)) (found ms q es)
        → found ms q (match_ordering o ((k, n) ∷ e ∷ es) ((e.0, n) ∷ es) (e ∷ put es k n)) ≡ cond (bytes_eq k q) (Some (value_at ms n)) (found ms q (e ∷ es))
    by Less is later = refl
    by Equal is later = twice (bytes_eq e.0 q) (Some (value_at ms n)) (Some (value_at ms e.1)) (found ms q es) ∙ ap (λ l. cond (bytes_eq l q) (Some (value_at ms n)) (found ms q (e ∷ es))) (sym (same_name k e.0 is))
    by Greater is later = ap (cond (bytes_eq e.0 q) (Some (value_at ms e.1))) later ∙ swap (bytes_eq e.0 q) (bytes_eq k q) _ _ _ apart
      where
        apart : bytes_eq e.0 q ≡ true → bytes_eq k q ≡ true → ⊥
        apart h i =
            let same : e.0 ≡ k = (bytes_eq-Decides e.0 q).0 h ∙ sym ((bytes_eq-Decides k q).0 i) in
            let tied : Greater ≡ Equal = sym is ∙ ap (compare k) same ∙ tied_itself nat_list_cmp_total k in
            absurd (cc)

later : (o : Option Json) (b : Bool) (j : Json) (before : Option Json) → later_or o (cond b (Some j) before) ≡ later_or (later_or o (cond b (Some j) None)) before
later None true j before = refl
later None false j before = refl
later (Some k) b j before = refl

none_before : (o : Option Json) → later_or o None ≡ o
none_before None = refl
none_before (Some j) = refl

all_found : (ms : json.Members) (q : List ℕ) (n : ℕ) (rest : json.Members) (es : Places) → Follows ms n rest → found ms q (places_from n rest es) ≡ later_or (exact.get_member q rest) (found ms q es)
all_found ms q n json.no_members es f = refl
all_found ms q n (json.member k j rest) es f =
    all_found ms q (suc n) rest (put es k n) (next_follow ms n k j rest f)
    ∙ ap (later_or (exact.get_member q rest)) (put_found ms q k n es ∙ ap (λ m. cond (bytes_eq k q) (Some (value_in m)) (found ms q es)) (first_there ms n k j rest f))
    ∙ later (exact.get_member q rest) (bytes_eq k q) j (found ms q es)

pub found_is_last : (ms : json.Members) (q : List ℕ) → found ms q (places ms) ≡ exact.get_member q ms
found_is_last ms q = all_found ms q 0 ms [] (all_follow ms) ∙ none_before (exact.get_member q ms)

-- ---- at each place stands the member of that name

abbrev pub Stands : json.Members → (List ℕ × ℕ) → Type 0
Stands ms e = member_at e.1 ms ≡ Some (e.0, value_at ms e.1)

put_stands : (ms : json.Members) (k : List ℕ) (n : ℕ) (es : Places) → Stands ms (k, n) → AllByRecursion (Stands ms) es → AllByRecursion (Stands ms) (put es k n)
put_stands ms k n [] h hs = (h, tt)
put_stands ms k n (e ∷ es) h hs = by (compare k e.0) refl (put_stands ms k n es h hs.1)
  where
    by : (o : Ordering) → compare k e.0 ≡ o → AllByRecursion (Stands ms) (put es k n) → AllByRecursion (Stands ms) (match_ordering o ((k, n) ∷ e ∷ es) ((e.0, n) ∷ es) (e ∷ put es k n))
    by Less is later = (h, hs)
    by Equal is later = (h ∙ ap (λ l. Some (l, value_at ms n)) (same_name k e.0 is), hs.1)
    by Greater is later = (hs.0, later)

all_stand : (ms : json.Members) (n : ℕ) (rest : json.Members) (es : Places) → Follows ms n rest → AllByRecursion (Stands ms) es → AllByRecursion (Stands ms) (places_from n rest es)
all_stand ms n json.no_members es f hs = hs
all_stand ms n (json.member k j rest) es f hs =
    let there : member_at n ms ≡ Some (k, j) = first_there ms n k j rest f in
    all_stand ms (suc n) rest (put es k n) (next_follow ms n k j rest f) (put_stands ms k n es (there ∙ ap (λ v. Some (k, v)) (sym (ap value_in there))) hs)

pub places_stand : (ms : json.Members) → AllByRecursion (Stands ms) (places ms)
places_stand ms = all_stand ms 0 ms [] (all_follow ms) tt

-- ---- the names ascend

abbrev pub AreAbove : List ℕ → Places → Type 0
AreAbove l es = AllByRecursion (λ e. compare l e.0 ≡ Less) es

abbrev pub Ascend : Places → Type 0
Ascend [] = Unit {0}
Ascend (e ∷ es) = AreAbove e.0 es × Ascend es

pub above_further : (k l : List ℕ) (es : Places) → compare k l ≡ Less → AreAbove l es → AreAbove k es
above_further k l [] h hs = tt
above_further k l (e ∷ es) h hs = (nat_list_cmp_total.trans k l e.0 h hs.0, above_further k l es h hs.1)

put_above : (l k : List ℕ) (n : ℕ) (es : Places) → compare l k ≡ Less → AreAbove l es → AreAbove l (put es k n)
put_above l k n [] h hs = (h, tt)
put_above l k n (e ∷ es) h hs = by (compare k e.0) (put_above l k n es h hs.1)
  where
    by : (o : Ordering) → AreAbove l (put es k n) → AreAbove l (match_ordering o ((k, n) ∷ e ∷ es) ((e.0, n) ∷ es) (e ∷ put es k n))
    by Less later = (h, hs)
    by Equal later = hs
    by Greater later = (hs.0, later)

pub put_ascends : (k : List ℕ) (n : ℕ) (es : Places) → Ascend es → Ascend (put es k n)
put_ascends k n [] h = (tt, tt)
put_ascends k n (e ∷ es) h = by (compare k e.0) refl (put_ascends k n es h.1)
  where
    by : (o : Ordering) → compare k e.0 ≡ o → Ascend (put es k n) → Ascend (match_ordering o ((k, n) ∷ e ∷ es) ((e.0, n) ∷ es) (e ∷ put es k n))
    by Less is later = ((is, above_further k e.0 es is h.0), h)
    by Equal is later = h
    by Greater is later = (put_above e.0 k n es (turned_less k e.0 is) h.0, later)

all_ascend : (n : ℕ) (rest : json.Members) (es : Places) → Ascend es → Ascend (places_from n rest es)
all_ascend n json.no_members es h = h
all_ascend n (json.member k j rest) es h = all_ascend (suc n) rest (put es k n) (put_ascends k n es h)

pub places_ascend : (ms : json.Members) → Ascend (places ms)
places_ascend ms = all_ascend 0 ms [] tt

abbrev Above : List ℕ → Members → Type 0
Above l ms = AllByRecursion (λ t. step_cmp (name l) t ≡ Less) (names ms)

names_above : (l : List ℕ) (ms : json.Members) (es : Places) → AreAbove l es → Above l (members_of_tree (image ms es))
names_above l ms [] h = tt
names_above l ms (e ∷ es) h = (h.0, names_above l ms es h.1)

names_of_image : (ms : json.Members) (es : Places) → Ascend es → NamesAscend (members_of_tree (image ms es))
unfolding IsStrictlySortedBy
names_of_image ms [] h = tt
names_of_image ms (e ∷ es) h = (names_above e.0 ms es h.0, names_of_image ms es h.1)

pub names_in_order_ascend : (ms : json.Members) → NamesAscend (members_of_tree (members_in_order ms json.no_members))
names_in_order_ascend ms = rw (← all_in_order ms) (names_of_image ms (places ms) (places_ascend ms))

-- ---- where the names ascend already, the places are those in which the members stand

abbrev pub enumerated : ℕ → json.Members → Places
enumerated n json.no_members = []
enumerated n (json.member k j rest) = (k, n) ∷ enumerated (suc n) rest

abbrev AreBelow : Places → List ℕ → Type 0
AreBelow es k = AllByRecursion (λ e. compare e.0 k ≡ Less) es

abbrev AreBelowNext : Places → json.Members → Type 0
AreBelowNext es json.no_members = Unit {0}
AreBelowNext es (json.member k j rest) = AreBelow es k

put_last : (k : List ℕ) (n : ℕ) (es : Places) → AreBelow es k → put es k n ≡ es ++ (k, n) ∷ []
put_last k n [] h = refl
put_last k n (e ∷ es) h =
    let above : compare k e.0 ≡ Greater = nat_list_cmp_total.antisymm k e.0 ∙ ap ordering_reverse h.0 in
    rw above (ap (λ rest. e ∷ rest) (put_last k n es h.1))

below_more : (es : Places) (k l : List ℕ) (n : ℕ) → AreBelow es k → compare k l ≡ Less → AreBelow (es ++ (k, n) ∷ []) l
below_more [] k l n h here = (here, tt)
below_more (e ∷ es) k l n h here = (nat_list_cmp_total.trans e.0 k l h.0 here, below_more es k l n h.1 here)

below_next : (es : Places) (k : List ℕ) (n : ℕ) (rest : json.Members) → AreBelow es k → is_before k rest ≡ true → AreBelowNext (es ++ (k, n) ∷ []) rest
below_next es k n json.no_members h b = tt
below_next es k n (json.member l i rest) h b = below_more es k l n h (less (compare k l) b)

none_behind : (es : Places) → es ≡ es ++ []
none_behind [] = refl
none_behind (e ∷ es) = ap (λ rest. e ∷ rest) (none_behind es)

one_more : (es : Places) (x : List ℕ × ℕ) (more : Places) → (es ++ x ∷ []) ++ more ≡ es ++ x ∷ more
one_more [] x more = refl
one_more (e ∷ es) x more = ap (λ rest. e ∷ rest) (one_more es x more)

stand_behind : (n : ℕ) (rest : json.Members) (es : Places) → are_members_ordered rest ≡ true → AreBelowNext es rest → places_from n rest es ≡ es ++ enumerated n rest
stand_behind n json.no_members es o b = none_behind es
stand_behind n (json.member k j rest) es o b =
    ap (places_from (suc n) rest) (put_last k n es b)
    ∙ stand_behind (suc n) rest (es ++ (k, n) ∷ []) (rest_ordered k j rest o) (below_next es k n rest b (and_left (is_before k rest) (is_ordered j && are_members_ordered rest) o))
    ∙ one_more es (k, n) (enumerated (suc n) rest)

none_below : (ms : json.Members) → AreBelowNext [] ms
none_below json.no_members = tt
none_below (json.member k j ms) = tt

pub places_as_they_stand : (ms : json.Members) → are_members_ordered ms ≡ true → places ms ≡ enumerated 0 ms
places_as_they_stand ms o = stand_behind 0 ms [] o (none_below ms)

pub count_enumerated : {A : Type 0} (n : ℕ) (xs : List (Entry A)) → length (enumerated n (members_view xs)) ≡ length xs
count_enumerated n [] = refl
count_enumerated n (x ∷ xs) = ap suc (count_enumerated (suc n) xs)

place_enumerated : (n : ℕ) (rest : json.Members) (i : ℕ) → slice_get (enumerated n rest) i ≡ option_map (λ m. (m.0, n + i)) (member_at i rest)
place_enumerated n json.no_members i = refl
place_enumerated n (json.member k j rest) zero = let same : n ≡ n + 0 = omega arith in ap (λ m. Some (k, m)) same
place_enumerated n (json.member k j rest) (suc i) =
    let same : suc n + i ≡ n + suc i = omega arith in
    place_enumerated (suc n) rest i ∙ ap (λ t. option_map (λ m. (m.0, t)) (member_at i rest)) same

abbrev there : json.Members → Option (List ℕ × ℕ) → Option (List ℕ × Json)
there ms o = option_and_then (λ e. member_at e.1 ms) o

pub taken_as_it_stands : (ms : json.Members) (i : ℕ) → are_members_ordered ms ≡ true → taken i ms ≡ member_at i ms
taken_as_it_stands ms i o = ap (λ es. there ms (slice_get es i)) (places_as_they_stand ms o) ∙ ap (there ms) (place_enumerated 0 ms i) ∙ back (member_at i ms) refl
  where
    back : (m : Option (List ℕ × Json)) → member_at i ms ≡ m → there ms (option_map (λ m. (m.0, 0 + i)) m) ≡ m
    back None is = refl
    back (Some m) is = let same : 0 + i ≡ i = omega arith in ap (λ n. member_at n ms) same ∙ is

-- ---- there are no more places than members

put_one : (k : List ℕ) (n : ℕ) (es : Places) → length (put es k n) ≤ suc (length es)
put_one k n [] = omega arith
put_one k n (e ∷ es) = by (compare k e.0) (put_one k n es)
  where
    by : (o : Ordering) → length (put es k n) ≤ suc (length es) → length (match_ordering o ((k, n) ∷ e ∷ es) ((e.0, n) ∷ es) (e ∷ put es k n)) ≤ suc (suc (length es))
    by Less later = omega arith
    by Equal later = omega arith
    by Greater later = omega (arith, later)

count_from : {A : Type 0} (n : ℕ) (xs : List (Entry A)) (es : Places) → length (places_from n (members_view xs) es) ≤ length es + length xs
count_from n [] es = omega arith
count_from n (x ∷ xs) es = omega (arith, count_from (suc n) xs (put es x.0.now n), put_one x.0.now n es)

pub taken_inside : {A : Type 0} (xs : List (Entry A)) (i : ℕ) (m : List ℕ × Json) → Some m ≡ taken i (members_view xs) → i < length xs
taken_inside xs i m is = inside (slice_get (places (members_view xs)) i) refl is
  where
    inside : (o : Option (List ℕ × ℕ)) → slice_get (places (members_view xs)) i ≡ o → Some m ≡ there (members_view xs) o → i < length xs
    inside None e h = absurd (cc)
    inside (Some x) e h = omega (arith, slice_get_within (places (members_view xs)) i x e, count_from 0 xs [])

-- ---- by a list of the places

through : (ms : json.Members) (o : Option (List ℕ × ℕ)) → there ms o ≡ option_and_then (λ n. member_at n ms) (option_map (λ e. e.1) o)
through ms None = refl
through ms (Some e) = refl

pub taken_by_places : (ms : json.Members) (ps : List ℕ) (i : ℕ) → ps ≡ map (λ e. e.1) (places ms) → taken i ms ≡ option_and_then (λ p. member_at p ms) (slice_get ps i)
taken_by_places ms ps i same =
    through ms (slice_get (places ms) i)
    ∙ ap (option_and_then (λ n. member_at n ms)) (sym (slice_get-map (λ e. e.1) (places ms) i) ∙ ap (λ ns. slice_get ns i) (sym same))

-- ---- places that are put by name one after another

pub places_named : (es : List (Bor (List ℕ) × ℕ)) → map (λ e. e.1) es ≡ map (λ e. e.1) (by_names es)
places_named [] = refl
places_named (e ∷ es) = ap (λ ns. e.1 ∷ ns) (places_named es)

all_places : (n : ℕ) (rest : json.Members) (es : Places) → put_each (enumerated n rest) es ≡ places_from n rest es
all_places n json.no_members es = refl
all_places n (json.member k j rest) es = all_places (suc n) rest (put es k n)

pub listed_places : {A : Type 0} (n : ℕ) (xs rest : List (Entry A)) (found : List (Bor (List ℕ) × ℕ)) → rest ≡ [] → by_names found ++ enumerated n (members_view rest) ≡ enumerated 0 (members_view xs) → put_each (by_names found) [] ≡ places (members_view xs)
listed_places n xs rest found none so =
    ap (λ es. put_each es []) (none_behind (by_names found) ∙ ap (λ zs. by_names found ++ enumerated n (members_view zs)) (sym none) ∙ so) ∙ all_places 0 (members_view xs) []

-- ---- one member after another

pub next_of_image : (ms : json.Members) (es : Places) (i : ℕ) → AllByRecursion (Stands ms) es
    → MatchOption (there ms (slice_get es i)) (members_from i (members_of_tree (image ms es)) ≡ no_members)
    (λ m. members_from i (members_of_tree (image ms es)) ≡ member m.0 (exact_document m.1) (members_from (suc i) (members_of_tree (image ms es))))
next_of_image ms [] zero h = refl
next_of_image ms [] (suc i) h = refl
next_of_image ms (e ∷ es) zero h = rw h.0 refl
next_of_image ms (e ∷ es) (suc i) h = next_of_image ms es i h.1

pub next_in_order : (ms : json.Members) (i : ℕ)
    → MatchOption (taken i ms) (members_from i (members_of_tree (members_in_order ms json.no_members)) ≡ no_members)
    (λ m. members_from i (members_of_tree (members_in_order ms json.no_members)) ≡ member m.0 (exact_document m.1) (members_from (suc i) (members_of_tree (members_in_order ms json.no_members))))
next_in_order ms i = rw (← all_in_order ms) (next_of_image ms (places ms) i (places_stand ms))
