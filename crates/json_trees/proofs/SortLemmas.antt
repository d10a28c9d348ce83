-- What has names, put in their order: where a value is put, one after another, and in its place.
use Rattle.std.proofs.Common.{Bor, get_or, take, drop, set, ◌≡◌, ℕ, zero, suc, ◌+◌, ◌<◌, ◌≤◌, List, [], ◌∷◌, ◌++◌, length, Ordering, Less, Equal, Greater, refl, sym, ap, ◌∙◌, arith}
use Rattle.std.proofs.lemmas.List.{append_assoc, drop_all, drop_more, drop-set, map-append, take_more, take-append-drop, take-set, length-set}
use Rattle.std.specs.BTreeMap.{insert_entry}
use Rattle.std.specs.List.{insert, remove}
use Rattle.std.specs.Ordering.{match_ordering}
use Rattle.json_trees.specs.TreeOrder.{by_names, put_each, put_from}
use Rattle.json_trees.proofs.OrderedTreeLemmas.{by_text}
use Rattle.json_trees.proofs.PlacesLemmas.{compare, put, same_name}

-- ---- where a value is put

abbrev pub Named : Type 0 → Type 0
Named V = Bor (List ℕ) × V

names_of_choice : {V : Type 0} (o : Ordering) (a b c : List (Named V)) → by_names (match_ordering o a b c) ≡ match_ordering o (by_names a) (by_names b) (by_names c)
names_of_choice Less a b c = refl
names_of_choice Equal a b c = refl
names_of_choice Greater a b c = refl

pub insert_names : {V : Type 0} (es : List (Named V)) (k : Bor (List ℕ)) (n : V) → by_names (insert_entry by_text es k n) ≡ put (by_names es) k.now n
insert_names [] k n = refl
insert_names (e ∷ es) k n = names_of_choice (by_text k e.0) _ _ _ ∙ rw (insert_names es k n)

-- a value is put behind the first of these, whose names are all below its own
abbrev pub Passed : {V : Type 0} → List (Named V) → ℕ → List ℕ → V → Type 0
Passed xs at k n = put (by_names xs) k n ≡ by_names (take at xs) ++ put (by_names (drop at xs)) k n

from_one : {V : Type 0} (xs : List (Named V)) (at : ℕ) (x : Named V) → at < length xs → x ≡ get_or xs at x → drop at xs ≡ x ∷ drop (at + 1) xs
from_one xs at x h is = drop_more xs at x h ∙ ap (λ y. y ∷ drop (at + 1) xs) (sym is)

abbrev put_there : {V : Type 0} → Ordering → Named V → List (Named V) → List ℕ → V → List (List ℕ × V)
put_there o x rest k n = match_ordering o ((k, n) ∷ (x.0.now, x.1) ∷ by_names rest) ((x.0.now, n) ∷ by_names rest) ((x.0.now, x.1) ∷ put (by_names rest) k n)

put_at_one : {V : Type 0} (xs : List (Named V)) (at : ℕ) (x : Named V) (k : List ℕ) (n : V) (o : Ordering) → at < length xs → x ≡ get_or xs at x → compare k x.0.now ≡ o → put (by_names (drop at xs)) k n ≡ put_there o x (drop (at + 1) xs) k n
put_at_one xs at x k n o h is told = ap (λ ys. put (by_names ys) k n) (from_one xs at x h is) ∙ ap (λ p. put_there p x (drop (at + 1) xs) k n) told

pub passed_more : {V : Type 0} (xs : List (Named V)) (at : ℕ) (x : Named V) (k : List ℕ) (n : V) → at < length xs → x ≡ get_or xs at x → compare k x.0.now ≡ Greater → Passed xs at k n → Passed xs (at + 1) k n
passed_more {V} xs at x k n h is above p =
    let rest = put (by_names (drop (at + 1) xs)) k n in
    let more : take (at + 1) xs ≡ take at xs ++ x ∷ [] = take_more xs at x h ∙ ap (λ y. take at xs ++ y ∷ []) (sym is) in
    p ∙ ap (λ es. by_names (take at xs) ++ es) (put_at_one xs at x k n Greater h is above)
    ∙ sym (append_assoc (by_names (take at xs)) ((x.0.now, x.1) ∷ []) rest)
    ∙ ap (λ es. es ++ rest) (sym (ap by_names more ∙ map-append (λ (e : Named V). (e.0.now, e.1)) (take at xs) (x ∷ [])))

put_in_front : {V : Type 0} (xs : List (Named V)) (at : ℕ) (k : Bor (List ℕ)) (n : V) → put (by_names (drop at xs)) k.now n ≡ (k.now, n) ∷ by_names (drop at xs) → Passed xs at k.now n → by_names (insert xs at (k, n)) ≡ put (by_names xs) k.now n
put_in_front {V} xs at k n first p = map-append (λ (e : Named V). (e.0.now, e.1)) (take at xs) ((k, n) ∷ drop at xs) ∙ ap (λ es. by_names (take at xs) ++ es) (sym first) ∙ sym p

pub put_before_one : {V : Type 0} (xs : List (Named V)) (at : ℕ) (x : Named V) (k : Bor (List ℕ)) (n : V) → at < length xs → x ≡ get_or xs at x → compare k.now x.0.now ≡ Less → Passed xs at k.now n → by_names (insert xs at (k, n)) ≡ put (by_names xs) k.now n
put_before_one xs at x k n h is below =
    put_in_front xs at k n (put_at_one xs at x k.now n Less h is below ∙ ap (λ ys. (k.now, n) ∷ by_names ys) (sym (from_one xs at x h is)))

pub put_at_end : {V : Type 0} (xs : List (Named V)) (at : ℕ) (k : Bor (List ℕ)) (n : V) → length xs ≤ at → Passed xs at k.now n → by_names (insert xs at (k, n)) ≡ put (by_names xs) k.now n
put_at_end xs at k n past =
    put_in_front xs at k n (ap (λ ys. put (by_names ys) k.now n) (drop_all at xs past) ∙ ap (λ ys. (k.now, n) ∷ by_names ys) (sym (drop_all at xs past)))

pub same_there : {V : Type 0} (xs : List (Named V)) (at : ℕ) (x y : Named V) → at < length xs → x ≡ get_or xs at x → y ≡ get_or xs at y → x ≡ y
same_there [] at x y h is same = absurd (omega arith)
same_there (z ∷ zs) zero x y h is same = is ∙ sym same
same_there (z ∷ zs) (suc at) x y h is same = same_there zs at x y (omega arith) is same

pub put_in_place : {V : Type 0} (xs : List (Named V)) (at : ℕ) (x y : Named V) → at < length xs → x ≡ get_or xs at x → compare y.0.now x.0.now ≡ Equal → Passed xs at y.0.now y.1 → by_names (set xs at y) ≡ put (by_names xs) y.0.now y.1
put_in_place {V} xs at x y h is same p =
    ap by_names (sym (take-append-drop at (set xs at y)) ∙ ap (λ ys. ys ++ drop at (set xs at y)) (take-set xs at y) ∙ ap (λ ys. take at xs ++ ys) (drop-set xs at y h))
    ∙ map-append (λ (e : Named V). (e.0.now, e.1)) (take at xs) (y ∷ drop (at + 1) xs)
    ∙ ap (λ l. by_names (take at xs) ++ (l, y.1) ∷ by_names (drop (at + 1) xs)) (same_name y.0.now x.0.now same)
    ∙ ap (λ es. by_names (take at xs) ++ es) (sym (put_at_one xs at x y.0.now y.1 Equal h is same)) ∙ sym p

-- ---- one after another

put_last : {V : Type 0} (es : List (List ℕ × V)) (e : List ℕ × V) (found : List (List ℕ × V)) → put_each (es ++ e ∷ []) found ≡ insert_entry (compare) (put_each es found) e.0 e.1
put_last [] e found = refl
put_last (d ∷ es) e found = put_last es e (insert_entry (compare) found d.0 d.1)

pub one_more_named : {V : Type 0} (xs : List (Named V)) (x : Named V) (found : List (List ℕ × V)) → found ≡ put_each (by_names xs) [] → insert_entry (compare) found x.0.now x.1 ≡ put_each (by_names (xs ++ x ∷ [])) []
one_more_named xs x found is =
    ap (λ es. insert_entry (compare) es x.0.now x.1) is
    ∙ sym (ap (λ es. put_each es []) (map-append (λ (e : Named _). (e.0.now, e.1)) xs (x ∷ [])) ∙ put_last (by_names xs) (x.0.now, x.1) [])

pub one_more_in_map : {V : Type 0} {now : List (Named V)} (xs named : List (Named V)) (k : Bor (List ℕ)) (v : V) → now ≡ insert_entry by_text named k v → by_names named ≡ put_each (by_names xs) [] → by_names now ≡ put_each (by_names (xs ++ (k, v) ∷ [])) []
one_more_in_map xs named k v is so_far = ap by_names is ∙ insert_names named k v ∙ one_more_named xs (k, v) (by_names named) so_far

-- ---- a value that goes to another place

front : {X : Type 0} (n : ℕ) (xs zs : List X) → n ≤ length xs → take n (take n xs ++ zs) ≡ take n xs
front zero xs zs h = refl
front (suc n) [] zs h = absurd (omega (arith, h))
front (suc n) (x ∷ xs) zs h = ap (λ ys. x ∷ ys) (front n xs zs (omega (arith, h)))

rest : {X : Type 0} (n : ℕ) (xs zs : List X) → n ≤ length xs → drop n (take n xs ++ zs) ≡ zs
rest zero xs zs h = refl
rest (suc n) [] zs h = absurd (omega (arith, h))
rest (suc n) (x ∷ xs) zs h = rest n xs zs (omega (arith, h))

moved_front : {X : Type 0} (xs : List X) (n at : ℕ) (y : X) → at ≤ n → n < length xs → take (suc n) (insert (remove xs n) at y) ≡ insert (take n xs) at y
moved_front [] n at y h within = absurd (omega (arith, within))
moved_front (x ∷ xs) n zero y h within = ap (λ ys. y ∷ ys) (front n (x ∷ xs) (drop (suc n) (x ∷ xs)) (omega (arith, within)))
moved_front (x ∷ xs) zero (suc at) y h within = absurd (omega (arith, h))
moved_front (x ∷ xs) (suc n) (suc at) y h within = ap (λ ys. x ∷ ys) (moved_front xs n at y (omega (arith, h)) (omega (arith, within)))

moved_rest : {X : Type 0} (xs : List X) (n at : ℕ) (y : X) → at ≤ n → n < length xs → drop (suc n) (insert (remove xs n) at y) ≡ drop (suc n) xs
moved_rest [] n at y h within = absurd (omega (arith, within))
moved_rest (x ∷ xs) n zero y h within = rest n (x ∷ xs) (drop (suc n) (x ∷ xs)) (omega (arith, within))
moved_rest (x ∷ xs) zero (suc at) y h within = absurd (omega (arith, h))
moved_rest (x ∷ xs) (suc n) (suc at) y h within = moved_rest xs n at y (omega (arith, h)) (omega (arith, within))

pub one_fewer : {X : Type 0} (xs : List X) (n : ℕ) → n < length xs → suc (length (remove xs n)) ≡ length xs
one_fewer [] n h = absurd (omega (arith, h))
one_fewer (x ∷ xs) zero h = refl
one_fewer (x ∷ xs) (suc n) h = ap suc (one_fewer xs n (omega (arith, h)))

-- a list that is written back over one of its length
pub back : {X : Type 0} (n : ℕ) (xs ys : List X) → length xs ≡ length ys → n ≡ length ys → take n (xs ++ drop (length xs) ys) ≡ xs
back zero [] [] e f = refl
back (suc n) [] [] e f = refl
back n [] (y ∷ ys) e f = absurd (omega (arith, e))
back n (x ∷ xs) [] e f = absurd (omega (arith, e))
back zero (x ∷ xs) (y ∷ ys) e f = absurd (omega (arith, f))
back (suc n) (x ∷ xs) (y ∷ ys) e f = ap (λ zs. x ∷ zs) (back n xs ys (omega (arith, e)) (omega (arith, f)))

pub some_there : {X : Type 0} (xs : List X) (n : ℕ) → n < length xs → (y : X) × (y ≡ get_or xs n y)
some_there [] n h = absurd (omega (arith, h))
some_there (x ∷ xs) zero h = (x, refl)
some_there (x ∷ xs) (suc n) h = some_there xs n (omega (arith, h))

-- it goes down by one
one_down : {X : Type 0} (xs : List X) (n : ℕ) (y d : X) → n < length xs → set (set (insert xs (suc n) y) n (get_or (insert xs (suc n) y) (suc n) d)) (suc n) (get_or (insert xs (suc n) y) n d) ≡ insert xs n y
one_down [] n y d h = absurd (omega (arith, h))
one_down (x ∷ xs) zero y d h = refl
one_down (x ∷ xs) (suc n) y d h = ap (λ ys. x ∷ ys) (one_down xs n y d (omega (arith, h)))

pub goes_down : {X : Type 0} (base now new : List X) (p n m : ℕ) (y d : X) → p < length base → n ≡ suc p → m ≡ suc p → now ≡ insert base n y → new ≡ set (set now p (get_or now m d)) m (get_or now p d) → new ≡ insert base p y
goes_down base now new p n m y d h from to so is =
    is ∙ ap (λ k. set (set now p (get_or now k d)) k (get_or now p d)) to ∙ ap (λ zs. set (set zs p (get_or zs (suc p) d)) (suc p) (get_or zs p d)) (so ∙ ap (λ k. insert base k y) from) ∙ one_down base p y d h

-- ---- those from a place on, put among the ones before it

next_put : {V : Type 0} (xs : List (Named V)) (n : ℕ) (y : Named V) → n < length xs → y ≡ get_or xs n y → put_from n xs ≡ put_each (by_names (drop (suc n) xs)) (put (by_names (take n xs)) y.0.now y.1)
next_put xs n y h is =
    let next : n + 1 ≡ suc n = omega arith in
    ap (λ ys. put_each (by_names ys) (by_names (take n xs))) (from_one xs n y h is) ∙ ap (λ m. put_each (by_names (drop m xs)) (put (by_names (take n xs)) y.0.now y.1)) next

pub moved_among : {V : Type 0} (xs : List (Named V)) (n at : ℕ) (y : Named V) → n < length xs → at ≤ n → y ≡ get_or xs n y → by_names (insert (take n xs) at y) ≡ put (by_names (take n xs)) y.0.now y.1 → put_from (suc n) (insert (remove xs n) at y) ≡ put_from n xs
moved_among xs n at y h low is there =
    ap (λ ys. put_each (by_names ys) (by_names (take (suc n) (insert (remove xs n) at y)))) (moved_rest xs n at y low h)
    ∙ ap (put_each (by_names (drop (suc n) xs))) (ap by_names (moved_front xs n at y low h) ∙ there) ∙ sym (next_put xs n y h is)

taken_set : {X : Type 0} (xs : List X) (n at : ℕ) (y : X) → take n (set xs at y) ≡ set (take n xs) at y
taken_set [] zero at y = refl
taken_set [] (suc n) at y = refl
taken_set (x ∷ xs) zero zero y = refl
taken_set (x ∷ xs) zero (suc at) y = refl
taken_set (x ∷ xs) (suc n) zero y = refl
taken_set (x ∷ xs) (suc n) (suc at) y = ap (λ ys. x ∷ ys) (taken_set xs n at y)

unset : {X : Type 0} (ys : List X) (m : ℕ) (w : X) → drop (suc m) (set ys m w) ≡ drop (suc m) ys
unset [] m w = refl
unset (v ∷ ys) zero w = refl
unset (v ∷ ys) (suc m) w = unset ys m w

unset_low : {X : Type 0} (ys : List X) (m l : ℕ) (w : X) → l < m → drop (suc m) (set ys l w) ≡ drop (suc m) ys
unset_low [] m l w h = refl
unset_low (v ∷ ys) zero l w h = absurd (omega (arith, h))
unset_low (v ∷ ys) (suc m) zero w h = refl
unset_low (v ∷ ys) (suc m) (suc l) w h = unset_low ys m l w (omega (arith, h))

-- it takes the place of the one of its name
pub put_over : {V : Type 0} (xs : List (Named V)) (n at : ℕ) (y z : Named V) (swapped : List (Named V)) → n < length xs → at < n → y ≡ get_or xs n y → swapped ≡ set (set xs at y) n z → by_names (set (take n xs) at y) ≡ put (by_names (take n xs)) y.0.now y.1
    → put_from n (remove swapped n) ≡ put_from n xs
put_over xs n at y z swapped h low is so there =
    let long : length swapped ≡ length xs = ap length so ∙ length-set (set xs at y) n z ∙ length-set xs at y in
    let taken : take n swapped ≡ set (take n xs) at y = ap (take n) so ∙ take-set (set xs at y) n z ∙ taken_set xs n at y in
    let left : drop (suc n) swapped ≡ drop (suc n) xs = ap (drop (suc n)) so ∙ unset (set xs at y) n z ∙ unset_low xs n at y low in
    ap (λ ys. put_each (by_names ys) (by_names (take n (remove swapped n)))) (rest n swapped (drop (suc n) swapped) (omega (arith, long, h)) ∙ left)
    ∙ ap (put_each (by_names (drop (suc n) xs))) (ap by_names (front n swapped (drop (suc n) swapped) (omega (arith, long, h)) ∙ taken) ∙ there) ∙ sym (next_put xs n y h is)
