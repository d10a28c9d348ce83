-- Trees whose members are put in order in their places.
use Rattle.std.proofs.Common.{Bor, ◌≡◌, ◌≤◌, ◌<◌, ◌+◌, subst, ℕ, zero, suc, List, [], ◌∷◌, ◌++◌, ◌&&◌, length, map, take, drop, set, get_or, Bool, true, false, Option, Some, None, is_some, MatchOption, Ordering, Less, Equal, Greater, nat_cmp, refl, sym, ap, ap₂, ◌∙◌, arith}
use Rattle.std.proofs.lemmas.List.{length-map}
use Rattle.std.specs.BTreeMap.{insert_entry}
use Rattle.std.specs.Cmp.Lexicographic.{slice_cmp}
use Rattle.std.specs.Ordering.{is_lt, match_ordering}
use Rattle.json.specs.Json as json
use Rattle.json.specs.Json.{Json}
use Rattle.json.specs.Value.{value_view, items_of, members_view}
use Rattle.json.specs.declared.value.Value.{Value}
use Rattle.serde_json.specs.Data.{Members}
use Rattle.serde_json.specs.Read.{of_members}
use Rattle.json_trees.specs.OrderedTree.{is_before, put_in_order, in_order, items_in_order, members_in_order}
use Rattle.json_trees.specs.TreeOrder.{by_names, put_each}
use Rattle.json_trees.proofs.SortLemmas.{back}
use Rattle.json_trees.proofs.OrderedTreeLemmas.{Entry, is_behind, names_ascend, each_in_order, ascending_stand}

-- ---- some of a list's elements are changed in their places

-- those before an index are changed, the others stand as they did
abbrev pub ChangedSoFar : {X Y : Type 0} → (X → Y) → (Y → Y) → List Y → ℕ → List X → Type 0
ChangedSoFar f g old i now = map f now ≡ map g (take i old) ++ drop i old

one_more : {X Y : Type 0} (f : X → Y) (g : Y → Y) (old : List Y) (i : ℕ) (now : List X) (x y : X) → i < length now → x ≡ get_or now i x → f y ≡ g (f x) → ChangedSoFar f g old i now → ChangedSoFar f g old (suc i) (set now i y)
one_more f g old i [] x y within is made so_far = absurd (omega arith)
one_more f g [] zero (w ∷ ws) x y within is made so_far = absurd (cc)
one_more f g [] (suc i) (w ∷ ws) x y within is made so_far = absurd (cc)
one_more f g (o ∷ os) zero (w ∷ ws) x y within is made so_far =
    let first : f w ≡ o = cc in
    let rest : map f ws ≡ os = cc in
    ap₂ (λ (z : _) (zs : List _). z ∷ zs) (made ∙ ap (λ v. g (f v)) is ∙ ap g first) rest
one_more f g (o ∷ os) (suc i) (w ∷ ws) x y within is made so_far =
    let first : f w ≡ g o = cc in
    let rest : map f ws ≡ map g (take i os) ++ drop i os = cc in
    ap₂ (λ (z : _) (zs : List _). z ∷ zs) first (one_more f g os i ws x y (omega (arith, within)) is made rest)

next_one : {X Y : Type 0} (f : X → Y) (g : Y → Y) (old : List Y) (i : ℕ) (now : List X) (x : X) → i < length now → x ≡ get_or now i x → ChangedSoFar f g old i now → drop i old ≡ f x ∷ drop (suc i) old
next_one f g old i [] x within is so_far = absurd (omega arith)
next_one f g [] zero (w ∷ ws) x within is so_far = absurd (cc)
next_one f g [] (suc i) (w ∷ ws) x within is so_far = absurd (cc)
next_one f g (o ∷ os) zero (w ∷ ws) x within is so_far =
    let first : f w ≡ o = cc in
    ap (λ v. v ∷ os) (sym first ∙ ap f (sym is))
next_one f g (o ∷ os) (suc i) (w ∷ ws) x within is so_far =
    let rest : map f ws ≡ map g (take i os) ++ drop i os = cc in
    next_one f g os i ws x (omega (arith, within)) is rest

pub one_more_changed : {X Y : Type 0} (f : X → Y) (g : Y → Y) (old : List Y) (i : ℕ) (now : List X) (x y : X) → i < length now → x ≡ get_or now i x → f y ≡ g (f x) → ChangedSoFar f g old i now → ChangedSoFar f g old (i + 1) (set now i y)
one_more_changed f g old i now x y within is made so_far = let next : suc i ≡ i + 1 = omega arith in subst (λ n. ChangedSoFar f g old n (set now i y)) next (one_more f g old i now x y within is made so_far)

pub next_unchanged : {X Y : Type 0} (f : X → Y) (g : Y → Y) (old : List Y) (i : ℕ) (now : List X) (x : X) → i < length now → x ≡ get_or now i x → ChangedSoFar f g old i now → drop i old ≡ f x ∷ drop (i + 1) old
next_unchanged f g old i now x within is so_far = let next : suc i ≡ i + 1 = omega arith in next_one f g old i now x within is so_far ∙ ap (λ n. f x ∷ drop n old) next

pub all_changed : {X Y : Type 0} (f : X → Y) (g : Y → Y) (old : List Y) (i : ℕ) (now : List X) → length now ≤ i → ChangedSoFar f g old i now → map f now ≡ map g old
all_changed f g [] zero [] past so_far = refl
all_changed f g [] (suc i) [] past so_far = refl
all_changed f g (o ∷ os) zero [] past so_far = absurd (cc)
all_changed f g (o ∷ os) (suc i) [] past so_far = absurd (cc)
all_changed f g old zero (w ∷ ws) past so_far = absurd (omega (arith, past))
all_changed f g [] (suc i) (w ∷ ws) past so_far = absurd (cc)
all_changed f g (o ∷ os) (suc i) (w ∷ ws) past so_far =
    let first : f w ≡ g o = cc in
    let rest : map f ws ≡ map g (take i os) ++ drop i os = cc in
    ap₂ (λ (z : _) (zs : List _). z ∷ zs) first (all_changed f g os i ws (omega (arith, past)) rest)

pub none_left : {X Y : Type 0} (f : X → Y) (g : Y → Y) (old : List Y) (i : ℕ) (now : List X) → length now ≤ i → ChangedSoFar f g old i now → drop i old ≡ []
none_left f g [] zero [] past so_far = refl
none_left f g [] (suc i) [] past so_far = refl
none_left f g (o ∷ os) zero [] past so_far = absurd (cc)
none_left f g (o ∷ os) (suc i) [] past so_far = absurd (cc)
none_left f g old zero (w ∷ ws) past so_far = absurd (omega (arith, past))
none_left f g [] (suc i) (w ∷ ws) past so_far = absurd (cc)
none_left f g (o ∷ os) (suc i) (w ∷ ws) past so_far =
    let rest : map f ws ≡ map g (take i os) ++ drop i os = cc in
    none_left f g os i ws (omega (arith, past)) rest

kept_length : {Y : Type 0} (g : Y → Y) (old : List Y) (i : ℕ) → length (map g (take i old) ++ drop i old) ≡ length old
kept_length g [] zero = refl
kept_length g [] (suc i) = refl
kept_length g (o ∷ os) zero = refl
kept_length g (o ∷ os) (suc i) = ap suc (kept_length g os i)

-- a list that is written back in the place of one of its length
pub written_back : {X Y : Type 0} (f : X → Y) (g : Y → Y) (old : List X) (n i : ℕ) (now : List X) → n ≡ length old → ChangedSoFar f g (map f old) i now → take n (now ++ drop (length now) old) ≡ now
written_back f g old n i now long so_far = back n now old (sym (length-map now f) ∙ ap length so_far ∙ kept_length g (map f old) i ∙ length-map old f) long

-- ---- items

pub items_done : (js : List Json) → items_of (map in_order js) ≡ items_in_order (items_of js)
items_done [] = refl
items_done (j ∷ js) = ap (json.item (in_order j)) (items_done js)

-- how many arrays and objects there are
abbrev mutual
  pub size : Json → ℕ
  size json.null = 0
  size (json.boolean b) = 0
  size (json.number s) = 0
  size (json.string s) = 0
  size (json.array js) = suc (items_size js)
  size (json.object ms) = suc (members_size ms)

  pub items_size : json.Items → ℕ
  items_size json.no_items = 0
  items_size (json.item j js) = size j + items_size js

  pub members_size : json.Members → ℕ
  members_size json.no_members = 0
  members_size (json.member k j ms) = size j + members_size ms

pub item_within : (old : List Json) (i : ℕ) (j : Json) (rest : List Json) → drop i old ≡ j ∷ rest → size j ≤ items_size (items_of old)
item_within [] zero j rest is = absurd (cc)
item_within [] (suc i) j rest is = absurd (cc)
item_within (o ∷ os) zero j rest is = let same : o ≡ j = cc in
    let sum : items_size (items_of (o ∷ os)) ≡ size o + items_size (items_of os) = refl in
    omega (arith, sum, ap size same)
item_within (o ∷ os) (suc i) j rest is =
    let sum : items_size (items_of (o ∷ os)) ≡ size o + items_size (items_of os) = refl in
    omega (arith, sum, item_within os i j rest is)

-- three facts taken together, two of them first
pub both_so_far : (all a b s r : Bool) → all ≡ (a && s) → s ≡ (b && r) → all ≡ ((a && b) && r)
both_so_far all true b s r h e = h ∙ e
both_so_far all false b s r h e = h

-- ---- members, as names and values

abbrev pub Seen : Type 0
Seen = List ℕ × Json

abbrev pub seen : {A : Type 0} → Entry A → Seen
seen e = (e.0.now, value_view e.1)

abbrev pub seen_in_order : Seen → Seen
seen_in_order m = (m.0, in_order m.1)

abbrev pub members_at : List Seen → json.Members
members_at [] = json.no_members
members_at (m ∷ ms) = json.member m.0 m.1 (members_at ms)

pub view_of_seen : {A : Type 0} (xs : List (Entry A)) → members_view xs ≡ members_at (map seen xs)
view_of_seen [] = refl
view_of_seen (x ∷ xs) = ap (json.member x.0.now (value_view x.1)) (view_of_seen xs)

pub member_within : (old : List Seen) (i : ℕ) (m : Seen) (rest : List Seen) → drop i old ≡ m ∷ rest → size m.1 ≤ members_size (members_at old)
member_within [] zero m rest is = absurd (cc)
member_within [] (suc i) m rest is = absurd (cc)
member_within (o ∷ os) zero m rest is = let same : o ≡ m = cc in
    let sum : members_size (members_at (o ∷ os)) ≡ size o.1 + members_size (members_at os) = refl in
    omega (arith, sum, ap (λ e. size e.1) same)
member_within (o ∷ os) (suc i) m rest is =
    let sum : members_size (members_at (o ∷ os)) ≡ size o.1 + members_size (members_at os) = refl in
    omega (arith, sum, member_within os i m rest is)

values_done : (ms : List Seen) → members_at (map seen_in_order ms) ≡ each_in_order (members_at ms)
values_done [] = refl
values_done (m ∷ ms) = ap (json.member m.0 (in_order m.1)) (values_done ms)

-- ---- whether the names ascend, as far as they were compared

pub ascend_further : (before : Option (Bor (List ℕ))) (name : List ℕ) (value : Json) (ms : json.Members) (all ascend is_above : Bool) → MatchOption before (is_above ≡ true) (λ b. is_above ≡ is_lt (slice_cmp nat_cmp b.now name))
    → all ≡ (ascend && (is_behind before (json.member name value ms) && names_ascend (json.member name value ms))) → all ≡ ((ascend && is_above) && (is_before name ms && names_ascend ms))
ascend_further None name value ms all false is_above told h = h
ascend_further None name value ms all true is_above told h = h ∙ rw told refl
ascend_further (Some b) name value ms all false is_above told h = h
ascend_further (Some b) name value ms all true is_above told h = h ∙ rw told refl

pub ascend_all : (before : Option (Bor (List ℕ))) (all ascend : Bool) → all ≡ (ascend && (is_behind before json.no_members && true)) → ascend ≡ true → all ≡ true
ascend_all None all ascend h is = h ∙ rw is refl
ascend_all (Some b) all ascend h is = h ∙ rw is refl

-- ---- whether the members are read, once all have been seen

pub all_read : {A : Type 0} (xs : List (Entry A)) (read : Bool) (i : ℕ) → drop i (map seen xs) ≡ [] → ((found : Members) → is_some (of_members (members_at (map seen xs)) found) ≡ (read && is_some (of_members (members_at (drop i (map seen xs))) found)))
    → (found : Members) → read ≡ is_some (of_members (members_view xs) found)
all_read xs read i none so_far found =
    alone read ∙ sym (ap (λ ms. is_some (of_members ms found)) (view_of_seen xs) ∙ so_far found ∙ ap (λ es. read && is_some (of_members (members_at es) found)) none)
  where
    alone : (b : Bool) → b ≡ (b && true)
    alone true = refl
    alone false = refl

-- ---- members put by their names

abbrev valued : {A : Type 0} → List ℕ × Value A → Seen
valued e = (e.0, value_view e.1)

named_seen : {A : Type 0} (xs : List (Entry A)) → map valued (by_names xs) ≡ map seen xs
named_seen [] = refl
named_seen (x ∷ xs) = ap (λ ms. seen x ∷ ms) (named_seen xs)

-- members put one after another among those found already
abbrev put_members : json.Members → json.Members → json.Members
put_members json.no_members found = found
put_members (json.member k j ms) found = put_members ms (put_in_order k j found)

chosen : {A : Type 0} (o : Ordering) (a b c : List (List ℕ × Value A)) → members_at (map valued (match_ordering o a b c)) ≡ match_ordering o (members_at (map valued a)) (members_at (map valued b)) (members_at (map valued c))
chosen Less a b c = refl
chosen Equal a b c = refl
chosen Greater a b c = refl

one_put : {A : Type 0} (k : List ℕ) (v : Value A) (es : List (List ℕ × Value A)) → members_at (map valued (insert_entry (slice_cmp nat_cmp) es k v)) ≡ put_in_order k (value_view v) (members_at (map valued es))
one_put k v [] = refl
one_put k v (e ∷ es) = chosen (slice_cmp nat_cmp k e.0) _ _ _ ∙ rw (one_put k v es)

all_put : {A : Type 0} (es found : List (List ℕ × Value A)) → members_at (map valued (put_each es found)) ≡ put_members (members_at (map valued es)) (members_at (map valued found))
all_put [] found = refl
all_put (e ∷ es) found = all_put es (insert_entry (slice_cmp nat_cmp) found e.0 e.1) ∙ ap (put_members (members_at (map valued es))) (one_put e.0 e.1 found)

values_put : (ms found : json.Members) → put_members (each_in_order ms) found ≡ members_in_order ms found
values_put json.no_members found = refl
values_put (json.member k j ms) found = values_put ms (put_in_order k (in_order j) found)

-- ---- an object whose values are in order

pub ascending_done : {A : Type 0} (old : List Seen) (xs : List (Entry A)) → map seen xs ≡ map seen_in_order old → names_ascend (members_at old) ≡ true → members_view xs ≡ members_in_order (members_at old) json.no_members
ascending_done old xs done ascend = view_of_seen xs ∙ ap members_at done ∙ values_done old ∙ ascending_stand (members_at old) ascend

pub sorted_done : {A : Type 0} (old : List Seen) (xs ys : List (Entry A)) → map seen xs ≡ map seen_in_order old → by_names ys ≡ put_each (by_names xs) [] → members_view ys ≡ members_in_order (members_at old) json.no_members
sorted_done old xs ys done sorted =
    view_of_seen ys ∙ ap members_at (sym (named_seen ys) ∙ ap (map valued) sorted) ∙ all_put (by_names xs) []
    ∙ ap (λ ms. put_members ms json.no_members) (ap members_at (named_seen xs ∙ done) ∙ values_done old) ∙ values_put (members_at old) json.no_members
