-- Trees whose members stand in order, member by member.
use Rattle.std.proofs.Common.{◌≡◌, ℕ, List, [], ◌∷◌, map, Bool, true, false, ◌&&◌, Option, Some, None, Ordering, Less, Equal, Greater, nat_cmp, refl, sym, ap, ap₂, ◌∙◌}
use Rattle.std.proofs.lemmas.Cmp.{nat_list_cmp_total}
use Rattle.std.specs.Borrow.{Bor}
use Rattle.std.specs.BTreeMap.{insert_entry}
use Rattle.std.specs.Cmp.Lexicographic.{slice_cmp}
use Rattle.std.specs.Ordering.{is_lt, match_ordering, ordering_reverse}
use Rattle.json.specs.Json as json
use Rattle.json.specs.Tree.{HasNumbers, ItemsHaveNumbers, MembersHaveNumbers}
use Rattle.json.specs.Value.{value_view, items_of, items_view, members_view}
use Rattle.json.specs.declared.value.Value.{Value}
use Rattle.json_trees.specs.OrderedTree.{is_before, is_ordered, are_items_ordered, are_members_ordered, put_in_order, in_order, items_in_order, members_in_order}

pub and_left : (a b : Bool) → (a && b) ≡ true → a ≡ true
and_left true b h = refl
and_left false b h = h

pub and_right : (a b : Bool) → (a && b) ≡ true → b ≡ true
and_right true b h = h
and_right false b h = absurd (cc)

pub both : (a b : Bool) → a ≡ true → b ≡ true → (a && b) ≡ true
both a b h i = rw h i

pub less : (o : Ordering) → is_lt o ≡ true → o ≡ Less
less Less h = refl
less Equal h = absurd (cc)
less Greater h = absurd (cc)

-- ---- members put in a map one after another

abbrev pub Entry : Type 0 → Type 0
Entry A = Bor (List ℕ) × Value A

abbrev pub by_text : Bor (List ℕ) → Bor (List ℕ) → Ordering
by_text a b = slice_cmp nat_cmp a.now b.now

view_of_choice : {A : Type 0} (o : Ordering) (a b c : List (Entry A)) → members_view (match_ordering o a b c) ≡ match_ordering o (members_view a) (members_view b) (members_view c)
view_of_choice Less a b c = refl
view_of_choice Equal a b c = refl
view_of_choice Greater a b c = refl

pub insert_puts : {A : Type 0} (es : List (Entry A)) (k : Bor (List ℕ)) (v : Value A) → members_view (insert_entry by_text es k v) ≡ put_in_order k.now (value_view v) (members_view es)
insert_puts [] k v = refl
insert_puts (e ∷ es) k v = view_of_choice (by_text k e.0) _ _ _ ∙ rw (insert_puts es k v)

-- ---- the walk that tells whether members stand in order

-- all of these members are above the name
abbrev pub is_behind : Option (Bor (List ℕ)) → json.Members → Bool
is_behind None ms = true
is_behind (Some k) ms = is_before k.now ms

-- ---- items

-- ---- the first of some members, and the rest

pub first_ordered : (k : List ℕ) (j : json.Json) (ms : json.Members) → are_members_ordered (json.member k j ms) ≡ true → is_ordered j ≡ true
first_ordered k j ms o = and_left (is_ordered j) (are_members_ordered ms) (and_right (is_before k ms) (is_ordered j && are_members_ordered ms) o)

pub rest_ordered : (k : List ℕ) (j : json.Json) (ms : json.Members) → are_members_ordered (json.member k j ms) ≡ true → are_members_ordered ms ≡ true
rest_ordered k j ms o = and_right (is_ordered j) (are_members_ordered ms) (and_right (is_before k ms) (is_ordered j && are_members_ordered ms) o)

-- ---- items made one after another

pub items_made : {A : Type 0} (xs : List (Value A)) → items_of (map (λ x. in_order (value_view x)) xs) ≡ items_in_order (items_view xs)
items_made [] = refl
items_made (x ∷ xs) = ap (json.item (in_order (value_view x))) (items_made xs)

-- ---- ordered members stand as they are

abbrev behind : json.Members → json.Members → json.Members
behind json.no_members more = more
behind (json.member k j ms) more = json.member k j (behind ms more)

behind_more : (a : json.Members) (k : List ℕ) (j : json.Json) (more : json.Members) → behind (behind a (json.member k j json.no_members)) more ≡ behind a (json.member k j more)
behind_more json.no_members k j more = refl
behind_more (json.member l i a) k j more = ap (json.member l i) (behind_more a k j more)

behind_none : (a : json.Members) → behind a json.no_members ≡ a
behind_none json.no_members = refl
behind_none (json.member k j a) = ap (json.member k j) (behind_none a)

-- the names of these members are below the name
abbrev AreBelow : json.Members → List ℕ → Type 0
AreBelow json.no_members k = Unit {0}
AreBelow (json.member l j ms) k = (slice_cmp nat_cmp l k ≡ Less) × AreBelow ms k

abbrev AreBelowNext : json.Members → json.Members → Type 0
AreBelowNext found json.no_members = Unit {0}
AreBelowNext found (json.member k j ms) = AreBelow found k

put_last : (k : List ℕ) (j : json.Json) (found : json.Members) → AreBelow found k → put_in_order k j found ≡ behind found (json.member k j json.no_members)
put_last k j json.no_members h = refl
put_last k j (json.member l i found) h =
    let above : slice_cmp nat_cmp k l ≡ Greater = nat_list_cmp_total.antisymm k l ∙ ap ordering_reverse h.0 in
    rw above (ap (json.member l i) (put_last k j found h.1))

below_next : (found : json.Members) (k : List ℕ) (j : json.Json) (ms : json.Members) → AreBelow found k → is_before k ms ≡ true → AreBelowNext (behind found (json.member k j json.no_members)) ms
below_next found k j json.no_members h b = tt
below_next found k j (json.member l i ms) h b = all found h
  where
    here : slice_cmp nat_cmp k l ≡ Less
    here = less (slice_cmp nat_cmp k l) b

    all : (fs : json.Members) → AreBelow fs k → AreBelow (behind fs (json.member k j json.no_members)) l
    all json.no_members h = (here, tt)
    all (json.member m e fs) h = (nat_list_cmp_total.trans m k l h.0 here, all fs h.1)

none_below : (ms : json.Members) → AreBelowNext json.no_members ms
none_below json.no_members = tt
none_below (json.member k j ms) = tt

-- each name is below the next one
abbrev pub names_ascend : json.Members → Bool
names_ascend json.no_members = true
names_ascend (json.member k j ms) = is_before k ms && names_ascend ms

-- the members with their values in order
abbrev pub each_in_order : json.Members → json.Members
each_in_order json.no_members = json.no_members
each_in_order (json.member k j ms) = json.member k (in_order j) (each_in_order ms)

ascending_behind : (ms found : json.Members) → names_ascend ms ≡ true → AreBelowNext found ms → behind found (each_in_order ms) ≡ members_in_order ms found
ascending_behind json.no_members found h b = behind_none found
ascending_behind (json.member k j ms) found h b =
    sym (behind_more found k (in_order j) (each_in_order ms))
    ∙ ascending_behind ms (behind found (json.member k (in_order j) json.no_members)) (and_right (is_before k ms) (names_ascend ms) h) (below_next found k (in_order j) ms b (and_left (is_before k ms) (names_ascend ms) h))
    ∙ ap (members_in_order ms) (sym (put_last k (in_order j) found b))

pub ascending_stand : (ms : json.Members) → names_ascend ms ≡ true → each_in_order ms ≡ members_in_order ms json.no_members
ascending_stand ms h = ascending_behind ms json.no_members h (none_below ms)

ordered_ascend : (ms : json.Members) → are_members_ordered ms ≡ true → names_ascend ms ≡ true
ordered_ascend json.no_members o = refl
ordered_ascend (json.member k j ms) o = both (is_before k ms) (names_ascend ms) (and_left (is_before k ms) (is_ordered j && are_members_ordered ms) o) (ordered_ascend ms (rest_ordered k j ms o))

mutual
  pub ordered_stands : (j : json.Json) → is_ordered j ≡ true → j ≡ in_order j
  ordered_stands json.null o = refl
  ordered_stands (json.boolean b) o = refl
  ordered_stands (json.number s) o = refl
  ordered_stands (json.string s) o = refl
  ordered_stands (json.array js) o = ap json.array (items_stand js o)
  ordered_stands (json.object ms) o = ap json.object (values_stand ms o ∙ ascending_stand ms (ordered_ascend ms o))

  items_stand : (js : json.Items) → are_items_ordered js ≡ true → js ≡ items_in_order js
  items_stand json.no_items o = refl
  items_stand (json.item j js) o = ap₂ json.item (ordered_stands j (and_left (is_ordered j) (are_items_ordered js) o)) (items_stand js (and_right (is_ordered j) (are_items_ordered js) o))

  values_stand : (ms : json.Members) → are_members_ordered ms ≡ true → ms ≡ each_in_order ms
  values_stand json.no_members o = refl
  values_stand (json.member k j ms) o = ap₂ (json.member k) (ordered_stands j (first_ordered k j ms o)) (values_stand ms (rest_ordered k j ms o))

-- ---- what was put in order is in order

before_put : (q k : List ℕ) (j : json.Json) (ms : json.Members) → is_lt (slice_cmp nat_cmp q k) ≡ true → is_before q ms ≡ true → is_before q (put_in_order k j ms) ≡ true
before_put q k j json.no_members h hs = h
before_put q k j (json.member l i ms) h hs = by (slice_cmp nat_cmp k l)
  where
    by : (o : Ordering) → is_before q (match_ordering o (json.member k j (json.member l i ms)) (json.member l j ms) (json.member l i (put_in_order k j ms))) ≡ true
    by Less = h
    by Equal = hs
    by Greater = hs

put_ordered : (k : List ℕ) (j : json.Json) (ms : json.Members) → is_ordered j ≡ true → are_members_ordered ms ≡ true → are_members_ordered (put_in_order k j ms) ≡ true
put_ordered k j json.no_members h o = rw h refl
put_ordered k j (json.member l i ms) h o = by (slice_cmp nat_cmp k l) refl (put_ordered k j ms h (rest_ordered l i ms o))
  where
    first : is_before l ms ≡ true
    first = and_left (is_before l ms) (is_ordered i && are_members_ordered ms) o

    by : (c : Ordering) → slice_cmp nat_cmp k l ≡ c → are_members_ordered (put_in_order k j ms) ≡ true
        → are_members_ordered (match_ordering c (json.member k j (json.member l i ms)) (json.member l j ms) (json.member l i (put_in_order k j ms))) ≡ true
    by Less is later = both (is_lt (slice_cmp nat_cmp k l)) (is_ordered j && are_members_ordered (json.member l i ms)) (ap is_lt is) (both (is_ordered j) (are_members_ordered (json.member l i ms)) h o)
    by Equal is later = both (is_before l ms) (is_ordered j && are_members_ordered ms) first (both (is_ordered j) (are_members_ordered ms) h (rest_ordered l i ms o))
    by Greater is later =
        let above : slice_cmp nat_cmp l k ≡ Less = nat_list_cmp_total.antisymm l k ∙ ap ordering_reverse is in
        both (is_before l (put_in_order k j ms)) (is_ordered i && are_members_ordered (put_in_order k j ms)) (before_put l k j ms (ap is_lt above) first)
        (both (is_ordered i) (are_members_ordered (put_in_order k j ms)) (first_ordered l i ms o) later)

mutual
  pub in_order_ordered : (j : json.Json) → is_ordered (in_order j) ≡ true
  in_order_ordered json.null = refl
  in_order_ordered (json.boolean b) = refl
  in_order_ordered (json.number s) = refl
  in_order_ordered (json.string s) = refl
  in_order_ordered (json.array js) = items_ordered js
  in_order_ordered (json.object ms) = members_ordered ms json.no_members refl

  items_ordered : (js : json.Items) → are_items_ordered (items_in_order js) ≡ true
  items_ordered json.no_items = refl
  items_ordered (json.item j js) = both (is_ordered (in_order j)) (are_items_ordered (items_in_order js)) (in_order_ordered j) (items_ordered js)

  members_ordered : (ms found : json.Members) → are_members_ordered found ≡ true → are_members_ordered (members_in_order ms found) ≡ true
  members_ordered json.no_members found o = o
  members_ordered (json.member k j ms) found o = members_ordered ms (put_in_order k (in_order j) found) (put_ordered k (in_order j) found (in_order_ordered j) o)

-- ---- numbers can be written as before

numbers_of_choice : (o : Ordering) (a b c : json.Members) → MembersHaveNumbers a → MembersHaveNumbers b → MembersHaveNumbers c → MembersHaveNumbers (match_ordering o a b c)
numbers_of_choice Less a b c h i j = h
numbers_of_choice Equal a b c h i j = i
numbers_of_choice Greater a b c h i j = j

numbers_put : (k : List ℕ) (j : json.Json) (ms : json.Members) → HasNumbers j → MembersHaveNumbers ms → MembersHaveNumbers (put_in_order k j ms)
numbers_put k j json.no_members h hs = (h, tt)
numbers_put k j (json.member l i ms) h hs = numbers_of_choice (slice_cmp nat_cmp k l) _ _ _ (h, hs) (h, hs.1) (hs.0, numbers_put k j ms h hs.1)

mutual
  pub numbers_in_order : (j : json.Json) → HasNumbers j → HasNumbers (in_order j)
  numbers_in_order json.null h = h
  numbers_in_order (json.boolean b) h = h
  numbers_in_order (json.number n) h = h
  numbers_in_order (json.string s) h = h
  numbers_in_order (json.array js) h = numbers_of_items js h
  numbers_in_order (json.object ms) h = numbers_of_members ms json.no_members h tt

  numbers_of_items : (js : json.Items) → ItemsHaveNumbers js → ItemsHaveNumbers (items_in_order js)
  numbers_of_items json.no_items h = h
  numbers_of_items (json.item j js) h = (numbers_in_order j h.0, numbers_of_items js h.1)

  numbers_of_members : (ms found : json.Members) → MembersHaveNumbers ms → MembersHaveNumbers found → MembersHaveNumbers (members_in_order ms found)
  numbers_of_members json.no_members found h hs = hs
  numbers_of_members (json.member k j ms) found h hs = numbers_of_members ms (put_in_order k (in_order j) found) h.1 (numbers_put k (in_order j) found (numbers_in_order j h.0) hs)
