-- Values in which each name stands once, item by item and member by member.
use Rattle.std.proofs.Common.{◌≡◌, ℕ, Bool, true, false, List, [], ◌∷◌, ◌++◌, ◌||◌, map, refl, ap, ◌∙◌, if◌then◌else◌, nat_eq, length, ◌<◌, arith}
use Rattle.std.specs.Cmp.Lexicographic.{pointwise}
use Rattle.std.specs.Borrow.{Bor}
use Rattle.std.specs.Str.{bytes_eq}
use Rattle.std.specs.List.{list_any}
use Rattle.json.specs.Json.{Json, null, boolean, number, string, array, object, Items, no_items, item, Members, no_members, member}
use Rattle.json.specs.Tree.{HasNumbers, ItemsHaveNumbers, MembersHaveNumbers}
use Rattle.json.specs.Value.{value_view, items_of, items_view, members_of, members_view}
use Rattle.json.specs.declared.value.Value.{Value}
use Rattle.indexmap.specs.IndexMap.{insert_entry, insert_all}
use Rattle.jpath_texts.specs.NamesOnce.{names_once, items_once, members_once, each_name_once, put_member, put_members}

abbrev pub same_name : Bor (List ℕ) → Bor (List ℕ) → Bool
same_name x y = pointwise nat_eq x.now y.now

abbrev pub member_view : {A : Type 0} → Bor (List ℕ) × Value A → Bor (List ℕ) × Json
member_view m = (m.0, value_view m.1)

abbrev pub once_member : {A : Type 0} → Bor (List ℕ) × Value A → Bor (List ℕ) × Json
once_member m = (m.0, names_once (value_view m.1))

module _ {A : Type 0} where
  pub items_made : (xs : List (Value A)) → items_of (map (λ x. names_once (value_view x)) xs) ≡ items_once (items_view xs)
  items_made [] = refl
  items_made (x ∷ xs) = ap (item (names_once (value_view x))) (items_made xs)

  pub members_made : (xs : List (Bor (List ℕ) × Value A)) → members_of (map once_member xs) ≡ members_once (members_view xs)
  members_made [] = refl
  members_made (x ∷ xs) = ap (member x.0.now (names_once (value_view x.1))) (members_made xs)

  pub put_entry : (es : List (Bor (List ℕ) × Value A)) (k : Bor (List ℕ)) (v : Value A) → members_view (insert_entry same_name es k v) ≡ put_member k.now (value_view v) (members_view es)
  put_entry [] k v = refl
  put_entry (e ∷ es) k v = by (bytes_eq k.now e.0.now) (put_entry es k v)
    where
      by : (b : Bool) → members_view (insert_entry same_name es k v) ≡ put_member k.now (value_view v) (members_view es)
          → members_view (if b then (e.0, v) ∷ es else e ∷ insert_entry same_name es k v) ≡ (if b then member e.0.now (value_view v) (members_view es) else member e.0.now (value_view e.1) (put_member k.now (value_view v) (members_view es)))
      by true h = refl
      by false h = ap (member e.0.now (value_view e.1)) h

  pub put_entries : (es xs : List (Bor (List ℕ) × Value A)) → members_view (insert_all same_name es xs) ≡ put_members (members_view es) (members_view xs)
  put_entries es [] = refl
  put_entries es (x ∷ xs) = put_entries (insert_entry same_name es x.0 x.1) xs ∙ ap (λ ms. put_members ms (members_view xs)) (put_entry es x.0 x.1)

  -- ---- where no name comes again

  pub one_name : (xs : List (Bor (List ℕ) × Value A)) → length xs < 2 → each_name_once (members_view xs) ≡ members_view xs
  one_name [] h = refl
  one_name (x ∷ []) h = refl
  one_name (x ∷ y ∷ xs) h = absurd (omega arith)

  pub put_more : (before : Members) (xs : List (Bor (List ℕ) × Value A)) (x : Bor (List ℕ) × Value A)
      → put_members before (members_view (xs ++ x ∷ [])) ≡ put_member x.0.now (value_view x.1) (put_members before (members_view xs))
  put_more before [] x = refl
  put_more before (y ∷ xs) x = put_more (put_member y.0.now (value_view y.1) before) xs x

  pub put_new : (xs : List (Bor (List ℕ) × Value A)) (x : Bor (List ℕ) × Value A) → list_any (λ (m : Bor (List ℕ) × Value A). bytes_eq x.0.now m.0.now) xs ≡ false
      → put_member x.0.now (value_view x.1) (members_view xs) ≡ members_view (xs ++ x ∷ [])
  put_new [] x h = refl
  put_new (y ∷ xs) x h = by (bytes_eq x.0.now y.0.now) (list_any (λ (m : Bor (List ℕ) × Value A). bytes_eq x.0.now m.0.now) xs) h (put_new xs x)
    where
      by : (b c : Bool) → (b || c) ≡ false → (c ≡ false → put_member x.0.now (value_view x.1) (members_view xs) ≡ members_view (xs ++ x ∷ []))
          → (if b then member y.0.now (value_view x.1) (members_view xs) else member y.0.now (value_view y.1) (put_member x.0.now (value_view x.1) (members_view xs)))
          ≡ member y.0.now (value_view y.1) (members_view (xs ++ x ∷ []))
      by true c h rest = absurd (cc)
      by false c h rest = ap (member y.0.now (value_view y.1)) (rest h)

-- ---- numbers can be written as before

numbers_put : (k : List ℕ) (j : Json) (ms : Members) → HasNumbers j → MembersHaveNumbers ms → MembersHaveNumbers (put_member k j ms)
numbers_put k j no_members h hs = (h, tt)
numbers_put k j (member l i ms) h hs = by (bytes_eq k l) (numbers_put k j ms h hs.1)
  where
    by : (b : Bool) → MembersHaveNumbers (put_member k j ms) → MembersHaveNumbers (if b then member l j ms else member l i (put_member k j ms))
    by true rest = (h, hs.1)
    by false rest = (hs.0, rest)

numbers_put_all : (before ms : Members) → MembersHaveNumbers before → MembersHaveNumbers ms → MembersHaveNumbers (put_members before ms)
numbers_put_all before no_members h hs = h
numbers_put_all before (member k j ms) h hs = numbers_put_all (put_member k j before) ms (numbers_put k j before hs.0 h) hs.1

mutual
  pub numbers_once : (j : Json) → HasNumbers j → HasNumbers (names_once j)
  numbers_once null h = h
  numbers_once (boolean b) h = h
  numbers_once (number n) h = h
  numbers_once (string s) h = h
  numbers_once (array js) h = numbers_of_items js h
  numbers_once (object ms) h = numbers_put_all no_members (members_once ms) tt (numbers_of_members ms h)

  numbers_of_items : (js : Items) → ItemsHaveNumbers js → ItemsHaveNumbers (items_once js)
  numbers_of_items no_items h = h
  numbers_of_items (item j js) h = (numbers_once j h.0, numbers_of_items js h.1)

  numbers_of_members : (ms : Members) → MembersHaveNumbers ms → MembersHaveNumbers (members_once ms)
  numbers_of_members no_members h = h
  numbers_of_members (member k j ms) h = (numbers_once j h.0, numbers_of_members ms h.1)
