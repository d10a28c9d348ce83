-- An object with as many different names as members has each name once.
use Rattle.std.proofs.Common.{◌≡◌, ℕ, suc, ◌+◌, ◌≤◌, List, [], ◌∷◌, length, Option, Some, None, Bool, true, false, cond, bytes_eq, Ordering, Less, Equal, Greater, refl, sym, ap, subst, ◌∙◌, arith}
use Rattle.std.proofs.lemmas.Slice.Eq.{bytes_eq-Decides}
use Rattle.std.specs.Borrow.{Bor}
use Rattle.std.specs.Option.{option_to_list}
use Rattle.std.specs.Ordering.{match_ordering}
use Rattle.json.specs.Json as json
use Rattle.json.specs.Json.{Json}
use Rattle.json.specs.Find.{get_member, later_or}
use Rattle.json.specs.Value.{members_view}
use Rattle.json.specs.declared.value.Value.{Value}
use Rattle.json_trees.specs.ExactAt.{values_named}
use Rattle.json_trees.specs.OrderedTree.{places_from, places}
use Rattle.json_trees.proofs.MemberSearchLemmas.{other_name, greater_not_equal, none_above}
use Rattle.json_trees.proofs.PlacesLemmas.{Places, compare, put, value_at, found, put_found, above_further, Ascend, put_ascends}

abbrev pub size : json.Members → ℕ
size json.no_members = 0
size (json.member k j ms) = suc (size ms)

put_at_most : (es : Places) (k : List ℕ) (n : ℕ) → length (put es k n) ≤ suc (length es)
put_at_most [] k n = omega arith
put_at_most (e ∷ es) k n = by (compare k e.0) (put_at_most es k n)
  where
    by : (o : Ordering) → length (put es k n) ≤ suc (length es) → length (match_ordering o ((k, n) ∷ e ∷ es) ((e.0, n) ∷ es) (e ∷ put es k n)) ≤ suc (suc (length es))
    by Less h = omega arith
    by Equal h = omega arith
    by Greater h = omega (arith, h)

at_most : (n : ℕ) (rest : json.Members) (es : Places) → length (places_from n rest es) ≤ length es + size rest
at_most n json.no_members es = omega arith
at_most n (json.member k j rest) es = omega (arith, at_most (suc n) rest (put es k n), put_at_most es k n)

new_name : (ms : json.Members) (es : Places) (k : List ℕ) (n : ℕ) → Ascend es → length (put es k n) ≡ suc (length es) → found ms k es ≡ None
new_name ms [] k n o h = refl
new_name ms (e ∷ es) k n o h = by (compare k e.0) refl h (new_name ms es k n o.1)
  where
    by : (c : Ordering) → compare k e.0 ≡ c → length (match_ordering c ((k, n) ∷ e ∷ es) ((e.0, n) ∷ es) (e ∷ put es k n)) ≡ suc (suc (length es)) → (length (put es k n) ≡ suc (length es) → found ms k es ≡ None) → found ms k (e ∷ es) ≡ None
    by Less is h later = none_above ms k (e ∷ es) (is, above_further k e.0 es is o.0)
    by Equal is h later = absurd (omega (arith, h))
    by Greater is h later = rw (other_name k e.0 (greater_not_equal (compare k e.0) is)) (later (omega (arith, h)))

abbrev Once : json.Members → json.Members → Places → List ℕ → Type 0
Once ms rest es q = (length (values_named q rest) ≤ 1) × ((found ms q es ≡ None → ⊥) → values_named q rest ≡ [])

some_is_none : {j : Json} → Some j ≡ None → ⊥
some_is_none e = absurd (cc)

once : (ms : json.Members) (n : ℕ) (rest : json.Members) (es : Places) (q : List ℕ) → Ascend es → length (places_from n rest es) ≡ length es + size rest → Once ms rest es q
once ms n json.no_members es q o h = (omega arith, λ there. refl)
once ms n (json.member k j rest) es q o h =
    let longer : length (put es k n) ≡ suc (length es) = omega (arith, h, at_most (suc n) rest (put es k n), put_at_most es k n) in
    by (bytes_eq k q) refl longer (once ms (suc n) rest (put es k n) q (put_ascends k n es o) (omega (arith, h, longer)))
  where
    there_now : bytes_eq k q ≡ true → found ms q (put es k n) ≡ Some (value_at ms n)
    there_now is = put_found ms q k n es ∙ ap (λ b. cond b (Some (value_at ms n)) (found ms q es)) is

    by : (b : Bool) → bytes_eq k q ≡ b → length (put es k n) ≡ suc (length es) → Once ms rest (put es k n) q → Once ms (json.member k j rest) es q
    by true is longer behind =
        let none : values_named q rest ≡ [] = behind.1 (λ e. some_is_none {j = value_at ms n} (sym (there_now is) ∙ e)) in
        let same : k ≡ q = (bytes_eq-Decides k q).0 is in
        let one : values_named q (json.member k j rest) ≡ j ∷ [] = ap (λ b. cond b (j ∷ values_named q rest) (values_named q rest)) is ∙ ap (λ js. j ∷ js) none in
        (subst (λ js. length js ≤ 1) (sym one) (omega arith), λ there. absurd (there (subst (λ q. found ms q es ≡ None) same (new_name ms es k n o longer))))
    by false is longer behind =
        let rest_alone : values_named q (json.member k j rest) ≡ values_named q rest = ap (λ b. cond b (j ∷ values_named q rest) (values_named q rest)) is in
        let as_before : found ms q (put es k n) ≡ found ms q es = put_found ms q k n es ∙ ap (λ b. cond b (Some (value_at ms n)) (found ms q es)) is in
        (subst (λ js. length js ≤ 1) (sym rest_alone) behind.0, λ there. rest_alone ∙ behind.1 (λ e. there (sym as_before ∙ e)))

named_or_none : (q : List ℕ) (ms : json.Members) → values_named q ms ≡ [] → get_member q ms ≡ None
named_or_none q json.no_members h = refl
named_or_none q (json.member k j ms) h = by (bytes_eq k q) h (named_or_none q ms)
  where
    by : (b : Bool) → cond b (j ∷ values_named q ms) (values_named q ms) ≡ [] → (values_named q ms ≡ [] → get_member q ms ≡ None) → later_or (get_member q ms) (cond b (Some j) None) ≡ None
    by true h later = absurd (cc)
    by false h later = rw (later h) refl

only_one : (q : List ℕ) (ms : json.Members) → length (values_named q ms) ≤ 1 → values_named q ms ≡ option_to_list (get_member q ms)
only_one q json.no_members h = refl
only_one q (json.member k j ms) h = by (bytes_eq k q) h (only_one q ms)
  where
    empty : (js : List Json) → suc (length js) ≤ 1 → js ≡ []
    empty [] h = refl
    empty (j ∷ js) h = absurd (omega (arith, h))

    last : (o : Option Json) → o ≡ later_or o None
    last None = refl
    last (Some j) = refl

    by : (b : Bool) → length (cond b (j ∷ values_named q ms) (values_named q ms)) ≤ 1 → (length (values_named q ms) ≤ 1 → values_named q ms ≡ option_to_list (get_member q ms)) → cond b (j ∷ values_named q ms) (values_named q ms) ≡ option_to_list (later_or (get_member q ms) (cond b (Some j) None))
    by true h later = let none = empty (values_named q ms) h in rw none (rw (named_or_none q ms none) refl)
    by false h later = later h ∙ ap option_to_list (last (get_member q ms))

pub each_once : (ms : json.Members) → length (places ms) ≡ size ms → (q : List ℕ) → values_named q ms ≡ option_to_list (get_member q ms)
each_once ms h q = let all : length (places ms) ≡ 0 + size ms = omega (arith, h) in only_one q ms (once ms 0 ms [] q tt all).0

pub size_of : {A : Type 0} (ms : List (Bor (List ℕ) × Value A)) → size (members_view ms) ≡ length ms
size_of [] = refl
size_of (m ∷ ms) = ap suc (size_of ms)
