-- Where a name is among an object's members in the order of their names, told by one of them.
use Rattle.std.proofs.Common.{◌≡◌, true≢false, ℕ, zero, suc, ◌<◌, List, [], ◌∷◌, length, get_or, drop, Option, Some, None, option_and_then, Bool, true, false, bytes_eq, Ordering, Less, Equal, Greater, is_eq, refl, sym, ap, ◌∙◌, arith}
use Rattle.std.proofs.lemmas.Cmp.{nat_list_cmp_total}
use Rattle.std.proofs.lemmas.Map.Text.{is_eq-slice_cmp}
use Rattle.std.proofs.lemmas.Option.{slice_get-get_or}
use Rattle.std.proofs.lemmas.Slice.Eq.{bytes_eq-Decides}
use Rattle.std.specs.List.{AllByRecursion}
use Rattle.std.specs.Ordering.{ordering_reverse}
use Rattle.json.specs.Json as json
use Rattle.json.specs.Json.{Json}
use Rattle.json_trees.specs.OrderedTree.{places, member_at, taken}
use Rattle.json_trees.proofs.PlacesLemmas.{Places, compare, same_name, value_at, found, Stands, places_stand, AreAbove, above_further, Ascend, places_ascend}

-- the member that an index among the names leads to
stands_at : (ms : json.Members) (es : Places) (i : ℕ) (d : List ℕ × ℕ) → i < length es → AllByRecursion (Stands ms) es → Stands ms (get_or es i d)
stands_at ms [] i d h hs = absurd (omega arith)
stands_at ms (e ∷ es) zero d h hs = hs.0
stands_at ms (e ∷ es) (suc i) d h hs = stands_at ms es i d (omega arith) hs.1

taken_within : (ms : json.Members) (i : ℕ) (d : List ℕ × ℕ) → i < length (places ms) → taken i ms ≡ Some ((get_or (places ms) i d).0, value_at ms (get_or (places ms) i d).1)
taken_within ms i d h = ap (option_and_then (λ (e : List ℕ × ℕ). member_at e.1 ms)) (slice_get-get_or (places ms) i d h) ∙ stands_at ms (places ms) i d h (places_stand ms)

equal : (o : Ordering) → is_eq o ≡ true → o ≡ Equal
equal Less h = absurd (true≢false (sym h))
equal Equal h = refl
equal Greater h = absurd (true≢false (sym h))

differ : (k q : List ℕ) (b : Bool) → bytes_eq k q ≡ b → (k ≡ q → ⊥) → b ≡ false
differ k q true e other = absurd (other ((bytes_eq-Decides k q).0 e))
differ k q false e other = refl

-- a name that isn't equal to another by their order is another name
pub other_name : (q k : List ℕ) → (compare q k ≡ Equal → ⊥) → bytes_eq k q ≡ false
other_name q k not = differ k q (bytes_eq k q) refl (λ same. not (equal (compare q k) (is_eq-slice_cmp q k ∙ (bytes_eq-Decides q k).1 (sym same))))

less_not_equal : (o : Ordering) → o ≡ Less → o ≡ Equal → ⊥
less_not_equal Less h i = absurd (cc)
less_not_equal Equal h i = absurd (cc)
less_not_equal Greater h i = absurd (cc)

pub greater_not_equal : (o : Ordering) → o ≡ Greater → o ≡ Equal → ⊥
greater_not_equal Less h i = absurd (cc)
greater_not_equal Equal h i = absurd (cc)
greater_not_equal Greater h i = absurd (cc)

-- the first name is below each later one
below_later : (k : List ℕ) (es : Places) (i : ℕ) (d : List ℕ × ℕ) → i < length es → AreAbove k es → compare k (get_or es i d).0 ≡ Less
below_later k [] i d h a = absurd (omega arith)
below_later k (e ∷ es) zero d h a = a.0
below_later k (e ∷ es) (suc i) d h a = below_later k es i d (omega arith) a.1

-- a name that is at or behind a later one is behind the first
behind_first : (q k z : List ℕ) (o : Ordering) → compare k z ≡ Less → compare q z ≡ o → (o ≡ Less → ⊥) → compare q k ≡ Greater
behind_first q k z Less h is not = absurd (not refl)
behind_first q k z Equal h is not = nat_list_cmp_total.congr q z k is ∙ nat_list_cmp_total.antisymm z k ∙ ap ordering_reverse h
behind_first q k z Greater h is not =
    let over : compare z q ≡ Less = nat_list_cmp_total.antisymm z q ∙ ap ordering_reverse is in
    nat_list_cmp_total.antisymm q k ∙ ap ordering_reverse (nat_list_cmp_total.trans k z q h over)

past_first : (q : List ℕ) (e : List ℕ × ℕ) (es : Places) (i : ℕ) (d : List ℕ × ℕ) (o : Ordering) → i < length es → AreAbove e.0 es → compare q (get_or es i d).0 ≡ o → (o ≡ Less → ⊥) → bytes_eq e.0 q ≡ false
past_first q e es i d o h a is not = other_name q e.0 (greater_not_equal (compare q e.0) (behind_first q e.0 (get_or es i d).0 o (below_later e.0 es i d h a) is not))

name_behind : (ms : json.Members) (q : List ℕ) (es : Places) (i : ℕ) (d : List ℕ × ℕ) → i < length es → Ascend es → compare q (get_or es i d).0 ≡ Greater → found ms q (drop (suc i) es) ≡ found ms q es
name_behind ms q [] i d h o is = absurd (omega arith)
name_behind ms q (e ∷ es) zero d h o is = rw (other_name q e.0 (greater_not_equal (compare q e.0) is)) refl
name_behind ms q (e ∷ es) (suc i) d h o is = rw (past_first q e es i d Greater (omega arith) o.0 is (λ e. absurd (cc))) (name_behind ms q es i d (omega arith) o.1 is)

name_found : (ms : json.Members) (q : List ℕ) (es : Places) (i : ℕ) (d : List ℕ × ℕ) → i < length es → Ascend es → compare q (get_or es i d).0 ≡ Equal → found ms q es ≡ Some (value_at ms (get_or es i d).1)
name_found ms q [] i d h o is = absurd (omega arith)
name_found ms q (e ∷ es) zero d h o is = rw ((bytes_eq-Decides e.0 q).1 (sym (same_name q e.0 is))) refl
name_found ms q (e ∷ es) (suc i) d h o is = rw (past_first q e es i d Equal (omega arith) o.0 is (λ e. absurd (cc))) (name_found ms q es i d (omega arith) o.1 is)

pub none_above : (ms : json.Members) (q : List ℕ) (es : Places) → AreAbove q es → found ms q es ≡ None
none_above ms q [] a = refl
none_above ms q (e ∷ es) a = rw (other_name q e.0 (less_not_equal (compare q e.0) a.0)) (none_above ms q es a.1)

name_before : (ms : json.Members) (q : List ℕ) (es : Places) (i : ℕ) (d : List ℕ × ℕ) → i < length es → Ascend es → compare q (get_or es i d).0 ≡ Less → found ms q (drop i es) ≡ None
name_before ms q [] i d h o is = absurd (omega arith)
name_before ms q (e ∷ es) zero d h o is = none_above ms q (e ∷ es) (is, above_further q e.0 es is o.0)
name_before ms q (e ∷ es) (suc i) d h o is = name_before ms q es i d (omega arith) o.1 is

-- ---- told by the member that stands at an index

abbrev name_in : Option (List ℕ × Json) → List ℕ
name_in None = []
name_in (Some m) = m.0

abbrev value_in : Option (List ℕ × Json) → Option Json
value_in None = None
value_in (Some m) = Some m.1

abbrev at_index : json.Members → ℕ → List ℕ × ℕ
at_index ms i = get_or (places ms) i ([], 0)

told : (ms : json.Members) (i : ℕ) (m : List ℕ × Json) → i < length (places ms) → Some m ≡ taken i ms → ((at_index ms i).0 ≡ m.0) × (Some (value_at ms (at_index ms i).1) ≡ Some m.1)
told ms i m h is =
    let same = sym (taken_within ms i ([], 0) h) ∙ sym is in (ap name_in same, ap value_in same)

pub one_is_taken : (ms : json.Members) (i : ℕ) → i < length (places ms) → None ≡ taken i ms → ⊥
one_is_taken ms i h is = none_is_some (is ∙ taken_within ms i ([], 0) h)
  where
    none_is_some : {m : List ℕ × Json} → None ≡ Some m → ⊥
    none_is_some e = absurd (cc)

pub none_from_here : (ms : json.Members) (q : List ℕ) (i : ℕ) (m : List ℕ × Json) → i < length (places ms) → Some m ≡ taken i ms → compare q m.0 ≡ Less → found ms q (drop i (places ms)) ≡ None
none_from_here ms q i m h is less = name_before ms q (places ms) i ([], 0) h (places_ascend ms) (ap (compare q) (told ms i m h is).0 ∙ less)

pub here_it_is : (ms : json.Members) (q : List ℕ) (i : ℕ) (m : List ℕ × Json) → i < length (places ms) → Some m ≡ taken i ms → compare q m.0 ≡ Equal → found ms q (places ms) ≡ Some m.1
here_it_is ms q i m h is equal = name_found ms q (places ms) i ([], 0) h (places_ascend ms) (ap (compare q) (told ms i m h is).0 ∙ equal) ∙ (told ms i m h is).1

pub all_behind_here : (ms : json.Members) (q : List ℕ) (i : ℕ) (m : List ℕ × Json) → i < length (places ms) → Some m ≡ taken i ms → compare q m.0 ≡ Greater → found ms q (drop (suc i) (places ms)) ≡ found ms q (places ms)
all_behind_here ms q i m h is greater = name_behind ms q (places ms) i ([], 0) h (places_ascend ms) (ap (compare q) (told ms i m h is).0 ∙ greater)
