-- Where bytes lead, one after the other.
use Rattle.std.proofs.Common.{rules, ◌≡◌, ℕ, zero, suc, ◌+◌, ◌<◌, ◌≤◌, List, [], ◌∷◌, ◌++◌, length, get_or, take, drop, Bool, true, map, refl, sym, ap, subst, ◌∙◌, arith, inl, inr}
use Rattle.std.proofs.lemmas.Bool.{cases_lt}
use Rattle.std.proofs.lemmas.List.{map-append, append_assoc, take-append-drop, drop-take, take-take}
use Rattle.std.proofs.Math.Seq.{drop-cons}
use Rattle.json_recognizer.specs.Classes.{class_of, is_plain, is_tail, is_hex, is_high, is_low, is_short_escape}
use Rattle.json_recognizer.specs.Machine.{Next, goes, refused, goes_from, step, after_all}
use Rattle.json_recognizer.specs.plan.Leads.{Leads, LeadsIn, AreChars}
use Rattle.json_recognizer.specs.declared.class.Class.{Class}
use Rattle.json_recognizer.specs.declared.class.Class.TheVariants.{AnyD}
use Rattle.json_recognizer.specs.declared.machine.Mode.{Mode}
use Rattle.json_recognizer.specs.declared.machine.Mode.TheVariants.{InText}
use Rattle.json_recognizer.specs.declared.machine.TextPart.{TextPart}
use Rattle.json_recognizer.specs.declared.machine.TextPart.TheVariants.{InChars, AfterBackslash, Unit4, Unit3, Unit2, Unit1, UnitD, High2, High1, HighEnd, HighU, LowD, LowC, Utf1, Utf2, UtfE0, UtfEd, UtfF0}

-- one byte, and those behind it
pub by_one : (m₀ m n : Mode) (x : ℕ) (xs : List ℕ) → ((st : List Bool) (r : ℕ) → step m₀ st r (class_of x) ≡ goes m st r) → Leads m xs n → Leads m₀ (x ∷ xs) n
unfolding after_all
by_one m₀ m n x xs one rest st r = ap (λ next. goes_from next (λ m. λ st. λ r. after_all m st r (map class_of xs))) (one st r) ∙ rest st r

next_both : (n : Next) (cs more : List Class) → ((m : Mode) (st : List Bool) (r : ℕ) → after_all m st r (cs ++ more) ≡ goes_from (after_all m st r cs) (λ m. λ st. λ r. after_all m st r more))
    → goes_from n (λ m. λ st. λ r. after_all m st r (cs ++ more)) ≡ goes_from (goes_from n (λ m. λ st. λ r. after_all m st r cs)) (λ m. λ st. λ r. after_all m st r more)
next_both (goes m st r) cs more ih = ih m st r
next_both refused cs more ih = refl

after_both : (cs more : List Class) (m : Mode) (st : List Bool) (r : ℕ) → after_all m st r (cs ++ more) ≡ goes_from (after_all m st r cs) (λ m. λ st. λ r. after_all m st r more)
unfolding after_all
after_both [] more m st r = refl
after_both (c ∷ cs) more m st r = next_both (step m st r c) cs more (λ m. λ st. λ r. after_both cs more m st r)

pub by_both : (m₀ m n : Mode) (xs ys : List ℕ) → Leads m₀ xs m → Leads m ys n → Leads m₀ (xs ++ ys) n
by_both m₀ m n xs ys first second st r =
    ap (after_all m₀ st r) (map-append class_of xs ys) ∙ after_both (map class_of xs) (map class_of ys) m₀ st r
    ∙ ap (λ next. goes_from next (λ m. λ st. λ r. after_all m st r (map class_of ys))) (first st r) ∙ second st r

-- the first few of a list, and more
take_both : (xs : List ℕ) (a b : ℕ) → take (a + b) xs ≡ take a xs ++ take b (drop a xs)
take_both xs a b =
    sym (take-append-drop a (take (a + b) xs)) ∙ ap (λ ys. ys ++ drop a (take (a + b) xs)) (take-take a (a + b) xs (omega arith)) ∙ ap (λ ys. take a xs ++ ys) (drop-take a b xs)

pub further : (m₀ m n : Mode) (xs : List ℕ) (a b j : ℕ) → Leads m₀ (take a xs) m → Leads m (take b (drop a xs)) n → j ≡ a + b → Leads m₀ (take j xs) n
further m₀ m n xs a b j first second is = subst (λ ys. Leads m₀ ys n) (sym (ap (λ k. take k xs) is ∙ take_both xs a b)) (by_both m₀ m n (take a xs) (take b (drop a xs)) first second)

pub further_in : (p q e : TextPart) (xs : List ℕ) (a b j : ℕ) → LeadsIn p (take a xs) q → LeadsIn q (take b (drop a xs)) e → j ≡ a + b → LeadsIn p (take j xs) e
further_in p q e xs a b j first second is is_name = further (InText p is_name) (InText q is_name) (InText e is_name) xs a b j (first is_name) (second is_name) is

pub chars_further : (xs behind : List ℕ) (a b j : ℕ) → behind ≡ drop a xs → AreChars (take a xs) → AreChars (take b behind) → j ≡ a + b → AreChars (take j xs)
chars_further xs behind a b j lies first second is = further_in InChars InChars InChars xs a b j first (subst (λ ys. AreChars (take b ys)) lies second) is

-- the characters before the rest of a list, and those at its front
pub chars_and_more : (xs front rest behind : List ℕ) (n : ℕ) → behind ≡ drop n rest → xs ≡ front ++ rest → AreChars front → AreChars (take n rest) → (more : List ℕ) × AreChars more × (xs ≡ more ++ behind)
chars_and_more xs front rest behind n lies is first second = (
  front ++ take n rest,
  (λ is_name. by_both (InText InChars is_name) (InText InChars is_name) (InText InChars is_name) front (take n rest) (first is_name) (second is_name)),
  is ∙ ap (λ ys. front ++ ys) (sym (take-append-drop n rest)) ∙ sym (append_assoc front (take n rest) (drop n rest)) ∙ ap (λ ys. (front ++ take n rest) ++ ys) (sym lies),
)

-- each of them leaves the mode as it is
pub by_each : (m : Mode) (xs : List ℕ) (n : ℕ) → n ≤ length xs → ((k : ℕ) → k < n → (st : List Bool) (r : ℕ) → step m st r (class_of (get_or xs k 0)) ≡ goes m st r) → Leads m (take n xs) m
unfolding after_all
by_each m xs zero le stays st r = refl
by_each m [] (suc n) le stays st r = absurd (omega (arith, le))
by_each m (x ∷ xs) (suc n) le stays st r =
    let less : n ≤ length xs = omega (arith, le) in
    by_one m m m x (take n xs) (stays 0 (omega arith)) (by_each m xs n less (λ k. λ lt. stays (suc k) (omega (arith, lt)))) st r

plain_stays : (is_name : Bool) (c : Class) → is_plain c ≡ true → (st : List Bool) (r : ℕ) → step (InText InChars is_name) st r c ≡ goes (InText InChars is_name) st r
plain_stays is_name c h st r = search rules

pub plain_chars : (xs : List ℕ) (n : ℕ) → n ≤ length xs → ((k : ℕ) → k < n → is_plain (class_of (get_or xs k 0)) ≡ true) → AreChars (take n xs)
plain_chars xs n le plain is_name = by_each (InText InChars is_name) xs n le (λ k. λ lt. plain_stays is_name (class_of (get_or xs k 0)) (plain k lt))

-- ---- characters beyond ASCII, and escapes

-- a byte leads from one part to another
abbrev StepsTo : TextPart → ℕ → TextPart → Type 0
StepsTo p x q = (is_name : Bool) (st : List Bool) (r : ℕ) → step (InText p is_name) st r (class_of x) ≡ goes (InText q is_name) st r

pub at_end : (p : TextPart) → LeadsIn p [] p
unfolding after_all
at_end p is_name st r = refl

at_byte : (p q e : TextPart) (x : ℕ) (xs : List ℕ) → StepsTo p x q → LeadsIn q xs e → LeadsIn p (x ∷ xs) e
at_byte p q e x xs one rest is_name = by_one (InText p is_name) (InText q is_name) (InText e is_name) x xs (one is_name) (rest is_name)

two : (p q e : TextPart) (x y : ℕ) → StepsTo p x q → StepsTo q y e → LeadsIn p (x ∷ y ∷ []) e
two p q e x y a b = at_byte p q e x (y ∷ []) a (at_byte q e e y [] b (at_end e))

lead_two : (x : ℕ) → 194 ≤ x → x ≤ 223 → StepsTo InChars x Utf1
lead_two x a b is_name st r = search rules

lead_three : (x : ℕ) → 225 ≤ x → x ≤ 239 → (x ≡ 237 → ⊥) → StepsTo InChars x Utf2
lead_three x a b other is_name st r = search rules

lead_e0 : (x : ℕ) → x ≡ 224 → StepsTo InChars x UtfE0
lead_e0 x is is_name st r = ap (λ y. step (InText InChars is_name) st r (class_of y)) is

lead_ed : (x : ℕ) → x ≡ 237 → StepsTo InChars x UtfEd
lead_ed x is is_name st r = ap (λ y. step (InText InChars is_name) st r (class_of y)) is

lead_f0 : (x : ℕ) → x ≡ 240 → StepsTo InChars x UtfF0
lead_f0 x is is_name st r = ap (λ y. step (InText InChars is_name) st r (class_of y)) is

tail_e0 : (x : ℕ) → 160 ≤ x → x ≤ 191 → StepsTo UtfE0 x Utf1
tail_e0 x a b is_name st r = search rules

tail_ed : (x : ℕ) → 128 ≤ x → x ≤ 159 → StepsTo UtfEd x Utf1
tail_ed x a b is_name st r = search rules

tail_f0 : (x : ℕ) → 144 ≤ x → x ≤ 191 → StepsTo UtfF0 x Utf2
tail_f0 x a b is_name st r = search rules

tail_one : (x : ℕ) → is_tail (class_of x) ≡ true → StepsTo Utf1 x InChars
tail_one x h is_name st r = search rules

tail_two : (x : ℕ) → is_tail (class_of x) ≡ true → StepsTo Utf2 x Utf1
tail_two x h is_name st r = search rules

unit_first : (x : ℕ) → is_hex (class_of x) ≡ true → (x ≡ 100 → ⊥) → (x ≡ 68 → ⊥) → StepsTo Unit4 x Unit3
unit_first x h a b is_name st r = search rules

unit_second : (x : ℕ) → is_hex (class_of x) ≡ true → StepsTo Unit3 x Unit2
unit_second x h is_name st r = search rules

pub has_lead : (x y : ℕ) → 194 ≤ x → x ≤ 223 → is_tail (class_of y) ≡ true → LeadsIn InChars (x ∷ y ∷ []) InChars
has_lead x y a b tail = two InChars Utf1 InChars x y (lead_two x a b) (tail_one y tail)

pub three_e0 : (x y : ℕ) → x ≡ 224 → 160 ≤ y → y ≤ 191 → LeadsIn InChars (x ∷ y ∷ []) Utf1
three_e0 x y is a b = two InChars UtfE0 Utf1 x y (lead_e0 x is) (tail_e0 y a b)

pub three_ed : (x y : ℕ) → x ≡ 237 → 128 ≤ y → y ≤ 159 → LeadsIn InChars (x ∷ y ∷ []) Utf1
three_ed x y is a b = two InChars UtfEd Utf1 x y (lead_ed x is) (tail_ed y a b)

pub three : (x y : ℕ) → 225 ≤ x → x ≤ 239 → (x ≡ 237 → ⊥) → is_tail (class_of y) ≡ true → LeadsIn InChars (x ∷ y ∷ []) Utf1
three x y a b other tail = two InChars Utf2 Utf1 x y (lead_three x a b other) (tail_two y tail)

pub four : (x y : ℕ) → x ≡ 240 → 144 ≤ y → y ≤ 191 → LeadsIn InChars (x ∷ y ∷ []) Utf2
four x y is a b = two InChars UtfF0 Utf2 x y (lead_f0 x is) (tail_f0 y a b)

unit_d : (x : ℕ) → class_of x ≡ AnyD → StepsTo Unit4 x UnitD
unit_d x is is_name st r = search rules

unit_seven : (x : ℕ) → 49 ≤ x → x ≤ 55 → StepsTo UnitD x Unit2
unit_seven x a b is_name st r = search rules

unit_low : (x : ℕ) → 48 ≤ x → x ≤ 55 → StepsTo UnitD x Unit2
unit_low x a b = elim (cases_lt x 49) [
  | inl lt ↦ let is : 48 ≡ x = omega (arith, a, lt) in subst (λ y. StepsTo UnitD y Unit2) is (λ is_name. λ st. λ r. refl)
  | inr le ↦ unit_seven x le b
]

pub d_unit : (x y : ℕ) → class_of x ≡ AnyD → 48 ≤ y → y ≤ 55 → LeadsIn Unit4 (x ∷ y ∷ []) Unit2
d_unit x y is a b = two Unit4 UnitD Unit2 x y (unit_d x is) (unit_low y a b)

pub unit : (x y : ℕ) → (x ≡ 100 → ⊥) → (x ≡ 68 → ⊥) → is_hex (class_of x) ≡ true → is_hex (class_of y) ≡ true → LeadsIn Unit4 (x ∷ y ∷ []) Unit2
unit x y a b first second = two Unit4 Unit3 Unit2 x y (unit_first x first a b) (unit_second y second)

-- ---- at the front of a list

one_at : (p q : TextPart) (xs : List ℕ) (i : ℕ) → i < length xs → LeadsIn p (get_or xs i 0 ∷ []) q → LeadsIn p (take 1 (drop i xs)) q
one_at p q xs i lt h = subst (λ ys. LeadsIn p (take 1 ys) q) (sym (drop-cons xs i 0 lt)) h

two_at : (p q : TextPart) (xs : List ℕ) (i j : ℕ) → j ≡ suc i → j < length xs → LeadsIn p (get_or xs i 0 ∷ get_or xs j 0 ∷ []) q → LeadsIn p (take 2 (drop i xs)) q
two_at p q xs i j next lt h =
    let below : i < length xs = omega (arith, next, lt) in
    let is : drop i xs ≡ get_or xs i 0 ∷ get_or xs j 0 ∷ drop (suc j) xs = drop-cons xs i 0 below ∙ ap (λ k. get_or xs i 0 ∷ drop k xs) (sym next) ∙ ap (λ ys. get_or xs i 0 ∷ ys) (drop-cons xs j 0 lt) in
    subst (λ ys. LeadsIn p (take 2 ys) q) (sym is) h

tail_at : (xs : List ℕ) (i : ℕ) → i < length xs → is_tail (class_of (get_or xs i 0)) ≡ true → LeadsIn Utf1 (take 1 (drop i xs)) InChars
tail_at xs i lt tail = one_at Utf1 InChars xs i lt (at_byte Utf1 InChars InChars (get_or xs i 0) [] (tail_one (get_or xs i 0) tail) (at_end InChars))

tails_at : (xs : List ℕ) (i j : ℕ) → j ≡ suc i → j < length xs → is_tail (class_of (get_or xs i 0)) ≡ true → is_tail (class_of (get_or xs j 0)) ≡ true → LeadsIn Utf2 (take 2 (drop i xs)) InChars
tails_at xs i j next lt a b = two_at Utf2 InChars xs i j next lt (two Utf2 Utf1 InChars (get_or xs i 0) (get_or xs j 0) (tail_two (get_or xs i 0) a) (tail_one (get_or xs j 0) b))

hex_first : (x : ℕ) → is_hex (class_of x) ≡ true → StepsTo Unit2 x Unit1
hex_first x h is_name st r = search rules

hex_second : (x : ℕ) → is_hex (class_of x) ≡ true → StepsTo Unit1 x InChars
hex_second x h is_name st r = search rules

short_escape : (x : ℕ) → is_short_escape (class_of x) ≡ true → StepsTo AfterBackslash x InChars
short_escape x h is_name st r = search rules

escapes : (x : ℕ) → x ≡ 92 → StepsTo InChars x AfterBackslash
escapes x is is_name st r = ap (λ y. step (InText InChars is_name) st r (class_of y)) is

escapes_unit : (x : ℕ) → x ≡ 117 → StepsTo AfterBackslash x Unit4
escapes_unit x is is_name st r = ap (λ y. step (InText AfterBackslash is_name) st r (class_of y)) is

high_second : (x : ℕ) → is_high (class_of x) ≡ true → StepsTo UnitD x High2
high_second x h is_name st r = search rules

high_third : (x : ℕ) → is_hex (class_of x) ≡ true → StepsTo High2 x High1
high_third x h is_name st r = search rules

high_fourth : (x : ℕ) → is_hex (class_of x) ≡ true → StepsTo High1 x HighEnd
high_fourth x h is_name st r = search rules

escapes_low : (x : ℕ) → x ≡ 92 → StepsTo HighEnd x HighU
escapes_low x is is_name st r = ap (λ y. step (InText HighEnd is_name) st r (class_of y)) is

escapes_low_unit : (x : ℕ) → x ≡ 117 → StepsTo HighU x LowD
escapes_low_unit x is is_name st r = ap (λ y. step (InText HighU is_name) st r (class_of y)) is

low_first : (x : ℕ) → class_of x ≡ AnyD → StepsTo LowD x LowC
low_first x is is_name st r = search rules

low_second : (x : ℕ) → is_low (class_of x) ≡ true → StepsTo LowC x Unit2
low_second x h is_name st r = search rules

pub high : (x y : ℕ) → class_of x ≡ AnyD → is_high (class_of y) ≡ true → LeadsIn Unit4 (x ∷ y ∷ []) High2
high x y first second = two Unit4 UnitD High2 x y (unit_d x first) (high_second y second)

pub low : (x y : ℕ) → class_of x ≡ AnyD → is_low (class_of y) ≡ true → LeadsIn LowD (x ∷ y ∷ []) Unit2
low x y first second = two LowD LowC Unit2 x y (low_first x first) (low_second y second)

pub has_escape : (xs : List ℕ) → 2 ≤ length xs → get_or xs 0 0 ≡ 92 → is_short_escape (class_of (get_or xs 1 0)) ≡ true → AreChars (take 2 xs)
has_escape xs long is short = two_at InChars InChars xs 0 1 refl long (two InChars AfterBackslash InChars (get_or xs 0 0) (get_or xs 1 0) (escapes (get_or xs 0 0) is) (short_escape (get_or xs 1 0) short))

-- the first few of a text lead so far
abbrev AreTo : List ℕ → ℕ → TextPart → Type 0
AreTo xs n p = LeadsIn InChars (take n xs) p

module _ (xs : List ℕ) (long : 12 ≤ length xs) where
  -- two more
  then_two : (p q : TextPart) (i j k : ℕ) → j ≡ suc i → k ≡ i + 2 → j < 12 → AreTo xs i p → LeadsIn p (get_or xs i 0 ∷ get_or xs j 0 ∷ []) q → AreTo xs k q
  then_two p q i j k next is lt before both = further_in InChars p q xs i 2 k before (two_at p q xs i j next (omega (arith, lt, long)) both) is

  pub has_pair : get_or xs 0 0 ≡ 92 → get_or xs 1 0 ≡ 117 → LeadsIn Unit4 (get_or xs 2 0 ∷ get_or xs 3 0 ∷ []) High2 → is_hex (class_of (get_or xs 4 0)) ≡ true → is_hex (class_of (get_or xs 5 0)) ≡ true
      → get_or xs 6 0 ≡ 92 → get_or xs 7 0 ≡ 117 → LeadsIn LowD (get_or xs 8 0 ∷ get_or xs 9 0 ∷ []) Unit2 → is_hex (class_of (get_or xs 10 0)) ≡ true → is_hex (class_of (get_or xs 11 0)) ≡ true → AreChars (take 12 xs)
  has_pair is u high a b is₂ u₂ low c d =
      then_two Unit2 InChars 10 11 12 refl refl (omega arith)
      (then_two LowD Unit2 8 9 10 refl refl (omega arith)
      (then_two HighEnd LowD 6 7 8 refl refl (omega arith)
      (then_two High2 HighEnd 4 5 6 refl refl (omega arith)
      (then_two Unit4 High2 2 3 4 refl refl (omega arith)
      (two_at InChars Unit4 xs 0 1 refl (omega (arith, long)) (two InChars AfterBackslash Unit4 (get_or xs 0 0) (get_or xs 1 0) (escapes (get_or xs 0 0) is) (escapes_unit (get_or xs 1 0) u))) high)
      (two High2 High1 HighEnd (get_or xs 4 0) (get_or xs 5 0) (high_third (get_or xs 4 0) a) (high_fourth (get_or xs 5 0) b)))
      (two HighEnd HighU LowD (get_or xs 6 0) (get_or xs 7 0) (escapes_low (get_or xs 6 0) is₂) (escapes_low_unit (get_or xs 7 0) u₂))) low)
      (two Unit2 Unit1 InChars (get_or xs 10 0) (get_or xs 11 0) (hex_first (get_or xs 10 0) c) (hex_second (get_or xs 11 0) d))

module _ (xs : List ℕ) (six : 6 ≤ length xs) where
  pub has_two : LeadsIn InChars (get_or xs 0 0 ∷ get_or xs 1 0 ∷ []) InChars → AreChars (take 2 xs)
  has_two both = two_at InChars InChars xs 0 1 refl (omega (arith, six)) both

  pub has_three : LeadsIn InChars (get_or xs 0 0 ∷ get_or xs 1 0 ∷ []) Utf1 → is_tail (class_of (get_or xs 2 0)) ≡ true → AreChars (take 3 xs)
  has_three first tail = further_in InChars Utf1 InChars xs 2 1 3 (two_at InChars Utf1 xs 0 1 refl (omega (arith, six)) first) (tail_at xs 2 (omega (arith, six)) tail) refl

  pub has_four : LeadsIn InChars (get_or xs 0 0 ∷ get_or xs 1 0 ∷ []) Utf2 → is_tail (class_of (get_or xs 2 0)) ≡ true → is_tail (class_of (get_or xs 3 0)) ≡ true → AreChars (take 4 xs)
  has_four first a b = further_in InChars Utf2 InChars xs 2 2 4 (two_at InChars Utf2 xs 0 1 refl (omega (arith, six)) first) (tails_at xs 2 3 refl (omega (arith, six)) a b) refl

  pub has_unit : get_or xs 0 0 ≡ 92 → get_or xs 1 0 ≡ 117 → LeadsIn Unit4 (get_or xs 2 0 ∷ get_or xs 3 0 ∷ []) Unit2 → is_hex (class_of (get_or xs 4 0)) ≡ true → is_hex (class_of (get_or xs 5 0)) ≡ true → AreChars (take 6 xs)
  has_unit is u first a b =
      let front : LeadsIn InChars (take 2 xs) Unit4 = two_at InChars Unit4 xs 0 1 refl (omega (arith, six)) (two InChars AfterBackslash Unit4 (get_or xs 0 0) (get_or xs 1 0) (escapes (get_or xs 0 0) is) (escapes_unit (get_or xs 1 0) u)) in
      let four : LeadsIn InChars (take 4 xs) Unit2 = further_in InChars Unit4 Unit2 xs 2 2 4 front (two_at Unit4 Unit2 xs 2 3 refl (omega (arith, six)) first) refl in
      further_in InChars Unit2 InChars xs 4 2 6 four (two_at Unit2 InChars xs 4 5 refl (omega (arith, six)) (two Unit2 Unit1 InChars (get_or xs 4 0) (get_or xs 5 0) (hex_first (get_or xs 4 0) a) (hex_second (get_or xs 5 0) b))) refl

  pub has_plain : is_plain (class_of (get_or xs 0 0)) ≡ true → AreChars (take 1 xs)
  has_plain plain = one_at InChars InChars xs 0 (omega (arith, six)) (at_byte InChars InChars InChars (get_or xs 0 0) [] (λ is_name. plain_stays is_name (class_of (get_or xs 0 0)) plain) (at_end InChars))
