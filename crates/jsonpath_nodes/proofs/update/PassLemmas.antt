-- One pass over the items of an array that takes away at locations in order.
use Rattle.std.proofs.Common.{◌≡◌, ℕ, zero, suc, ◌+◌, ◌-◌, ◌<◌, ◌≤◌, List, [], ◌∷◌, ◌++◌, Some, None, Bool, true, false, cond, nat_eq, take, drop, set, length, get_or, refl, sym, ap, subst, ◌∙◌, arith}
use Rattle.std.proofs.lemmas.Bool.{eq-eqb, ne_eqb, eqb-true, ltb-true, ltb-false}
use Rattle.std.specs.Prelude.{nat_lt}
use Rattle.std.proofs.lemmas.List.{length-drop, length-set, drop-drop, drop_more, drop_all, drop-set-lt, take_more_set, take-set-le}
use Rattle.std.specs.List.{slice_range, SwappedAt}
use Rattle.std.specs.List.Sorted.{IsStrictlySortedBy}
use Rattle.jsonpath_nodes.specs.document.Document.{Document, Items, no_items, item}
use Rattle.jsonpath_nodes.specs.document.OfData.{value_document, items_document}
use Rattle.serde_json.specs.declared.value.Value.{Value, Null}
use Rattle.jsonpath_nodes.proofs.update.SetLemmas.{same_itself}
use Rattle.jsonpath_nodes.specs.place.Location.{Step, index, Location, location_cmp}
use Rattle.jsonpath_nodes.specs.update.Topmost.{under, has_root, with_answer_at_topmost, items_with_answer}
use Rattle.jsonpath_nodes.specs.plan.Groups.{beyond, first_index, leading}
use Rattle.jsonpath_nodes.specs.update.Update.{item_if}
use Rattle.jsonpath_nodes.proofs.update.GroupLemmas.{Front, behind_group, in_group, no_index_there, no_more, none_after, under_other, sorted_drop, sorted_under}
use Rattle.jsonpath_nodes.proofs.update.MoveLemmas.{drop_swapped}
use Rattle.jsonpath_nodes.proofs.update.TakenLemmas.{no_root, under_before}
use Rattle.jsonpath_nodes.proofs.update.TopmostLemmas.{same_items, topmost_none}

-- values before other items
abbrev pub joined : List Value → Items → Items
joined [] ds = ds
joined (v ∷ vs) ds = item (value_document v) (joined vs ds)

joined-append : (vs ws : List Value) (ds : Items) → joined (vs ++ ws) ds ≡ joined vs (joined ws ds)
joined-append [] ws ds = refl
joined-append (v ∷ vs) ws ds = ap (item (value_document v)) (joined-append vs ws ds)

joined-none : (vs : List Value) → joined vs no_items ≡ items_document vs
joined-none [] = refl
joined-none (v ∷ vs) = ap (item (value_document v)) (joined-none vs)

-- items that no location leads to stay
stay : (k n : ℕ) (ls : List Location) (vs : List Value) → k ≤ length vs → ((m : ℕ) → n ≤ m → m < n + k → under (index m) ls ≡ [])
    → items_with_answer None ls n (items_document vs) ≡ joined (take k vs) (items_with_answer None ls (n + k) (items_document (drop k vs)))
stay zero n ls vs le none = ap (λ (m : ℕ). items_with_answer None ls m (items_document vs)) (let same : n ≡ n + 0 = omega arith in same)
stay (suc k) n ls [] le none = absurd (omega arith)
stay (suc k) n ls (v ∷ vs) le none = grind (arith, topmost_none, stay k (suc n) ls vs (omega arith) (λ m lo hi. none m (omega arith) (omega arith)))

-- locations that lead to the same items
same_within : (n : ℕ) (ls ms : List Location) (vs : List Value) → ((m : ℕ) → n ≤ m → m < n + length vs → under (index m) ls ≡ under (index m) ms) → items_with_answer None ls n (items_document vs) ≡ items_with_answer None ms n (items_document vs)
same_within n ls ms [] h = refl
same_within n ls ms (v ∷ vs) h = grind (arith, same_within (suc n) ls ms vs (λ m lo hi. h m (omega arith) (omega arith)))

-- the first items of xs, kept of them, are what is left of the first items of vs, next of them; the locations rest lead to items behind
pub record Passes (all : List Location) (vs xs : List Value) (rest : List Location) (kept next : ℕ) : Type 0 where
  pub sorted : IsStrictlySortedBy location_cmp rest
  pub behind : kept ≤ next
  pub within : next ≤ length xs
  pub none : (m : ℕ) → m < next → under (index m) rest ≡ []
  pub same : joined (take kept xs) (items_with_answer None rest next (items_document (drop next xs))) ≡ items_with_answer None all 0 (items_document vs)

-- a location that leads to no item
passes_skip : (all : List Location) (vs xs : List Value) (l : Location) (rest : List Location) (kept next : ℕ)
    → ((m : ℕ) → m < length xs → under (index m) (l ∷ rest) ≡ under (index m) rest) → Passes all vs xs (l ∷ rest) kept next → Passes all vs xs rest kept next
unfolding IsStrictlySortedBy
passes_skip all vs xs l rest kept next other p =
    let fits : next ≤ length xs = p.within in
    record {
      sorted = p.sorted.1;
      behind = p.behind;
      within = p.within;
      none = λ m h. sym (other m (omega arith)) ∙ p.none m h;
      same =
          ap (joined (take kept xs)) (sym (same_within next (l ∷ rest) rest (drop next xs) (λ m lo hi. other m (omega (arith, length-drop next xs)))))
          ∙ p.same;
    }

-- as the code finds it
pub passes_over : (depth : ℕ) {n : ℕ} {ls others : List Location} {x : Location} {all : List Location} {vs xs : List Value} {kept next : ℕ} → ls ≡ x ∷ others → None ≡ first_index n (drop depth x) → n ≡ length xs
    → Passes all vs xs (beyond depth ls) kept next → Passes all vs xs (beyond depth others) kept next
passes_over depth {n} {others = others} {x = x} {all = all} {vs = vs} {xs = xs} {kept = kept} {next = next} cases none len p =
    passes_skip all vs xs (drop depth x) (beyond depth others) kept next (λ m lt. no_index_there n (drop depth x) (beyond depth others) none m (omega arith))
    (subst (λ (r : List Location). Passes all vs xs (beyond depth r) kept next) cases p)

-- items that no location leads to are moved down
passes_move : (all : List Location) (vs xs ys : List Value) (rest : List Location) (kept next end to : ℕ) → next ≤ to → to ≤ length xs → length ys ≡ length xs
    → end ≡ kept + (to - next) → take end ys ≡ take kept xs ++ slice_range xs next to → drop to ys ≡ drop to xs
    → ((m : ℕ) → m < to → under (index m) rest ≡ []) → Passes all vs xs rest kept next → Passes all vs ys rest end to
passes_move all vs xs ys rest kept next end to ahead fits len count front back none p =
    let behind : kept ≤ next = p.behind in
    let far : next + (to - next) ≡ to = omega arith in
    let ds = items_with_answer None rest to (items_document (drop to xs)) in
    let left : drop (to - next) (drop next xs) ≡ drop to xs = drop-drop (to - next) next xs ∙ ap (λ (n : ℕ). drop n xs) far in
    record {
      sorted = p.sorted;
      behind = omega arith;
      within = omega arith;
      none = none;
      same =
          rw (front, back)
          (joined-append (take kept xs) (slice_range xs next to) ds
          ∙ ap (joined (take kept xs))
          (sym (stay (to - next) next rest (drop next xs) (omega (arith, length-drop next xs)) (λ m lo hi. none m (omega arith))
          ∙ ap (λ (n : ℕ). joined (slice_range xs next to) (items_with_answer None rest n (items_document (drop (to - next) (drop next xs))))) far
          ∙ ap (λ (ws : List Value). joined (slice_range xs next to) (items_with_answer None rest to (items_document ws))) left))
          ∙ p.same);
    }

module _ (i : ℕ) (l : Location) (rest : List Location) where
  abbrev pub left_behind : List Location
  left_behind = drop (leading (index i) rest) rest

  -- the locations behind those that go through an item do not go through it
  none_through : IsStrictlySortedBy location_cmp ((index i ∷ l) ∷ rest) → under (index i) left_behind ≡ []
  unfolding IsStrictlySortedBy
  none_through up = none_after (index i) (index i) l rest (same_itself (index i)) up.0 up.1

  others_same : (m : ℕ) → (i ≡ m → ⊥) → under (index m) left_behind ≡ under (index m) ((index i ∷ l) ∷ rest)
  others_same m apart =
      let other : nat_eq i m ≡ false = ne_eqb i m apart in
      under_other (index i) (index m) rest other ∙ rw other refl

  none_behind : IsStrictlySortedBy location_cmp ((index i ∷ l) ∷ rest) → ((m : ℕ) → m < i → under (index m) ((index i ∷ l) ∷ rest) ≡ []) → (m : ℕ) → m < i + 1 → under (index m) left_behind ≡ []
  none_behind up none m h = grind (arith, eqb-true, none_through, others_same)

  -- the location where the item is, seen from the item
  through_item : under (index i) ((index i ∷ l) ∷ rest) ≡ l ∷ under (index i) rest
  through_item = rw (eq-eqb i i refl) refl

  later_same : (xs : List Value) → items_with_answer None ((index i ∷ l) ∷ rest) (suc i) (items_document xs) ≡ items_with_answer None left_behind (i + 1) (items_document xs)
  later_same xs =
      let one : i + 1 ≡ suc i = omega arith in
      rw one (same_items None ((index i ∷ l) ∷ rest) left_behind (suc i) (items_document xs) (λ m le. sym (others_same m (λ is. omega arith))))

  same_rest : IsStrictlySortedBy location_cmp ((index i ∷ l) ∷ rest) → IsStrictlySortedBy location_cmp left_behind
  unfolding IsStrictlySortedBy
  same_rest up = sorted_drop (leading (index i) rest) rest up.1

-- an item that is taken away
passes_take : (all : List Location) (vs xs : List Value) (i : ℕ) (rest : List Location) (kept : ℕ) → i < length xs
    → Passes all vs xs ((index i ∷ []) ∷ rest) kept i → Passes all vs xs (drop (leading (index i) rest) rest) kept (i + 1)
passes_take all vs xs i rest kept fits p =
    let v = get_or xs i Null in
    let behind : kept ≤ i = p.behind in
    let here : has_root (under (index i) ((index i ∷ []) ∷ rest)) ≡ true = rw (through_item i [] rest) refl in
    let ds = items_with_answer None ((index i ∷ []) ∷ rest) (suc i) (items_document (drop (i + 1) xs)) in
    record {
      sorted = same_rest i [] rest p.sorted;
      behind = omega arith;
      within = omega arith;
      none = none_behind i [] rest p.sorted p.none;
      same =
          ap (joined (take kept xs))
          (sym (later_same i [] rest (drop (i + 1) xs))
          ∙ ap (λ (b : Bool). item_if (cond b None (Some (with_answer_at_topmost None (under (index i) ((index i ∷ []) ∷ rest)) (value_document v)))) ds) (sym here)
          ∙ ap (λ (ws : List Value). items_with_answer None ((index i ∷ []) ∷ rest) i (items_document ws)) (sym (drop_more xs i Null fits)))
          ∙ p.same;
    }

-- what goes on from a first step stays below the root
pub front_no_root : (s : Step) (l : Location) (us ms : List Location) → us ≡ (s ∷ l) ∷ ms → IsStrictlySortedBy location_cmp us → has_root us ≡ false
unfolding IsStrictlySortedBy
front_no_root s l us ms e up =
    let sorted : IsStrictlySortedBy location_cmp ((s ∷ l) ∷ ms) = subst (IsStrictlySortedBy location_cmp) e up in
    ap has_root e ∙ no_root (s ∷ l) ms sorted.0

-- an item that stays, and of which the locations take something away
passes_keep : (all : List Location) (vs xs ys : List Value) (i : ℕ) (s : Step) (l : Location) (rest : List Location) (kept : ℕ) (w : Value) → i < length xs → SwappedAt xs ys kept i
    → value_document w ≡ with_answer_at_topmost None (under (index i) ((index i ∷ s ∷ l) ∷ rest)) (value_document (get_or xs i Null))
    → Passes all vs xs ((index i ∷ s ∷ l) ∷ rest) kept i → Passes all vs (set ys kept w) (drop (leading (index i) rest) rest) (kept + 1) (i + 1)
passes_keep all vs xs ys i s l rest kept w fits moved is p =
    let v = get_or xs i Null in
    let behind : kept ≤ i = p.behind in
    let us = under (index i) ((index i ∷ s ∷ l) ∷ rest) in
    let long : length ys ≡ length xs = rw (moved.3 Null) (length-set (set xs kept v) i (get_or xs kept Null) ∙ length-set xs kept v) in
    let up : IsStrictlySortedBy location_cmp us = sorted_under (index i) ((index i ∷ s ∷ l) ∷ rest) p.sorted in
    let root : has_root us ≡ false = front_no_root s l us (under (index i) rest) (through_item i (s ∷ l) rest) up in
    let ds = items_with_answer None ((index i ∷ s ∷ l) ∷ rest) (suc i) (items_document (drop (i + 1) xs)) in
    let back : drop (i + 1) (set ys kept w) ≡ drop (i + 1) xs = drop-set-lt (i + 1) ys kept w (omega arith) ∙ drop_swapped Null xs ys kept i behind moved in
    let front : take (kept + 1) (set ys kept w) ≡ take kept xs ++ w ∷ [] = take_more_set ys kept w (omega arith) ∙ ap (λ (zs : List Value). zs ++ w ∷ []) (take_kept xs ys kept i behind fits moved) in
    record {
      sorted = same_rest i (s ∷ l) rest p.sorted;
      behind = omega arith;
      within = omega (arith, length-set ys kept w);
      none = none_behind i (s ∷ l) rest p.sorted p.none;
      same =
          rw (front, back)
          (joined-append (take kept xs) (w ∷ []) (items_with_answer None (drop (leading (index i) rest) rest) (i + 1) (items_document (drop (i + 1) xs)))
          ∙ ap (joined (take kept xs))
          (ap (item (value_document w)) (sym (later_same i (s ∷ l) rest (drop (i + 1) xs)))
          ∙ ap (λ (d : Document). item d ds) is
          ∙ ap (λ (b : Bool). item_if (cond b None (Some (with_answer_at_topmost None us (value_document v)))) ds) (sym root)
          ∙ ap (λ (zs : List Value). items_with_answer None ((index i ∷ s ∷ l) ∷ rest) i (items_document zs)) (sym (drop_more xs i Null fits))))
          ∙ p.same;
    }
  where
    take_kept : (xs ys : List Value) (a i : ℕ) → a ≤ i → i < length xs → SwappedAt xs ys a i → take a ys ≡ take a xs
    take_kept xs ys a i le lt h = rw (h.3 Null) (take-set-le a (set xs a (get_or xs i Null)) i (get_or xs a Null) le ∙ take-set-le a xs a (get_or xs i Null) (omega arith))

-- the first location leads to an item ahead
enters : (all : List Location) (vs xs : List Value) (i : ℕ) (l : Location) (rest : List Location) (kept next : ℕ) → Passes all vs xs ((index i ∷ l) ∷ rest) kept next → next ≤ i
enters all vs xs i l rest kept next p = by (nat_lt i next) refl
  where
    by : (b : Bool) → nat_lt i next ≡ b → next ≤ i
    by true e = let none : l ∷ under (index i) rest ≡ [] = sym (through_item i l rest) ∙ p.none i (ltb-true i next e) in absurd (cc)
    by false e = ltb-false i next e

-- what lies before it is moved down
passes_to : (all : List Location) (vs xs ys : List Value) (i : ℕ) (l : Location) (rest : List Location) (kept next end : ℕ) → i < length xs → length ys ≡ length xs → end ≡ kept + (i - next)
    → take end ys ≡ take kept xs ++ slice_range xs next i → drop i ys ≡ drop i xs → Passes all vs xs ((index i ∷ l) ∷ rest) kept next → Passes all vs ys ((index i ∷ l) ∷ rest) end i
unfolding IsStrictlySortedBy
passes_to all vs xs ys i l rest kept next end fits len count front back p =
    passes_move all vs xs ys ((index i ∷ l) ∷ rest) kept next end i (enters all vs xs i l rest kept next p) (omega arith) len count front back
    (λ m h. let other : nat_eq i m ≡ false = ne_eqb i m (λ is. omega arith) in rw other (under_before i m l rest h p.sorted.0)) p

-- those at the front go through item i, to which all before it is moved down
module _ {depth g : ℕ} {rest others later : List Location} {i : ℕ} {l : Location} (f : Front depth g rest others (index i) l) (behind : later ≡ drop g rest)
    {all : List Location} {vs xs : List Value} {kept next : ℕ} (p : Passes all vs xs (beyond depth rest) kept next) where
  at_front : Passes all vs xs ((index i ∷ l) ∷ beyond depth others) kept next
  at_front = subst (λ (r : List Location). Passes all vs xs r kept next) f.head p

  pub enters_at : next ≤ i
  enters_at = enters all vs xs i l (beyond depth others) kept next at_front

  module _ (ys : List Value) {end : ℕ} (fits : i < length xs) (len : length ys ≡ length xs) (count : end ≡ kept + (i - next)) (front : take end ys ≡ take kept xs ++ slice_range xs next i) (back : drop i ys ≡ drop i xs) where
    moved_to : Passes all vs ys ((index i ∷ l) ∷ beyond depth others) end i
    moved_to = passes_to all vs xs ys i l (beyond depth others) kept next end fits len count front back at_front

    -- it is taken away
    pub passes_taken : length l ≡ 0 → Passes all vs ys (beyond depth later) end (i + 1)
    passes_taken none = subst (λ (r : List Location). Passes all vs ys r end (i + 1)) (sym (behind_group f later behind)) (by l none moved_to)
      where
        by : (m : Location) → length m ≡ 0 → Passes all vs ys ((index i ∷ m) ∷ beyond depth others) end i → Passes all vs ys (drop (leading (index i) (beyond depth others)) (beyond depth others)) end (i + 1)
        by [] e q = passes_take all vs ys i (beyond depth others) end (omega arith) q
        by (s ∷ m) e q = absurd (omega arith)

    -- it stays, and the locations take something away of it
    pub passes_kept : {here : List Location} {v : Value} (zs : List Value) (w : Value) → here ≡ take g rest → 0 < length l → SwappedAt ys zs end i
        → value_document w ≡ with_answer_at_topmost None (beyond (depth + 1) here) (value_document v) → v ≡ get_or ys i Null → Passes all vs (set zs end w) (beyond depth later) (end + 1) (i + 1)
    passes_kept {here} {v} zs w ahead more moved is was =
        subst (λ (r : List Location). Passes all vs (set zs end w) r (end + 1) (i + 1)) (sym (behind_group f later behind)) (by l more through moved_to)
      where
        through : value_document w ≡ with_answer_at_topmost None (under (index i) ((index i ∷ l) ∷ beyond depth others)) (value_document (get_or ys i Null))
        through = is ∙ ap (λ (us : List Location). with_answer_at_topmost None us (value_document v)) (in_group f here ahead p.sorted) ∙ ap (λ (u : Value). with_answer_at_topmost None (under (index i) ((index i ∷ l) ∷ beyond depth others)) (value_document u)) was

        by : (m : Location) → 0 < length m → value_document w ≡ with_answer_at_topmost None (under (index i) ((index i ∷ m) ∷ beyond depth others)) (value_document (get_or ys i Null))
            → Passes all vs ys ((index i ∷ m) ∷ beyond depth others) end i → Passes all vs (set zs end w) (drop (leading (index i) (beyond depth others)) (beyond depth others)) (end + 1) (i + 1)
        by [] h e q = absurd (omega arith)
        by (s ∷ m) h e q = passes_keep all vs ys zs i s m (beyond depth others) end w (omega arith) moved e q

-- the list, when no location is left and every item has been looked at
passes_done : (all : List Location) (vs xs : List Value) (kept next : ℕ) → length xs ≤ next → Passes all vs xs [] kept next → items_document (take kept xs) ≡ items_with_answer None all 0 (items_document vs)
passes_done all vs xs kept next over p = grind (arith, drop_all, joined-none)

-- as the code finds that no location is left
pub passes_end : (depth : ℕ) (rest : List Location) (ys : List Value) {all : List Location} {vs xs : List Value} {kept next end to : ℕ} → length rest ≡ 0 → to ≡ length xs → length ys ≡ length xs
    → end ≡ kept + (to - next) → take end ys ≡ take kept xs ++ slice_range xs next to → drop to ys ≡ drop to xs → Passes all vs xs (beyond depth rest) kept next → items_document (take end ys) ≡ items_with_answer None all 0 (items_document vs)
passes_end depth rest ys {all} {vs} {xs} {kept} {next} {end} {to} none whole len count front back q = grind (arith, no_more, passes_done, passes_move)
