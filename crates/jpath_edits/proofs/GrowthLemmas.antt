-- What was made in a tree and is taken back, and the seams of its text.
use Rattle.std.proofs.Common.{◌≡◌, ℕ, zero, suc, ◌+◌, ◌-◌, ◌<◌, ◌≤◌, ◌||◌, Bool, true, false, not, Some, List, [], ◌∷◌, ◌++◌, length, map, flat_map, take, drop, slice_index_or, slice_set, refl, sym, ap, ap₂, subst, ◌∙◌, arith, append_assoc, append-nil, add-one, if◌then◌else◌}
use Rattle.std.specs.Prelude.{slice_range}
use Rattle.std.specs.Borrow.{Bor}
use Rattle.std.specs.List.{list_any}
use Rattle.std.specs.Str.{bytes_eq}
use Rattle.std.proofs.Math.Seq.{take-suc}
use Rattle.std.proofs.lemmas.Grind.{flat_map-append}
use Rattle.std.proofs.lemmas.List.{map-append}
use Rattle.std.proofs.lemmas.Slice.Eq.{bytes_eq-Decides}
use Rattle.json.specs.Json.{Json, item, Members, member, no_members}
use Rattle.json.specs.Value.{value_view, items_view, members_view}
use Rattle.json.specs.declared.value.Value.{Value}
use Rattle.jsonpath_nodes.specs.place.Location.{Location}
use Rattle.jpath_edits.specs.Grown.{Filled, IsFilledAt, AreGoneFor, IsGrownAt, containers_of, grown_all, has_name, with_last_item, with_last_member, with_member, with_name, each_renamed, in_item, in_member, IsLastNamed}
use Rattle.json_trees.specs.Exact.{exact_of}
use Rattle.jpath_edits.specs.declared.growth.Growth.{Growth}
use Rattle.jpath_edits.proofs.SpliceLemmas.{take_on}
use Rattle.jpath_edits.specs.declared.growth.seam.Seam.{Seam}

abbrev pub Entry : Type 0 → Type 0
Entry A = Bor (List ℕ) × Value A

pub no_such_name : (f : Json → Json) (k : List ℕ) (ms : Members) → has_name k ms ≡ false → ms ≡ in_member f k ms
no_such_name f k no_members none = refl
no_such_name f k (member m j ms) none = by (bytes_eq k m) (has_name k ms) none (no_such_name f k ms)
  where
    by : (b c : Bool) → (b || c) ≡ false → (c ≡ false → ms ≡ in_member f k ms)
        → member m j ms ≡ (if c then member m j (in_member f k ms) else (if b then member m (f j) ms else member m j ms))
    by true c h more = absurd (cc)
    by false true h more = absurd (cc)
    by false false h more = refl

pub last_has_name : (k : List ℕ) (i : ℕ) (ms : Members) → IsLastNamed k i ms → has_name k ms ≡ true
last_has_name k i no_members h = absurd h
last_has_name k zero (member m j ms) h = by (bytes_eq k m) (has_name k ms) h.0
  where
    by : (b c : Bool) → b ≡ true → (b || c) ≡ true
    by true c e = refl
    by false c e = absurd (cc)
last_has_name k (suc i) (member m j ms) h = by (bytes_eq k m) (has_name k ms) (last_has_name k i ms h)
  where
    by : (b c : Bool) → c ≡ true → (b || c) ≡ true
    by true c e = refl
    by false c e = e

or_false : (b c : Bool) → (b || c) ≡ false → (b ≡ false) × (c ≡ false)
or_false true c h = absurd (cc)
or_false false c h = (refl, h)

module _ {A : Type 0} where
  -- ---- in a list

  pub item_set : (f : Json → Json) (vs : List (Value A)) (i : ℕ) (v w : Value A) → i < length vs → v ≡ slice_index_or vs i v → value_view v ≡ f (value_view w)
      → items_view vs ≡ in_item f i (items_view (slice_set vs i w))
  item_set f [] i v w lt is same = absurd (omega (arith, lt))
  item_set f (x ∷ vs) zero v w lt is same = ap (λ j. item j (items_view vs)) (ap value_view (sym is) ∙ same)
  item_set f (x ∷ vs) (suc i) v w lt is same = ap (item (value_view x)) (item_set f vs i v w (omega (arith, lt)) is same)

  pub item_past : (f : Json → Json) (vs : List (Value A)) (i : ℕ) → length vs ≤ i → items_view vs ≡ in_item f i (items_view vs)
  item_past f [] i le = refl
  item_past f (x ∷ vs) zero le = absurd (omega (arith, le))
  item_past f (x ∷ vs) (suc i) le = ap (item (value_view x)) (item_past f vs i (omega (arith, le)))

  pub item_last : (vs : List (Value A)) (v : Value A) → items_view (vs ++ v ∷ []) ≡ with_last_item (value_view v) (items_view vs)
  item_last [] v = refl
  item_last (x ∷ vs) v = ap (item (value_view x)) (item_last vs v)

  -- ---- in an object

  pub name_any : (k : List ℕ) (ms : List (Entry A)) → list_any (λ m. bytes_eq k m.0.now) ms ≡ has_name k (members_view ms)
  name_any k [] = refl
  name_any k (m ∷ ms) = ap (λ b. bytes_eq k m.0.now || b) (name_any k ms)

  pub member_last : (ms : List (Entry A)) (m : Entry A) → members_view (ms ++ m ∷ []) ≡ with_last_member m.0.now (value_view m.1) (members_view ms)
  member_last [] m = refl
  member_last (x ∷ ms) m = ap (member x.0.now (value_view x.1)) (member_last ms m)

  names_stay : (k : List ℕ) (ms : List (Entry A)) (i : ℕ) (m : Entry A) (w : Value A) → m ≡ slice_index_or ms i m → has_name k (members_view (slice_set ms i (m.0, w))) ≡ has_name k (members_view ms)
  names_stay k [] i m w is = refl
  names_stay k (x ∷ ms) zero m w is = ap (λ (y : Entry A). bytes_eq k y.0.now || has_name k (members_view ms)) is
  names_stay k (x ∷ ms) (suc i) m w is = ap (λ b. bytes_eq k x.0.now || b) (names_stay k ms i m w is)

  pub member_set : (f : Json → Json) (k : List ℕ) (ms : List (Entry A)) (i : ℕ) (m : Entry A) (w : Value A) → IsLastNamed k i (members_view ms) → m ≡ slice_index_or ms i m → value_view m.1 ≡ f (value_view w)
      → members_view ms ≡ in_member f k (members_view (slice_set ms i (m.0, w)))
  member_set f k [] i m w last is same = absurd last
  member_set f k (x ∷ ms) zero m w last is same =
      let there : bytes_eq k m.0.now ≡ true = ap (λ (y : Entry A). bytes_eq k y.0.now) is ∙ last.0 in
      rw last.1 (rw there (ap (λ (y : Entry A). member y.0.now (value_view y.1) (members_view ms)) (sym is) ∙ ap (λ j. member m.0.now j (members_view ms)) same))
  member_set f k (x ∷ ms) (suc i) m w last is same =
      let more : has_name k (members_view (slice_set ms i (m.0, w))) ≡ true = names_stay k ms i m w is ∙ last_has_name k i (members_view ms) last in
      rw more (ap (member x.0.now (value_view x.1)) (member_set f k ms i m w last is same))

  pub last_at : (k : List ℕ) (ms : List (Entry A)) (i : ℕ) (m : Entry A) → i < length ms → m ≡ slice_index_or ms i m → bytes_eq k m.0.now ≡ true → has_name k (members_view (drop (suc i) ms)) ≡ false → IsLastNamed k i (members_view ms)
  last_at k [] i m lt is named none = absurd (omega (arith, lt))
  last_at k (x ∷ ms) zero m lt is named none = (ap (λ (y : Entry A). bytes_eq k y.0.now) (sym is) ∙ named, none)
  last_at k (x ∷ ms) (suc i) m lt is named none = last_at k ms i m (omega (arith, lt)) is named none

pub renamed_last : (k n m : List ℕ) (j : Json) (ms : Members) → each_renamed k n (with_last_member m j ms) ≡ with_last_member (if bytes_eq k m then n else m) j (each_renamed k n ms)
renamed_last k n m j no_members = refl
renamed_last k n m j (member l i ms) = ap (member (if bytes_eq k l then n else l) i) (renamed_last k n m j ms)

pub renamed_back : (old new : List ℕ) (ms : Members) → has_name old ms ≡ false → ms ≡ each_renamed old new (each_renamed new old ms)
renamed_back old new no_members none = refl
renamed_back old new (member m j ms) none = by (bytes_eq new m) refl (renamed_back old new ms (or_false (bytes_eq old m) (has_name old ms) none).1)
  where
    by : (b : Bool) → bytes_eq new m ≡ b → ms ≡ each_renamed old new (each_renamed new old ms) → member m j ms ≡ each_renamed old new (each_renamed new old (member m j ms))
    by true is more = rw is (rw ((bytes_eq-Decides old old).1 refl) (ap₂ (λ (k : List ℕ) (xs : Members). member k j xs) (sym ((bytes_eq-Decides new m).0 is)) more))
    by false is more = rw is (rw (or_false (bytes_eq old m) (has_name old ms) none).0 (ap (member m j) more))

pub renamed_when : (k n : List ℕ) (ms : Members) → has_name n ms ≡ false → each_renamed k n ms ≡ with_name k n ms
unfolding with_name
renamed_when k n ms none = rw none refl

pub not_true : (b : Bool) → not b ≡ true → b ≡ false
not_true true h = absurd (cc)
not_true false h = refl

pub made_member : (k : List ℕ) (v : Json) (ms : Members) → has_name k ms ≡ false → with_last_member k v ms ≡ with_member k v ms
unfolding with_member
made_member k v ms none = rw none refl

pub containers_mapped : (f : Location → Location) (ls : List (Bor Location)) → map (λ l. f l.now) ls ≡ map f (map (λ l. l.now) ls)
containers_mapped f [] = refl
containers_mapped f (l ∷ ls) = ap (λ ms. f l.now ∷ ms) (containers_mapped f ls)

-- ---- the text

-- one more stretch that gives way
pub fill_at : (text : List ℕ) (at start end : ℕ) (put : List ℕ) → Filled
fill_at text at start end put = record { kept = take (start - at) (drop at text); gone = take (end - start) (drop start text); put = put }

pub before_more : (text : List ℕ) (fills : List Filled) (at start end : ℕ) (put : List ℕ) → at ≤ start → start ≤ end → take at text ≡ flat_map (λ f. f.kept ++ f.gone) fills
    → take end text ≡ flat_map (λ f. f.kept ++ f.gone) (fills ++ fill_at text at start end put ∷ [])
unfolding fill_at
before_more text fills at start end put h i so_far =
    take_on text start end i ∙ ap (λ ys. ys ++ take (end - start) (drop start text)) (take_on text at start h) ∙ append_assoc (take at text) (take (start - at) (drop at text)) (take (end - start) (drop start text))
    ∙ ap₂ (λ (xs ys : List ℕ). xs ++ ys) so_far (sym (append-nil (take (start - at) (drop at text) ++ take (end - start) (drop start text))))
    ∙ sym (flat_map-append (λ (f : Filled). f.kept ++ f.gone) fills (fill_at text at start end put ∷ []))

pub after_more : (text : List ℕ) (fills : List Filled) (at start end : ℕ) (put xs ys zs : List ℕ) → xs ≡ flat_map (λ f. f.kept ++ f.put) fills → ys ≡ xs ++ take (start - at) (drop at text) → zs ≡ ys ++ put
    → zs ≡ flat_map (λ f. f.kept ++ f.put) (fills ++ fill_at text at start end put ∷ [])
unfolding fill_at
after_more text fills at start end put xs ys zs so_far kept behind =
    behind ∙ ap (λ us. us ++ put) kept ∙ append_assoc xs (take (start - at) (drop at text)) put
    ∙ ap₂ (λ (us vs : List ℕ). us ++ vs) so_far (sym (append-nil (take (start - at) (drop at text) ++ put)))
    ∙ sym (flat_map-append (λ (f : Filled). f.kept ++ f.put) fills (fill_at text at start end put ∷ []))

pub gone_filled : (text : List ℕ) (fills : List Filled) (seams : List Seam) (i at : ℕ) (seam : Seam) → i < length seams → seam ≡ slice_index_or seams i seam → map (λ f. f.gone) fills ≡ map (λ s. slice_range text s.start s.end) (take i seams)
    → map (λ f. f.gone) (fills ++ fill_at text at seam.start seam.end seam.put.items ∷ []) ≡ map (λ s. slice_range text s.start s.end) (take (i + 1) seams)
unfolding fill_at
gone_filled text fills seams i at seam lt is so_far =
    map-append (λ (f : Filled). f.gone) fills (fill_at text at seam.start seam.end seam.put.items ∷ [])
    ∙ ap (λ (us : List (List ℕ)). us ++ slice_range text seam.start seam.end ∷ []) so_far
    ∙ sym (map-append (λ (s : Seam). slice_range text s.start s.end) (take i seams) (seam ∷ []))
    ∙ ap (map (λ s. slice_range text s.start s.end)) (ap (λ (s : Seam). take i seams ++ s ∷ []) is ∙ sym (ap (λ n. take n seams) (add-one i) ∙ take-suc seams i seam lt))

pub filled_at : (seams : List Seam) (text written : List ℕ) (fills : List Filled) (rest : List ℕ) → text ≡ flat_map (λ f. f.kept ++ f.gone) fills ++ rest → written ≡ flat_map (λ f. f.kept ++ f.put) fills ++ rest
    → map (λ f. f.gone) fills ≡ map (λ s. slice_range text s.start s.end) seams → IsFilledAt seams text written
filled_at seams text written fills rest before after gone = record {
  filled = record { fills = fills; rest = rest; before = before; after = after };
  gone = gone;
}

-- a text in which something was made, from what was found of it
pub grown_at : (g : Growth) (tree : Json) (ls : List Location) (seams others : List Seam) (bytes text written given : List ℕ) (found : List Location) → bytes ≡ text → others ≡ seams → given ≡ written
    → IsFilledAt seams bytes written → AreGoneFor g (map (λ s. slice_range text s.start s.end) others) → exact_of given ≡ Some (grown_all g found tree) → found ≡ containers_of g ls → IsGrownAt g tree ls text written
grown_at g tree ls seams others bytes text written given found text_is seams_are written_is at gone reads there =
    let was = at.filled in
    let ranges : map (λ f. f.gone) was.fills ≡ map (λ s. slice_range text s.start s.end) others = at.gone ∙ ap₂ (λ (us : List ℕ) (ss : List Seam). map (λ s. slice_range us s.start s.end) ss) text_is (sym seams_are) in
    record {
      filled = record { fills = was.fills; rest = was.rest; before = sym text_is ∙ was.before; after = was.after };
      gone = subst (AreGoneFor g) (sym ranges) gone;
      reads = ap exact_of (sym written_is) ∙ reads ∙ ap (λ ms. Some (grown_all g ms tree)) there;
    }
