-- Single updates that put null, one after another, null the topmost locations.
use Rattle.std.proofs.Common.{◌≡◌, ℕ, zero, suc, ◌+◌, ◌≤◌, List, [], ◌∷◌, Option, Some, Bool, true, false, Ordering, nat_cmp, nat_eq, cond, is_eq, refl, sym, ap, ◌∙◌, arith}
use Rattle.std.proofs.lemmas.Bool.{ne_eqb, eq-eqb}
use Rattle.std.specs.Ordering.{match_ordering}
use Rattle.std.specs.Cmp.Lexicographic.{slice_cmp}
use Rattle.jsonpath_nodes.specs.document.Document.{Document, null, array, object, Items, no_items, item, Members, no_members, member}
use Rattle.jsonpath_nodes.specs.place.Location.{Step, name, index, Location}
use Rattle.jsonpath_nodes.specs.update.Update.{item_if, member_if, edit_item, edit_member, edit, with_answer_at}
use Rattle.jsonpath_nodes.specs.update.Topmost.{under, elsewhere, has_root, with_answer_at_topmost, items_with_answer, members_with_answer, nulled}
use Rattle.jsonpath_nodes.specs.update.Run.{update_each}

-- what becomes of a child that the locations ls lead to
abbrev pub piece : Option Document → List Location → Document → Option Document
piece a ls d = cond (has_root ls) a (Some (with_answer_at_topmost a ls d))

-- ---- a location that leads elsewhere does not matter

pub same_items : (a : Option Document) (ls ms : List Location) (n : ℕ) (ds : Items) → ((m : ℕ) → n ≤ m → under (index m) ls ≡ under (index m) ms) → items_with_answer a ls n ds ≡ items_with_answer a ms n ds
same_items a ls ms n no_items h = refl
same_items a ls ms n (item d ds) h = grind (arith, same_items a ls ms (suc n) ds (λ m le. h m (omega arith)))

pub root_members : (a : Option Document) (ls : List Location) (ms : Members) → members_with_answer a ([] ∷ ls) ms ≡ members_with_answer a ls ms
root_members a ls no_members = refl
root_members a ls (member k d ms) = ap (λ r. member_if k (piece a (under (name k) ls) d) r) (root_members a (elsewhere (name k) ls) ms)

pub index_members : (a : Option Document) (i : ℕ) (l : Location) (ls : List Location) (ms : Members) → members_with_answer a ((index i ∷ l) ∷ ls) ms ≡ members_with_answer a ls ms
index_members a i l ls no_members = refl
index_members a i l ls (member k d ms) = ap (λ r. member_if k (piece a (under (name k) ls) d) r) (index_members a i l (elsewhere (name k) ls) ms)

pub topmost_root : (a : Option Document) (ls : List Location) (d : Document) → with_answer_at_topmost a ([] ∷ ls) d ≡ with_answer_at_topmost a ls d
topmost_root a ls (array ds) = ap array (same_items a ([] ∷ ls) ls 0 ds (λ m le. refl))
topmost_root a ls (object ms) = ap object (root_members a ls ms)
topmost_root a ls _ = refl

mutual
  pub topmost_none : (a : Option Document) (d : Document) → with_answer_at_topmost a [] d ≡ d
  topmost_none a (array ds) = ap array (items_none a 0 ds)
  topmost_none a (object ms) = ap object (members_none a ms)
  topmost_none a _ = refl

  items_none : (a : Option Document) (n : ℕ) (ds : Items) → items_with_answer a [] n ds ≡ ds
  items_none a n no_items = refl
  items_none a n (item d ds) = ap (λ e. item e (items_with_answer a [] (suc n) ds)) (topmost_none a d) ∙ ap (item d) (items_none a (suc n) ds)

  pub members_none : (a : Option Document) (ms : Members) → members_with_answer a [] ms ≡ ms
  members_none a no_members = refl
  members_none a (member k d ms) = ap (λ e. member k e (members_with_answer a [] ms)) (topmost_none a d) ∙ ap (member k d) (members_none a ms)

-- ---- null

abbrev gone : Option Document
gone = Some null

null_piece : (b : Bool) (ls : List Location) → gone ≡ cond b gone (Some (with_answer_at_topmost gone ls null))
null_piece b ls = grind arith

-- what stands at the end of the steps, in the document that a further location's null stands in
abbrev Later : List Location → Document → Type 0
Later u d = (t : Step) (l : Location) → with_answer_at_topmost gone ((t ∷ l) ∷ u) d ≡ with_answer_at_topmost gone u (edit (with_answer_at gone l) t d)

item_here : (l : Location) (u ls : List Location) (n : ℕ) (d : Document) (ds : Items) → under (index n) ls ≡ u → Later u d
    → item_if (piece gone (l ∷ u) d) (items_with_answer gone ls (suc n) ds) ≡ items_with_answer gone ls n (item_if (with_answer_at gone l d) ds)
item_here l u ls n d ds e h = grind arith

member_here : (l : Location) (k : List ℕ) (u e : List Location) (ls : List Location) (d : Document) (ms : Members) → under (name k) ls ≡ u → elsewhere (name k) ls ≡ e → Later u d
    → member_if k (piece gone (l ∷ u) d) (members_with_answer gone e ms) ≡ members_with_answer gone ls (member_if k (with_answer_at gone l d) ms)
member_here l k u e ls d ms is els h = grind (arith, null_piece)

member_at : (o : Ordering) (k q : List ℕ) (l : Location) (ls : List Location) (d : Document) (ms : Members) → Later (under (name q) ls) d
    → members_with_answer gone ((name k ∷ l) ∷ elsewhere (name q) ls) ms ≡ members_with_answer gone (elsewhere (name q) ls) (edit_member (with_answer_at gone l) k ms)
    → member_if q (piece gone (cond (is_eq o) (l ∷ under (name q) ls) (under (name q) ls)) d) (members_with_answer gone (cond (is_eq o) (elsewhere (name q) ls) ((name k ∷ l) ∷ elsewhere (name q) ls)) ms)
    ≡ members_with_answer gone ls (match_ordering o (member q d (edit_member (with_answer_at gone l) k ms)) (member_if q (with_answer_at gone l d) ms) (member q d (edit_member (with_answer_at gone l) k ms)))
member_at o k q l ls d ms h later = grind (arith, member_here)

mutual
  -- a null more is the null put first
  pub topmost_null : (t : Step) (l : Location) (ls : List Location) (d : Document) → with_answer_at_topmost gone ((t ∷ l) ∷ ls) d ≡ with_answer_at_topmost gone ls (edit (with_answer_at gone l) t d)
  topmost_null (name k) l ls (array ds) = ap array (same_items gone ((name k ∷ l) ∷ ls) ls 0 ds (λ m le. refl))
  topmost_null (name k) l ls (object ms) = ap object (members_null k l ls ms)
  topmost_null (index i) l ls (array ds) = ap array (items_null i i l ls 0 ds (omega arith))
  topmost_null (index i) l ls (object ms) = ap object (index_members gone i l ls ms)
  topmost_null _ l ls _ = refl

  items_null : (i j : ℕ) (l : Location) (ls : List Location) (n : ℕ) (ds : Items) → j ≡ n + i
      → items_with_answer gone ((index j ∷ l) ∷ ls) n ds ≡ items_with_answer gone ls n (edit_item (with_answer_at gone l) i ds)
  items_null i j l ls n no_items e = refl
  items_null zero j l ls n (item d ds) e =
      let here : nat_eq j n ≡ true = eq-eqb j n (omega arith) in
      let past = same_items gone ((index j ∷ l) ∷ ls) ls (suc n) ds (λ m le. let other : nat_eq j m ≡ false = ne_eqb j m (λ q. omega arith) in rw other refl) in
      rw here (ap (λ r. item_if (piece gone (l ∷ under (index n) ls) d) r) past ∙ item_here l (under (index n) ls) ls n d ds refl (λ t m. topmost_null t m (under (index n) ls) d))
  items_null (suc i) j l ls n (item d ds) e =
      let other : nat_eq j n ≡ false = ne_eqb j n (λ q. omega arith) in
      rw other (ap (λ r. item_if (piece gone (under (index n) ls) d) r) (items_null i j l ls (suc n) ds (omega arith)))

  members_null : (k : List ℕ) (l : Location) (ls : List Location) (ms : Members) → members_with_answer gone ((name k ∷ l) ∷ ls) ms ≡ members_with_answer gone ls (edit_member (with_answer_at gone l) k ms)
  members_null k l ls no_members = refl
  members_null k l ls (member q d ms) =
      member_at (slice_cmp nat_cmp k q) k q l ls d ms (λ t m. topmost_null t m (under (name q) ls) d) (members_null k l (elsewhere (name q) ls) ms)

-- nulls put one after another, in any order, are the nulls at the topmost locations
pub each_null : (ls : List Location) (d : Document) → update_each gone ls d ≡ nulled ls d
each_null [] d = sym (topmost_none gone d)
each_null ([] ∷ ls) d = each_null ls d ∙ sym (topmost_root gone ls d)
each_null ((s ∷ l) ∷ ls) d = each_null ls (edit (with_answer_at gone l) s d) ∙ sym (topmost_null s l ls d)
