-- One pass over the members of an object that takes away at locations in order.
use Rattle.std.proofs.Common.{◌≡◌, ℕ, ◌<◌, List, [], ◌∷◌, length, Option, Some, None, Bool, true, false, Ordering, Less, Equal, Greater, nat_cmp, cond, is_eq, ◌+◌, take, drop, refl, sym, ap, subst, ◌∙◌, arith}
use Rattle.std.specs.Cmp.Lexicographic.{slice_cmp}
use Rattle.std.specs.List.Sorted.{IsStrictlySortedBy}
use Rattle.std.specs.Ordering.{match_ordering}
use Rattle.jsonpath_nodes.specs.document.Document.{Document, Members, no_members, member}
use Rattle.jsonpath_nodes.specs.document.Find.{get_member}
use Rattle.jsonpath_nodes.specs.document.OfData.{value_document, members_document}
use Rattle.serde_json.specs.declared.value.Value.{Value}
use Rattle.serde_json.proofs.Views.{Entry}
use Rattle.std.specs.BTreeMap.{is_at}
use Rattle.std.specs.Map.{remove_entry, set_value}
use Rattle.jsonpath_nodes.specs.place.Location.{Step, name, Location, location_cmp}
use Rattle.jsonpath_nodes.specs.update.Topmost.{same_step, under, elsewhere, has_root, with_answer_at_topmost, members_with_answer}
use Rattle.jsonpath_nodes.specs.plan.Groups.{beyond, first_name, leading}
use Rattle.jsonpath_nodes.specs.update.Update.{member_if, edit_member}
use Rattle.jsonpath_nodes.proofs.update.EditLemmas.{edit_member_by, edit_member_same}
use Rattle.jsonpath_nodes.proofs.update.PassLemmas.{front_no_root}
use Rattle.jsonpath_nodes.proofs.update.ViewLemmas.{named, members_view-remove_entry, members_view-set_value}
use Rattle.jsonpath_nodes.proofs.update.GroupLemmas.{Front, behind_group, in_group, no_more, no_name_there, sorted_under, none_after, under_other, sorted_drop, under_same}
use Rattle.jsonpath_nodes.proofs.update.SetLemmas.{step_congr, same_itself, same_back}
use Rattle.jsonpath_nodes.proofs.update.TopmostLemmas.{piece, topmost_none, members_none}

-- ---- only what goes through names matters

nothing : (b : Bool) (us : List Location) → us ≡ [] → cond b [] us ≡ us
nothing true us e = sym e
nothing false us e = refl

left_in : (b c : Bool) (l : Location) (us vs : List Location) → (c ≡ true → b ≡ false) → vs ≡ cond b [] us → cond c (l ∷ vs) vs ≡ cond b [] (cond c (l ∷ us) us)
left_in true true l us vs h e = absurd (let off : true ≡ false = h refl in cc)
left_in true false l us vs h e = e
left_in false c l us vs h e = ap (λ (ws : List Location). cond c (l ∷ ws) ws) e

pub under_elsewhere : (s r : Step) (ls : List Location) → under r (elsewhere s ls) ≡ cond (same_step r s) [] (under r ls)
under_elsewhere s r [] = sym (nothing (same_step r s) [] refl)
under_elsewhere s r ([] ∷ ls) = under_elsewhere s r ls
under_elsewhere s r ((t ∷ l) ∷ ls) = grind (arith, left_in, same_back, step_congr, under_elsewhere s r ls)

-- the same locations go through each name
abbrev pub SameNames : List Location → List Location → Type 0
SameNames ls ms = (q : List ℕ) → under (name q) ls ≡ under (name q) ms

elsewhere_names : (k : List ℕ) (ls ms : List Location) → SameNames ls ms → SameNames (elsewhere (name k) ls) (elsewhere (name k) ms)
elsewhere_names k ls ms h q =
    under_elsewhere (name k) (name q) ls ∙ ap (λ (us : List Location). cond (same_step (name q) (name k)) [] us) (h q) ∙ sym (under_elsewhere (name k) (name q) ms)

same_names : (ls ms : List Location) (es : Members) → SameNames ls ms → members_with_answer None ls es ≡ members_with_answer None ms es
same_names ls ms no_members h = refl
same_names ls ms (member k d es) h = grind (arith, elsewhere_names, same_names (elsewhere (name k) ls) (elsewhere (name k) ms) es (elsewhere_names k ls ms h))

-- ---- what goes through one name comes off first

-- the locations us, which go through the name k, come off the locations all, and leave rest
abbrev pub ComesOff : List ℕ → List Location → List Location → List Location → Type 0
ComesOff k us all rest = (q : List ℕ) → (same_step (name q) (name k) ≡ true → (under (name q) all ≡ us) × (under (name q) rest ≡ [])) × (same_step (name q) (name k) ≡ false → under (name q) all ≡ under (name q) rest)

comes_off_elsewhere : (k l : List ℕ) (us all rest : List Location) → same_step (name k) (name l) ≡ false → ComesOff k us all rest → ComesOff k us (elsewhere (name l) all) (elsewhere (name l) rest)
comes_off_elsewhere k l us all rest apart h q = (
  λ same. let off : same_step (name q) (name l) ≡ false = step_congr (name q) (name k) (name l) same ∙ apart in
      (under_elsewhere (name l) (name q) all ∙ rw off ((h q).0 same).0, under_elsewhere (name l) (name q) rest ∙ rw off ((h q).0 same).1),
  λ other. under_elsewhere (name l) (name q) all ∙ ap (λ (ws : List Location). cond (same_step (name q) (name l)) [] ws) ((h q).1 other) ∙ sym (under_elsewhere (name l) (name q) rest),
)

like_name : (k l q : List ℕ) → same_step (name k) (name l) ≡ true → same_step (name q) (name l) ≡ same_step (name q) (name k)
like_name k l q same = same_back (name q) (name l) ∙ sym (step_congr (name k) (name l) (name q) same) ∙ same_back (name k) (name q)

-- without the name itself, both lead to the same
off_names : (k l : List ℕ) (us all rest : List Location) → same_step (name k) (name l) ≡ true → ComesOff k us all rest → SameNames (elsewhere (name l) all) rest
off_names k l us all rest same h q = under_elsewhere (name l) (name q) all ∙ by (same_step (name q) (name l)) refl
  where
    by : (b : Bool) → same_step (name q) (name l) ≡ b → cond b [] (under (name q) all) ≡ under (name q) rest
    by true e = sym ((h q).0 (sym (like_name k l q same) ∙ e)).1
    by false e = (h q).1 (sym (like_name k l q same) ∙ e)

both_elsewhere : (k l : List ℕ) (us all rest : List Location) → same_step (name k) (name l) ≡ true → ComesOff k us all rest → SameNames (elsewhere (name l) all) (elsewhere (name l) rest)
both_elsewhere k l us all rest same h q = under_elsewhere (name l) (name q) all ∙ by (same_step (name q) (name l)) refl ∙ sym (under_elsewhere (name l) (name q) rest)
  where
    by : (b : Bool) → same_step (name q) (name l) ≡ b → cond b [] (under (name q) all) ≡ cond b [] (under (name q) rest)
    by true e = refl
    by false e = (h q).1 (sym (like_name k l q same) ∙ e)

put_back : (p : Option Document) (l : List ℕ) (all rest : List Location) (es : Members) → under (name l) rest ≡ [] → SameNames (elsewhere (name l) all) rest → SameNames (elsewhere (name l) all) (elsewhere (name l) rest)
    → member_if l p (members_with_answer None (elsewhere (name l) all) es) ≡ members_with_answer None rest (member_if l p es)
put_back None l all rest es none same both = same_names (elsewhere (name l) all) rest es same
put_back (Some d) l all rest es none same both =
    rw none (ap (member l d) (same_names (elsewhere (name l) all) (elsewhere (name l) rest) es both) ∙ ap (λ (e : Document). member l e (members_with_answer None (elsewhere (name l) rest) es)) (sym (topmost_none None d)))

members_off : (k : List ℕ) (us all rest : List Location) (es : Members) → ComesOff k us all rest → members_with_answer None all es ≡ members_with_answer None rest (edit_member (piece None us) k es)
members_off k us all rest no_members h = refl
members_off k us all rest (member l d es) h = at (slice_cmp nat_cmp k l) refl (λ apart. members_off k us (elsewhere (name l) all) (elsewhere (name l) rest) es (comes_off_elsewhere k l us all rest apart h))
  where
    apart_at : is_eq (slice_cmp nat_cmp k l) ≡ false
        → (same_step (name k) (name l) ≡ false → members_with_answer None (elsewhere (name l) all) es ≡ members_with_answer None (elsewhere (name l) rest) (edit_member (piece None us) k es))
        → members_with_answer None all (member l d es) ≡ members_with_answer None rest (member l d (edit_member (piece None us) k es))
    apart_at e later =
        let off : same_step (name l) (name k) ≡ false = same_back (name l) (name k) ∙ e in
        ap (λ (ws : List Location). member_if l (piece None ws d) (members_with_answer None (elsewhere (name l) all) es)) ((h l).1 off)
        ∙ ap (member_if l (piece None (under (name l) rest) d)) (later e)

    at : (o : Ordering) → slice_cmp nat_cmp k l ≡ o
        → (same_step (name k) (name l) ≡ false → members_with_answer None (elsewhere (name l) all) es ≡ members_with_answer None (elsewhere (name l) rest) (edit_member (piece None us) k es))
        → members_with_answer None all (member l d es)
        ≡ members_with_answer None rest (match_ordering o (member l d (edit_member (piece None us) k es)) (member_if l (piece None us d) es) (member l d (edit_member (piece None us) k es)))
    at Less e later = apart_at (ap is_eq e) later
    at Equal e later =
        let same : same_step (name k) (name l) ≡ true = ap is_eq e in
        let back : same_step (name l) (name k) ≡ true = same_back (name l) (name k) ∙ same in
        let both = (h l).0 back in
        ap (λ (ws : List Location). member_if l (piece None ws d) (members_with_answer None (elsewhere (name l) all) es)) both.0
        ∙ put_back (piece None us d) l all rest es both.1 (off_names k l us all rest same h) (both_elsewhere k l us all rest same h)
    at Greater e later = apart_at (ap is_eq e) later

-- a name with the locations behind it, in order
name_off : (k : List ℕ) (l : Location) (rest : List Location) → IsStrictlySortedBy location_cmp ((name k ∷ l) ∷ rest)
    → ComesOff k (l ∷ under (name k) rest) ((name k ∷ l) ∷ rest) (drop (leading (name k) rest) rest)
unfolding IsStrictlySortedBy
name_off k l rest up q = (
  λ same. let back : same_step (name k) (name q) ≡ true = same_back (name k) (name q) ∙ same in (
    rw back (ap (λ (us : List Location). l ∷ us) (under_same (name q) (name k) rest same)),
    under_same (name q) (name k) (drop (leading (name k) rest) rest) same ∙ none_after (name k) (name k) l rest (same_itself (name k)) up.0 up.1,
  ),
  λ other. let off : same_step (name k) (name q) ≡ false = same_back (name k) (name q) ∙ other in
      rw off (sym (under_other (name k) (name q) rest off)),
)

-- the members now, with what the locations rest take away, are the first members without what all take away
pub record Clears (all : List Location) (first now : Members) (rest : List Location) : Type 0 where
  pub sorted : IsStrictlySortedBy location_cmp rest
  pub same : members_with_answer None rest now ≡ members_with_answer None all first

-- a location that goes through no name
clears_skip : (all : List Location) (first now : Members) (l : Location) (rest : List Location) → ((q : List ℕ) → under (name q) (l ∷ rest) ≡ under (name q) rest) → Clears all first now (l ∷ rest) → Clears all first now rest
unfolding IsStrictlySortedBy
clears_skip all first now l rest h p = record { sorted = p.sorted.1; same = sym (same_names (l ∷ rest) rest now h) ∙ p.same }

-- as the code finds it
pub clears_over : (depth : ℕ) {ls others : List Location} {x : Location} {all : List Location} {first now : Members} → ls ≡ x ∷ others → None ≡ first_name (drop depth x) → Clears all first now (beyond depth ls) → Clears all first now (beyond depth others)
clears_over depth {others = others} {x = x} {all = all} {first = first} {now = now} cases none p =
    clears_skip all first now (drop depth x) (beyond depth others) (no_name_there (drop depth x) (beyond depth others) none) (subst (λ (r : List Location). Clears all first now (beyond depth r)) cases p)

through_itself : (k : List ℕ) (l : Location) (rest : List Location) → under (name k) ((name k ∷ l) ∷ rest) ≡ l ∷ under (name k) rest
through_itself k l rest = let same : same_step (name k) (name k) ≡ true = same_itself (name k) in rw same refl

-- those at the front that go through one name
clears_more : (all : List Location) (first now after : Members) (k : List ℕ) (l : Location) (rest : List Location)
    → after ≡ edit_member (piece None (under (name k) ((name k ∷ l) ∷ rest))) k now → Clears all first now ((name k ∷ l) ∷ rest) → Clears all first after (drop (leading (name k) rest) rest)
unfolding IsStrictlySortedBy
clears_more all first now after k l rest is p = record {
  sorted = sorted_drop (leading (name k) rest) rest p.sorted.1;
  same = ap (members_with_answer None (drop (leading (name k) rest) rest)) (is ∙ ap (λ (us : List Location). edit_member (piece None us) k now) (through_itself k l rest))
      ∙ sym (members_off k (l ∷ under (name k) rest) ((name k ∷ l) ∷ rest) (drop (leading (name k) rest) rest) now (name_off k l rest p.sorted))
      ∙ p.same;
}

pub clears_end : (depth : ℕ) (rest : List Location) {all : List Location} {first now : Members} → length rest ≡ 0 → Clears all first now (beyond depth rest) → now ≡ members_with_answer None all first
clears_end depth rest {all} {first} {now} none q =
    let p : Clears all first now [] = subst (λ (r : List Location). Clears all first now (beyond depth r)) (no_more rest none) q in
    sym (members_none None now) ∙ p.same

-- those at the front go through a name
module _ {depth g : ℕ} {ls others : List Location} {k : List ℕ} {l : Location} (f : Front depth g ls others (name k) l) where
  abbrev rest : List Location
  rest = beyond depth others

  abbrev through_name : List Location
  through_name = under (name k) ((name k ∷ l) ∷ rest)

  through_front : through_name ≡ l ∷ under (name k) rest
  through_front = through_itself k l rest

  module _ {later : List Location} (behind : later ≡ drop g ls) {all : List Location} {first : Members} (es fs : List Entry) (p : Clears all first (members_document es) (beyond depth ls)) where
    at_front : Clears all first (members_document es) ((name k ∷ l) ∷ rest)
    at_front = subst (λ (r : List Location). Clears all first (members_document es) r) f.head p

    cleared : members_document fs ≡ edit_member (piece None through_name) k (members_document es) → Clears all first (members_document fs) (beyond depth later)
    cleared is = subst (λ (r : List Location). Clears all first (members_document fs) r) (sym (behind_group f later behind)) (clears_more all first (members_document es) (members_document fs) k l rest is at_front)

    -- a member that is taken away
    pub clears_taken : length l ≡ 0 → fs ≡ remove_entry (is_at (named k)) es → Clears all first (members_document fs) (beyond depth later)
    clears_taken none is =
        let root : has_root through_name ≡ true = ap has_root through_front ∙ at_root l none in
        cleared (ap members_document is ∙ members_view-remove_entry k es ∙ ap (λ (b : Bool). edit_member (λ d. cond b None (Some (with_answer_at_topmost None through_name d))) k (members_document es)) (sym root))
      where
        at_root : (m : Location) → length m ≡ 0 → has_root (m ∷ under (name k) rest) ≡ true
        at_root [] e = refl
        at_root (s ∷ m) e = absurd (omega arith)

    -- a member of which the locations take something away
    pub clears_kept : {here : List Location} {d : Document} (w : Value) → here ≡ take g ls → 0 < length l → get_member k (members_document es) ≡ Some d
        → value_document w ≡ with_answer_at_topmost None (beyond (depth + 1) here) d → fs ≡ set_value (is_at (named k)) es w → Clears all first (members_document fs) (beyond depth later)
    clears_kept {here} {d} w ahead more found is put =
        let root : has_root through_name ≡ false = below_root l through_front more in
        let inside : Some (value_document w) ≡ piece None through_name d =
        ap Some (is ∙ ap (λ (us : List Location). with_answer_at_topmost None us d) (in_group f here ahead p.sorted)) ∙ ap (λ (b : Bool). cond b None (Some (with_answer_at_topmost None through_name d))) (sym root) in
        cleared (ap members_document put ∙ members_view-set_value k es w ∙ ap (λ (o : Option Document). edit_member (λ _. o) k (members_document es)) inside ∙ sym (edit_member_by (piece None through_name) k (members_document es) d found))
      where
        below_root : (m : Location) → through_name ≡ m ∷ under (name k) rest → 0 < length m → has_root through_name ≡ false
        below_root [] e h = absurd (omega arith)
        below_root (s ∷ m) e h = front_no_root s m through_name (under (name k) rest) e (sorted_under (name k) ((name k ∷ l) ∷ rest) at_front.sorted)

    -- a name that the object has not
    pub clears_none : get_member k (members_document es) ≡ None → fs ≡ es → Clears all first (members_document fs) (beyond depth later)
    clears_none none is = grind (arith, cleared, edit_member_same)
