-- One side of a comparison, tag by tag.
use Rattle.std.proofs.Common.{◌≡◌, ℕ, zero, suc, ◌+◌, ◌-◌, ◌==◌, ◌<◌, ◌≤◌, Bool, true, false, List, [], ◌∷◌, ◌++◌, append-nil, map, length, take, drop, cond, Option, Some, refl, sym, subst, ap, ap₂, ◌∙◌, arith, option_map, ℤ}
use Rattle.std.specs.List.{prefix_len}
use Rattle.std.proofs.Math.Seq.{take-length}
use Rattle.std.proofs.lemmas.List.{drop-map, take-map, drop-drop}
use mathlib.Core.List.{map-map}
use Rattle.jsonpath_nodes.specs.document.Document.{Document}
use Rattle.jsonpath_nodes.specs.place.Location.{Location, at}
use Rattle.jsonpath_nodes.specs.compare.Comparisons.{Seen, seen}
use Rattle.jsonpath_select.specs.Meaning.{values_at}
use Rattle.jsonpath_select.specs.Parts.{has_pair}
use Rattle.jsonpath_nodes.specs.compare.Atoms.{seen_with}
use Rattle.jsonpath_nodes.specs.declared.compare.atom.Atom.{Atom}
use Rattle.jsonpath_paths.specs.declared.token.tokens.FilterToken.{FilterToken}
use Rattle.jsonpath_select.specs.plan.Machine.{Tagged, places, front_of_tag, all_tags_or_none, Found, locations_at_tag, pairs_behind, Operand, of_path, tags, literal, values_front, values_behind, compared}
use Rattle.jsonpath_select.specs.plan.Shown.{tags_of}
use Rattle.jsonpath_select.specs.plan.Sides.{ShowsSide}
use Rattle.jsonpath_select.specs.declared.comparison.side.Side.{Side}
use Rattle.jsonpath_select.specs.plan.Stack.{ShowsOperand, found_on}
use Rattle.jsonpath_select.specs.declared.tagged.marks.Found.{Found as FoundOf}
use Rattle.jsonpath_select.specs.declared.tagged.operand.Operand as ops
use Rattle.jsonpath_select.proofs.tagged.ConditionLemmas.{more as one_tag}
use Rattle.jsonpath_select.proofs.walk.MarkLemmas.{filter_map-some, found_alike}
use Rattle.jsonpath_select.proofs.tagged.GroupLemmas.{run, front_of_tag-run, behind_tag-run}
use Rattle.jsonpath_nodes.specs.place.Mark.{shown, look_kept, MarksStandAt}

-- an operand without what stands before a place
abbrev pub past : ℕ → Operand → Operand
past n (of_path f) = of_path (record f { pairs = drop n f.pairs })
past n (tags ts) = tags ts
past n (literal vs) = literal vs

pub past_none : (o : Operand) → past 0 o ≡ o
past_none (of_path f) = refl
past_none _ = refl

pub all_compared : (doc : Document) (op : FilterToken) (t count : ℕ) (a b : Operand) (out all : List ℕ) → count ≤ t → out ++ compared doc op t (count - t) a b ≡ all → out ≡ all
all_compared doc op t count a b out all over kept =
    let none : count - t ≡ 0 = omega arith in
    sym (append-nil out) ∙ ap (λ k. out ++ compared doc op t k a b) (sym none) ∙ kept

-- for values whose numbers are of one type, by the fraction that each is
module _ {N : Type 0} (frac : N → ℤ × ℕ) where
  seen_there : (doc : Document) (ls : List Location) (atoms : List (Atom N)) → map (λ (a : Atom N). Some (seen_with frac a)) atoms ≡ map (λ l. option_map seen (at doc l)) ls → map (seen_with frac) atoms ≡ values_at doc ls
  seen_there doc ls atoms h = sym (filter_map-some (seen_with frac) atoms) ∙ found_alike (λ o. o) (λ (a : Atom N). Some (seen_with frac a)) (λ l. option_map seen (at doc l)) atoms ls h

  -- where the side's run of a tag ends, and where the next begins
  abbrev pub end_of : Side N → ℕ → ℕ → ℕ
  end_of s t from = cond s.is_constant (length s.atoms.items) (from + prefix_len (λ u. u == t) (drop from s.tags.now))

  -- a side that is the same for all tags is there as a whole
  all_there : (s : Side N) (t from end : ℕ) → s.is_constant ≡ true → from ≡ 0 → end ≡ end_of s t from → take (end - from) (drop from s.atoms.items) ≡ s.atoms.items
  all_there s t from end constant at_first ends =
      let to_end : end ≡ length s.atoms.items = ends ∙ ap (λ b. cond b (length s.atoms.items) (from + prefix_len (λ u. u == t) (drop from s.tags.now))) constant in
      let size : end - from ≡ length s.atoms.items = omega (arith, to_end, at_first) in
      ap₂ (λ k m. take k (drop m s.atoms.items)) size at_first ∙ take-length s.atoms.items

  -- where the run of a tag ends, of a side that has its own for each
  run_ends : (f : Found) (s : Side N) (t from end : ℕ) → s.is_constant ≡ false → s.tags.now ≡ tags_of f.pairs → end ≡ end_of s t from → end ≡ from + run t (drop from f.pairs)
  run_ends f s t from end own same ends =
      ends ∙ ap (λ b. cond b (length s.atoms.items) (from + prefix_len (λ u. u == t) (drop from s.tags.now))) own
      ∙ ap (λ (us : List ℕ). from + prefix_len (λ u. u == t) us) (ap (drop from) same ∙ drop-map (λ (p : Tagged). p.0) from f.pairs)

  pub here_front : (doc : Document) (o : Operand) (s : Side N) (t from end : ℕ) → ShowsSide frac doc o s → (s.is_constant ≡ true → from ≡ 0) → end ≡ end_of s t from
      → map (seen_with frac) (take (end - from) (drop from s.atoms.items)) ≡ values_front doc t (past from o)
  here_front doc (of_path f) s t from end h start ends = by f.shared refl
    where
      by : (b : Bool) → f.shared ≡ b → map (seen_with frac) (take (end - from) (drop from s.atoms.items)) ≡ values_at doc (locations_at_tag b t (drop from f.pairs))
      by true is =
          let at_first = start (h.0 ∙ is) in
          ap (map (seen_with frac)) (all_there s t from end (h.0 ∙ is) at_first ends) ∙ seen_there doc (places f.pairs) s.atoms.items h.2
          ∙ ap (λ k. values_at doc (places (drop k f.pairs))) (sym at_first)
      by false is =
          let left = drop from f.pairs in
          let n = run t left in
          let at_end = run_ends f s t from end (h.0 ∙ is) (h.1 is) ends in
          let size : end - from ≡ n = omega (arith, at_end) in
          ap (λ k. map (seen_with frac) (take k (drop from s.atoms.items))) size
          ∙ seen_there doc (front_of_tag t left) (take n (drop from s.atoms.items))
          (sym (take-map (λ (a : Atom N). Some (seen_with frac a)) n (drop from s.atoms.items))
          ∙ ap (take n) (sym (drop-map (λ (a : Atom N). Some (seen_with frac a)) from s.atoms.items) ∙ ap (drop from) h.2 ∙ drop-map (λ l. option_map seen (at doc l)) from (places f.pairs))
          ∙ take-map (λ l. option_map seen (at doc l)) n (drop from (places f.pairs))
          ∙ ap (map (λ l. option_map seen (at doc l))) (ap (take n) (drop-map (λ (p : Tagged). p.1) from f.pairs) ∙ sym (front_of_tag-run t left)))
  here_front doc (tags ts) s t from end h start ends = absurd h
  here_front doc (literal vs) s t from end h start ends = ap (map (seen_with frac)) (all_there s t from end h.0 (start h.0) ends) ∙ h.1

  pub here_behind : (doc : Document) (o : Operand) (s : Side N) (t from end next : ℕ) → ShowsSide frac doc o s → (s.is_constant ≡ true → from ≡ 0) → end ≡ end_of s t from → next ≡ cond s.is_constant 0 end
      → values_behind t (past from o) ≡ past next o
  here_behind doc (of_path f) s t from end next h start ends goes = ap (λ (ps : List Tagged). of_path (record f { pairs = ps })) (by f.shared refl)
    where
      by : (b : Bool) → f.shared ≡ b → pairs_behind b t (drop from f.pairs) ≡ drop next f.pairs
      by true is = ap (λ k. drop k f.pairs) (start (h.0 ∙ is) ∙ sym (goes ∙ ap (λ b. cond b 0 end) (h.0 ∙ is)))
      by false is =
          let at_end = run_ends f s t from end (h.0 ∙ is) (h.1 is) ends in
          let to : next ≡ end = goes ∙ ap (λ b. cond b 0 end) (h.0 ∙ is) in
          behind_tag-run t (drop from f.pairs) ∙ drop-drop (run t (drop from f.pairs)) from f.pairs ∙ ap (λ k. drop k f.pairs) (sym at_end ∙ sym to)
  here_behind doc (tags ts) s t from end next h start ends goes = absurd h
  here_behind doc (literal vs) s t from end next h start ends goes = refl

  pub compare_next : (doc : Document) (op : FilterToken) (a b : Operand) (l r : Side N) (count t lf le ln rf re rn : ℕ) (holds : Bool) (xs ys : List (Atom N)) (out out' all : List ℕ)
      → ShowsSide frac doc a l → ShowsSide frac doc b r → (l.is_constant ≡ true → lf ≡ 0) → (r.is_constant ≡ true → rf ≡ 0)
      → t < count → le ≡ end_of l t lf → re ≡ end_of r t rf → ln ≡ cond l.is_constant 0 le → rn ≡ cond r.is_constant 0 re
      → xs ≡ take (le - lf) (drop lf l.atoms.items) → ys ≡ take (re - rf) (drop rf r.atoms.items) → holds ≡ has_pair op (map (seen_with frac) xs) (map (seen_with frac) ys)
      → out' ≡ cond holds (out ++ t ∷ []) out
      → out ++ compared doc op t (count - t) (past lf a) (past rf b) ≡ all → out' ++ compared doc op (t + 1) (count - (t + 1)) (past ln a) (past rn b) ≡ all
  compare_next doc op a b l r count t lf le ln rf re rn holds xs ys out out' all ha hb sl sr below el er gl gr ix iy is more kept =
      let fewer : count - t ≡ suc (count - (t + 1)) = omega arith in
      let next_tag : suc t ≡ t + 1 = omega arith in
      let later = compared doc op (t + 1) (count - (t + 1)) (past ln a) (past rn b) in
      let test : has_pair op (values_front doc t (past lf a)) (values_front doc t (past rf b)) ≡ holds =
      sym (is ∙ ap₂ (λ us vs. has_pair op us vs) (ap (map (seen_with frac)) ix ∙ here_front doc a l t lf le ha sl el) (ap (map (seen_with frac)) iy ∙ here_front doc b r t rf re hb sr er)) in
      let step : compared doc op t (count - t) (past lf a) (past rf b) ≡ cond holds (t ∷ later) later =
      ap (λ k. compared doc op t k (past lf a) (past rf b)) fewer
      ∙ ap₂ (λ h (ts : List ℕ). cond h (t ∷ ts) ts) test
      (ap₂ (compared doc op (suc t) (count - (t + 1))) (here_behind doc a l t lf le ln ha sl el gl) (here_behind doc b r t rf re rn hb sr er gr) ∙ ap (λ m. compared doc op m (count - (t + 1)) (past ln a) (past rn b)) next_tag) in
      one_tag holds t out out' later all more (ap (λ (ts : List ℕ). out ++ ts) (sym step) ∙ kept)

  -- one tag more is compared, where the right side is the same for all tags
  pub compare_to_next : (doc : Document) (op : FilterToken) (a b : Operand) (l r : Side N) (count t from end : ℕ) (holds : Bool) (xs : List (Atom N)) (out out' all : List ℕ)
      → ShowsSide frac doc a l → ShowsSide frac doc b r → l.is_constant ≡ false → r.is_constant ≡ true → t < count → end ≡ from + prefix_len (λ u. u == t) (drop from l.tags.now)
      → xs ≡ take (end - from) (drop from l.atoms.items) → holds ≡ has_pair op (map (seen_with frac) xs) (map (seen_with frac) r.atoms.items) → out' ≡ cond holds (out ++ t ∷ []) out
      → out ++ compared doc op t (count - t) (past from a) b ≡ all → out' ++ compared doc op (t + 1) (count - (t + 1)) (past end a) b ≡ all
  compare_to_next doc op a b l r count t from end holds xs out out' all ha hb own constant below ends ix is more kept =
      let size = length r.atoms.items in
      let no_less : size - 0 ≡ size = omega arith in
      ap (λ (o : Operand). out' ++ compared doc op (t + 1) (count - (t + 1)) (past end a) o) (sym (past_none b))
      ∙ compare_next doc op a b l r count t from end end 0 size 0 holds xs r.atoms.items out out' all ha hb (λ h. let never : false ≡ true = sym own ∙ h in cc) (λ h. refl) below
      (ends ∙ sym (ap (λ c. cond c (length l.atoms.items) (from + prefix_len (λ u. u == t) (drop from l.tags.now))) own))
      (sym (ap (λ c. cond c size (0 + prefix_len (λ u. u == t) (drop 0 r.tags.now))) constant)) (sym (ap (λ c. cond c 0 end) own)) (sym (ap (λ c. cond c 0 size) constant))
      ix (sym (ap (λ k. take k r.atoms.items) no_less ∙ take-length r.atoms.items)) is more (ap (λ (o : Operand). out ++ compared doc op t (count - t) (past from a) o) (past_none b) ∙ kept)

  -- ---- two sides that are the same for all tags

  -- an operand that is the same for all tags: a literal, or what was found from the root
  stays : (doc : Document) (o : Operand) (s : Side N) (t : ℕ) → ShowsSide frac doc o s → s.is_constant ≡ true → (values_front doc t o ≡ map (seen_with frac) s.atoms.items) × (values_behind t o ≡ o)
  stays doc (of_path f) s t h constant = (
    ap (λ b. values_at doc (locations_at_tag b t f.pairs)) shares ∙ sym (seen_there doc (places f.pairs) s.atoms.items h.2),
    ap (λ b. of_path (record f { pairs = pairs_behind b t f.pairs })) shares,
  )
    where
      shares : f.shared ≡ true
      shares = sym h.0 ∙ constant
  stays doc (tags ts) s t h constant = absurd h
  stays doc (literal vs) s t h constant = (sym h.1, refl)

  pub compared_once : (doc : Document) (op : FilterToken) (a b : Operand) (l r : Side N) → ShowsSide frac doc a l → ShowsSide frac doc b r → l.is_constant ≡ true → r.is_constant ≡ true → (t count : ℕ)
      → all_tags_or_none (has_pair op (map (seen_with frac) l.atoms.items) (map (seen_with frac) r.atoms.items)) t count ≡ compared doc op t count a b
  compared_once doc op a b l r ha hb cl cr t zero = refl
  compared_once doc op a b l r ha hb cl cr t (suc count) =
      let left = stays doc a l t ha cl in
      let right = stays doc b r t hb cr in
      ap₂ (λ h (ts : List ℕ). cond h (t ∷ ts) ts) (sym (ap₂ (λ us vs. has_pair op us vs) left.0 right.0))
      (compared_once doc op a b l r ha hb cl cr (suc t) count ∙ sym (ap₂ (compared doc op (suc t) count) left.1 right.1))

  -- ---- for marks of either kind: whether they keep their locations, where they stand, what they hold

  module _ {M : Type 0} (located : Bool) (stand_of : M → Location) (content_of : M → Document) where
    seen_marks : (doc : Document) (ls : List Location) (marks : List M) → MarksStandAt located stand_of content_of doc ls marks → map (λ s. Some (seen (content_of s))) marks ≡ map (λ l. option_map seen (at doc l)) ls
    seen_marks doc ls marks h =
        let content : Location × Option Document → Option Seen = λ x. option_map seen x.1 in
        sym (map-map content (shown stand_of content_of) marks) ∙ ap (map content) h ∙ map-map content (look_kept located doc) ls

    pub marks_side : (text : List ℕ) (doc : Document) (o : Operand) (x : ops.Operand M) (n : FoundOf M) (side : Side N) → x ≡ found_on n → ShowsOperand located stand_of content_of text doc o x → side.is_constant ≡ n.is_shared → side.tags.now ≡ n.pairs.tags.items
        → map (seen_with frac) side.atoms.items ≡ map (λ s. seen (content_of s)) n.pairs.marks.items → ShowsSide frac doc o side
    marks_side text doc o x n side is h constant same atoms = by o (subst (ShowsOperand located stand_of content_of text doc o) is h)
      where
        by : (o : Operand) → ShowsOperand located stand_of content_of text doc o (found_on n) → ShowsSide frac doc o side
        by (of_path f) h = (
          constant ∙ h.0,
          λ own. same ∙ h.1.0,
          sym (map-map (λ x. Some x) (seen_with frac) side.atoms.items) ∙ ap (map (λ (x : Seen). Some x)) atoms ∙ map-map (λ x. Some x) (λ s. seen (content_of s)) n.pairs.marks.items ∙ seen_marks doc (places f.pairs) n.pairs.marks.items h.1.1,
        )
        by (tags ts) h = h
        by (literal vs) h = absurd h
