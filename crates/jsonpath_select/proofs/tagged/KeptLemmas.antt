-- The spots that are kept, one after the other.
use Rattle.std.proofs.Common.{Option, ◌≡◌, ℕ, suc, ◌+◌, ◌-◌, ◌<◌, ◌≤◌, Bool, true, false, List, [], ◌∷◌, ◌++◌, map, length, drop, cond, refl, sym, ap, ap₂, ◌∙◌, append_assoc, append-nil, arith, length-append, drop_of_length-le, ltb}
use Rattle.std.proofs.lemmas.List.{drop-drop, map-append, drop-map, length-map, length-drop}
use Rattle.jsonpath_nodes.specs.document.Document.{Document}
use Rattle.jsonpath_nodes.specs.place.Location.{Location}
use Rattle.jsonpath_select.specs.plan.Machine.{Tagged, places, is_next, kept_by_number}
use Rattle.jsonpath_select.specs.plan.Shown.{tags_of, ArePairs}
use Rattle.jsonpath_select.proofs.tagged.ConditionLemmas.{after_past, is_past}
use Rattle.jsonpath_nodes.specs.place.Mark.{shown, look_kept, MarksStandAt}
use Rattle.jsonpath_select.proofs.walk.MarkLemmas.{length-marks}

pub left_after : {X : Type 0} (all rest : List X) (x : X) (n : ℕ) → drop n all ≡ x ∷ rest → rest ≡ drop (n + 1) all
left_after {X} all rest x n h = ap (drop 1) (sym h) ∙ drop-drop 1 n all

pub is_there : {X : Type 0} (all rest : List X) (x : X) (n : ℕ) → drop n all ≡ x ∷ rest → n < length all
is_there all rest x n h = let left : length all - n ≡ suc (length rest) = sym (length-drop n all) ∙ ap length h in omega (arith, left)

-- ---- for marks of either kind: whether they keep their locations, where they stand, what they hold

module _ {M : Type 0} (located : Bool) (stand_of : M → Location) (content_of : M → Document) where
  module _ (doc : Document) (numbers : List ℕ) (ps : List Tagged) where
    -- what is kept so far, and that the rest follows
    abbrev pub KeptSoFar : ℕ → ℕ → List ℕ → List M → Type 0
    KeptSoFar number from tags marks = (done : List Tagged) × ArePairs located stand_of content_of doc done tags marks × (done ++ kept_by_number number (drop from numbers) (drop number ps) ≡ kept_by_number 0 numbers ps)

  pub keep_begins : (doc : Document) (numbers : List ℕ) (ps : List Tagged) (tags : List ℕ) (marks : List M) → tags ≡ [] → marks ≡ [] → KeptSoFar doc numbers ps 0 0 tags marks
  keep_begins doc numbers ps tags marks e g = ([], (e, ap (map (shown stand_of content_of)) g), refl)

  -- the pair that is next
  next_pair : (doc : Document) (ps : List Tagged) (tag : ℕ) (mark : M) (tags : List ℕ) (marks : List M) → tag ∷ tags ≡ tags_of ps → MarksStandAt located stand_of content_of doc (places ps) (mark ∷ marks)
      → (p : Tagged) × (qs : List Tagged) × (ps ≡ p ∷ qs) × ArePairs located stand_of content_of doc (p ∷ []) (tag ∷ []) (mark ∷ [])
  next_pair doc [] tag mark tags marks h g = cc
  next_pair doc (p ∷ qs) tag mark tags marks h g =
      let same : tag ≡ p.0 = cc in
      let here : (shown stand_of content_of) mark ≡ look_kept located doc p.1 = cc in
      (p, qs, refl, (ap (λ t. t ∷ []) same, ap (λ (x : Location × Option Document). x ∷ []) here))

  -- one pair more or not
  kept_or_not : (doc : Document) (passes : Bool) (done later all : List Tagged) (p : Tagged) (tag : ℕ) (mark : M) (out out' : List ℕ) (held held' : List M) → ArePairs located stand_of content_of doc (p ∷ []) (tag ∷ []) (mark ∷ [])
      → out' ≡ cond passes (out ++ tag ∷ []) out → held' ≡ cond passes (held ++ mark ∷ []) held → ArePairs located stand_of content_of doc done out held → done ++ cond passes (p ∷ later) later ≡ all
      → (now : List Tagged) × ArePairs located stand_of content_of doc now out' held' × (now ++ later ≡ all)
  kept_or_not doc true done later all p tag mark out out' held held' one e g are follows = (
    done ++ p ∷ [],
    (
      e ∙ ap₂ (λ (us vs : List ℕ). us ++ vs) are.0 one.0 ∙ sym (map-append (λ (q : Tagged). q.0) done (p ∷ [])),
      ap (map (shown stand_of content_of)) g ∙ map-append (shown stand_of content_of) held (mark ∷ []) ∙ ap₂ (λ (us vs : List (Location × Option Document)). us ++ vs) are.1 one.1
          ∙ sym (map-append (look_kept located doc) (places done) (places (p ∷ []))) ∙ ap (map (look_kept located doc)) (sym (map-append (λ (q : Tagged). q.1) done (p ∷ []))),
    ),
    append_assoc done (p ∷ []) later ∙ follows,
  )
  kept_or_not doc false done later all p tag mark out out' held held' one e g are follows = (done, (e ∙ are.0, ap (map (shown stand_of content_of)) g ∙ are.1), follows)

  -- what is kept from one number on, where a pair is next
  ahead : (numbers : List ℕ) (ps qs : List Tagged) (p : Tagged) (number from end : ℕ) → drop number ps ≡ p ∷ qs → end ≡ from + cond (is_next number (drop from numbers)) 1 0
      → kept_by_number number (drop from numbers) (drop number ps) ≡ cond (is_next number (drop from numbers)) (p ∷ kept_by_number (number + 1) (drop end numbers) (drop (number + 1) ps)) (kept_by_number (number + 1) (drop end numbers) (drop (number + 1) ps))
  ahead numbers ps qs p number from end is goes =
      let next_number : suc number ≡ number + 1 = omega arith in
      ap (kept_by_number number (drop from numbers)) is
      ∙ ap (λ (ks : List Tagged). cond (is_next number (drop from numbers)) (p ∷ ks) ks)
      (ap₂ (kept_by_number (suc number)) (after_past number from end numbers goes) (left_after ps qs p number is) ∙ ap (λ n. kept_by_number n (drop end numbers) (drop (number + 1) ps)) next_number)

  -- what is next of the pairs
  pub next_of : (doc : Document) (ps : List Tagged) (tags : List ℕ) (marks : List M) (number tag : ℕ) (mark : M) (left_tags : List ℕ) (left_marks : List M) → ArePairs located stand_of content_of doc ps tags marks → drop number tags ≡ tag ∷ left_tags → drop number marks ≡ mark ∷ left_marks
      → (p : Tagged) × (qs : List Tagged) × (drop number ps ≡ p ∷ qs) × ArePairs located stand_of content_of doc (p ∷ []) (tag ∷ []) (mark ∷ [])
  next_of doc ps tags marks number tag mark left_tags left_marks are first_tag first_mark =
      next_pair doc (drop number ps) tag mark left_tags left_marks (sym first_tag ∙ ap (drop number) are.0 ∙ drop-map (λ (p : Tagged). p.0) number ps)
      (ap (map (shown stand_of content_of)) (sym first_mark) ∙ sym (drop-map (shown stand_of content_of) number marks) ∙ ap (drop number) are.1 ∙ drop-map (look_kept located doc) number (places ps) ∙ ap (map (look_kept located doc)) (drop-map (λ (p : Tagged). p.1) number ps))

  pub keep_next : (doc : Document) (numbers : List ℕ) (ps : List Tagged) (tags : List ℕ) (marks : List M) (number from end tag : ℕ) (mark : M) (left_tags : List ℕ) (left_marks : List M) (out out' : List ℕ) (held held' : List M)
      → ArePairs located stand_of content_of doc ps tags marks → drop number tags ≡ tag ∷ left_tags → drop number marks ≡ mark ∷ left_marks → end ≡ from + cond (is_next number (drop from numbers)) 1 0
      → out' ≡ cond (ltb from end) (out ++ tag ∷ []) out → held' ≡ cond (ltb from end) (held ++ mark ∷ []) held
      → KeptSoFar doc numbers ps number from out held → KeptSoFar doc numbers ps (number + 1) end out' held'
  keep_next doc numbers ps tags marks number from end tag mark left_tags left_marks out out' held held' are first_tag first_mark goes more_tags more_marks before =
      let next = next_of doc ps tags marks number tag mark left_tags left_marks are first_tag first_mark in
      let test = is_past (is_next number (drop from numbers)) from end goes in
      kept_or_not doc (is_next number (drop from numbers)) before.0 (kept_by_number (number + 1) (drop end numbers) (drop (number + 1) ps)) (kept_by_number 0 numbers ps) next.0 tag mark out out' held held' next.3 (more_tags ∙ ap (λ t. cond t (out ++ tag ∷ []) out) test)
      (more_marks ∙ ap (λ t. cond t (held ++ mark ∷ []) held) test) before.1 (ap (λ (qs : List Tagged). before.0 ++ qs) (sym (ahead numbers ps next.1 next.0 number from end next.2 goes)) ∙ before.2)

  pub keep_done : (doc : Document) (numbers : List ℕ) (ps : List Tagged) (number from : ℕ) (tags : List ℕ) (marks : List M) → length ps ≤ number → KeptSoFar doc numbers ps number from tags marks → ArePairs located stand_of content_of doc (kept_by_number 0 numbers ps) tags marks
  keep_done doc numbers ps number from tags marks over before =
      let none : drop number ps ≡ [] = drop_of_length-le ps {i = number} over in
      let whole : before.0 ≡ kept_by_number 0 numbers ps = sym (append-nil before.0) ∙ ap (λ (qs : List Tagged). before.0 ++ kept_by_number number (drop from numbers) qs) (sym none) ∙ before.2 in
      (before.1.0 ∙ ap tags_of whole, before.1.1 ∙ ap (λ (qs : List Tagged). map (look_kept located doc) (places qs)) whole)

  pub same_length : (passes : Bool) (tag : ℕ) (mark : M) (out out' : List ℕ) (held held' : List M) → out' ≡ cond passes (out ++ tag ∷ []) out → held' ≡ cond passes (held ++ mark ∷ []) held → length out ≡ length held → length out' ≡ length held'
  same_length true tag mark out out' held held' e g h = ap length e ∙ length-append out (tag ∷ []) ∙ ap (λ n. n + 1) h ∙ sym (ap length g ∙ length-append held (mark ∷ []))
  same_length false tag mark out out' held held' e g h = ap length e ∙ h ∙ sym (ap length g)

  pub all_gone : (doc : Document) (ps : List Tagged) (marks rest : List M) (number : ℕ) → length rest ≡ 0 → rest ≡ drop number marks → MarksStandAt located stand_of content_of doc (places ps) marks → length ps ≤ number
  all_gone doc ps marks rest number none left stand =
      let one = length-marks located stand_of content_of doc (places ps) marks stand in
      let two : length (places ps) ≡ length ps = simp length-map in
      let over : length marks - number ≡ 0 = sym (length-drop number marks) ∙ ap length (sym left) ∙ none in
      omega (arith, over, one, two)
