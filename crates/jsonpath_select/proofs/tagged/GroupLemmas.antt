-- The runs of one tag in a list of pairs, as places of two lists.
use Rattle.std.proofs.Common.{Option, ◌≡◌, ℕ, suc, ◌+◌, ◌-◌, ◌==◌, ◌<◌, ◌≤◌, Bool, true, false, List, [], ◌∷◌, ◌++◌, map, length, replicate, take, drop, get_or, cond, refl, sym, ap, ap₂, ◌∙◌, append_assoc, append-nil, drop_of_length-le, arith, length-append}
use Rattle.std.specs.List.{prefix_len}
use Rattle.std.proofs.lemmas.List.{map-append, drop-map, take-map, drop-drop, length-map, length-replicate}
use Rattle.jsonpath_nodes.specs.document.Document.{Document}
use Rattle.jsonpath_nodes.specs.place.Location.{Location}
use Rattle.jsonpath_select.specs.plan.Machine.{Tagged, tagged, places, front_of_tag, behind_tag, each_tag, spread}
use Rattle.jsonpath_select.specs.plan.Shown.{tags_of, MarkStandsAt, ArePairs}
use Rattle.jsonpath_nodes.specs.place.Mark.{shown, look_kept, MarksStandAt}
use Rattle.jsonpath_select.proofs.walk.MarkLemmas.{length-marks, left_marks}

one_more : (n : ℕ) → 1 + n ≡ suc n
one_more n = omega arith

abbrev pub run : ℕ → List Tagged → ℕ
run t ps = prefix_len (λ u. u == t) (tags_of ps)

pub front_of_tag-run : (t : ℕ) (ps : List Tagged) → front_of_tag t ps ≡ take (run t ps) (places ps)
front_of_tag-run t [] = refl
front_of_tag-run t (p ∷ ps) = by (p.0 == t) (front_of_tag-run t ps)
  where
    by : (b : Bool) → front_of_tag t ps ≡ take (run t ps) (places ps) → cond b (p.1 ∷ front_of_tag t ps) [] ≡ take (cond b (1 + run t ps) 0) (p.1 ∷ places ps)
    by true later = ap (λ (ls : List Location). p.1 ∷ ls) later ∙ ap (λ n. take n (p.1 ∷ places ps)) (sym (one_more (run t ps)))
    by false later = refl

pub behind_tag-run : (t : ℕ) (ps : List Tagged) → behind_tag t ps ≡ drop (run t ps) ps
behind_tag-run t [] = refl
behind_tag-run t (p ∷ ps) = by (p.0 == t) (behind_tag-run t ps)
  where
    by : (b : Bool) → behind_tag t ps ≡ drop (run t ps) ps → cond b (behind_tag t ps) (p ∷ ps) ≡ drop (cond b (1 + run t ps) 0) (p ∷ ps)
    by true later = later ∙ ap (λ n. drop n (p ∷ ps)) (sym (one_more (run t ps)))
    by false later = refl

pub places_tagged : (t : ℕ) (ls : List Location) → places (tagged t ls) ≡ ls
places_tagged t [] = refl
places_tagged t (l ∷ ls) = ap (λ (ms : List Location). l ∷ ms) (places_tagged t ls)

pub tags_tagged : (t : ℕ) (ls : List Location) → tags_of (tagged t ls) ≡ replicate (length ls) t
tags_tagged t [] = refl
tags_tagged t (l ∷ ls) = ap (λ (ts : List ℕ). t ∷ ts) (tags_tagged t ls)

-- tags filled up to as many as there are marks, as one for each that was found
pub filled : (t count n : ℕ) (tags : List ℕ) {tags' : List ℕ} → count ≡ length tags + n → tags' ≡ tags ++ replicate (count - length tags) t → tags' ≡ tags ++ replicate n t
filled t count n tags all fill = let left : count - length tags ≡ n = omega (arith, all) in fill ∙ ap (λ m. tags ++ replicate m t) left

pub paired : (t n : ℕ) (tags tags' : List ℕ) → tags' ≡ tags ++ replicate n t → length tags' ≡ length tags + n
paired t n tags tags' fill = ap length fill ∙ length-append tags (replicate n t) ∙ ap (λ m. length tags + m) (length-replicate n t)

-- ---- for marks of either kind: whether they keep their locations, where they stand, what they hold

module _ {M : Type 0} (located : Bool) (stand_of : M → Location) (content_of : M → Document) where
  -- ---- one tag more

  module _ (doc : Document) (f : List Location → List Location) (ps : List Tagged) where
    -- what is done, and that the rest follows
    abbrev pub Turned : ℕ → ℕ → ℕ → List ℕ → List M → Type 0
    Turned count tag from tags marks = (done : List Tagged) × ArePairs located stand_of content_of doc done tags marks × (done ++ each_tag f tag (count - tag) (drop from ps) ≡ each_tag f 0 count ps)

  -- the slice of the run stands at the locations of the run
  pub run-StandAt : (doc : Document) (t from : ℕ) (ps : List Tagged) (marks : List M) → MarksStandAt located stand_of content_of doc (places ps) marks → MarksStandAt located stand_of content_of doc (front_of_tag t (drop from ps)) (take (run t (drop from ps)) (drop from marks))
  run-StandAt doc t from ps marks h =
      let n = run t (drop from ps) in
      sym (take-map (shown stand_of content_of) n (drop from marks))
      ∙ ap (take n) (sym (drop-map (shown stand_of content_of) from marks) ∙ ap (drop from) h ∙ drop-map (look_kept located doc) from (places ps))
      ∙ take-map (look_kept located doc) n (drop from (places ps))
      ∙ ap (map (look_kept located doc)) (ap (take n) (drop-map (λ (p : Tagged). p.1) from ps) ∙ sym (front_of_tag-run t (drop from ps)))

  gained_count : (held held' : List M) (found : List Location) (doc : Document) (n : ℕ) → length held' ≡ length held + n
      → map (shown stand_of content_of) held' ≡ map (shown stand_of content_of) held ++ map (look_kept located doc) found → n ≡ length found
  gained_count held held' found doc n longer gains =
      let whole : length held' ≡ length held + length found =
      sym (length-map held' (shown stand_of content_of)) ∙ ap length gains ∙ length-append (map (shown stand_of content_of) held) (map (look_kept located doc) found)
      ∙ ap₂ (λ (i j : ℕ). i + j) (length-map held (shown stand_of content_of)) (length-map found (look_kept located doc)) in
      omega (arith, whole, longer)

  -- so many marks more, with one tag
  pub more_pairs : (doc : Document) (tag n : ℕ) (done : List Tagged) (found : List Location) (out out' : List ℕ) (held held' : List M) → ArePairs located stand_of content_of doc done out held
      → length held' ≡ length held + n → out' ≡ out ++ replicate n tag → map (shown stand_of content_of) held' ≡ map (shown stand_of content_of) held ++ map (look_kept located doc) found
      → ArePairs located stand_of content_of doc (done ++ tagged tag found) out' held'
  more_pairs doc tag n done found out out' held held' are longer fill gains =
      let counted : n ≡ length found = gained_count held held' found doc n longer gains in
      let new = tagged tag found in (
        fill ∙ ap₂ (λ (us vs : List ℕ). us ++ vs) are.0 (ap (λ m. replicate m tag) counted ∙ sym (tags_tagged tag found)) ∙ sym (map-append (λ (p : Tagged). p.0) done new),
        gains ∙ ap₂ (λ (us vs : List (Location × Option Document)). us ++ vs) are.1 (ap (map (look_kept located doc)) (sym (places_tagged tag found)))
            ∙ sym (map-append (look_kept located doc) (places done) (places new)) ∙ ap (map (look_kept located doc)) (sym (map-append (λ (p : Tagged). p.1) done new)),
      )

  pub turn_next : (doc : Document) (f : List Location → List Location) (ps : List Tagged) (tags : List ℕ) (marks : List M) (count tag from end n : ℕ) (out out' : List ℕ) (held held' slice : List M)
      → ArePairs located stand_of content_of doc ps tags marks → tag < count → end ≡ from + prefix_len (λ u. u == tag) (drop from tags) → slice ≡ take (end - from) (drop from marks)
      → length held' ≡ length held + n → out' ≡ out ++ replicate n tag
      → ((ls : List Location) → MarksStandAt located stand_of content_of doc ls slice → map (shown stand_of content_of) held' ≡ map (shown stand_of content_of) held ++ map (look_kept located doc) (f ls))
      → Turned doc f ps count tag from out held → Turned doc f ps count (tag + 1) end out' held'
  turn_next doc f ps tags marks count tag from end n out out' held held' slice are below ends is longer fill leads turned =
      let left = drop from ps in
      let k = run tag left in
      let same : prefix_len (λ u. u == tag) (drop from tags) ≡ k = ap (prefix_len (λ u. u == tag)) (ap (drop from) are.0 ∙ drop-map (λ (p : Tagged). p.0) from ps) in
      let at_end : end ≡ from + k = ends ∙ ap (λ m. from + m) same in
      let size : end - from ≡ k = omega (arith, at_end) in
      let found = f (front_of_tag tag left) in
      let gains : map (shown stand_of content_of) held' ≡ map (shown stand_of content_of) held ++ map (look_kept located doc) found =
      leads (front_of_tag tag left) (ap (map (shown stand_of content_of)) (is ∙ ap (λ m. take m (drop from marks)) size) ∙ run-StandAt doc tag from ps marks are.1) in
      let new = tagged tag found in
      let fewer : count - tag ≡ suc (count - (tag + 1)) = omega arith in
      let next_tag : suc tag ≡ tag + 1 = omega arith in
      let rest : each_tag f tag (count - tag) left ≡ new ++ each_tag f (tag + 1) (count - (tag + 1)) (drop end ps) =
      ap (λ m. each_tag f tag m left) fewer
      ∙ ap (λ (qs : List Tagged). new ++ each_tag f (suc tag) (count - (tag + 1)) qs) (behind_tag-run tag left ∙ drop-drop k from ps ∙ ap (λ m. drop m ps) (sym at_end))
      ∙ ap (λ t. new ++ each_tag f t (count - (tag + 1)) (drop end ps)) next_tag in (
        turned.0 ++ new,
        more_pairs doc tag n turned.0 found out out' held held' turned.1 longer fill gains,
        append_assoc turned.0 new (each_tag f (tag + 1) (count - (tag + 1)) (drop end ps)) ∙ ap (λ (qs : List Tagged). turned.0 ++ qs) (sym rest) ∙ turned.2,
      )

  pub turn_done : (doc : Document) (f : List Location → List Location) (ps : List Tagged) (count tag from : ℕ) (tags : List ℕ) (marks : List M) → count ≤ tag
      → Turned doc f ps count tag from tags marks → ArePairs located stand_of content_of doc (each_tag f 0 count ps) tags marks
  turn_done doc f ps count tag from tags marks over turned =
      let none : count - tag ≡ 0 = omega arith in
      let whole : turned.0 ≡ each_tag f 0 count ps = sym (append-nil turned.0) ∙ ap (λ k. turned.0 ++ each_tag f tag k (drop from ps)) (sym none) ∙ turned.2 in
      (turned.1.0 ∙ ap tags_of whole, turned.1.1 ∙ ap (λ (qs : List Tagged). map (look_kept located doc) (places qs)) whole)

  pub turn_begins : (doc : Document) (f : List Location → List Location) (ps : List Tagged) (count : ℕ) → Turned doc f ps count 0 0 [] []
  turn_begins doc f ps count = let all : count - 0 ≡ count = omega arith in ([], (refl, refl), ap (λ k. each_tag f 0 k ps) all)

  -- ---- one candidate more, where each is led by itself

  module _ (doc : Document) (f : Location → List Location) (ls : List Location) where
    -- what is done, and that the rest follows
    abbrev pub Spread : ℕ → List ℕ → List M → Type 0
    Spread i out held = (done : List Tagged) × ArePairs located stand_of content_of doc done out held × (done ++ spread f i (drop i ls) ≡ spread f 0 ls)

    pub spread_next : (i n : ℕ) (marks : List M) (mark : M) (out out' : List ℕ) (held held' : List M) → MarksStandAt located stand_of content_of doc ls marks → mark ≡ get_or marks i mark → i < length marks
        → length held' ≡ length held + n → out' ≡ out ++ replicate n i
        → ((l : Location) → MarkStandsAt located stand_of content_of doc l mark → map (shown stand_of content_of) held' ≡ map (shown stand_of content_of) held ++ map (look_kept located doc) (f l))
        → Spread i out held → Spread (i + 1) out' held'
    spread_next i n marks mark out out' held held' stand is below longer fill leads before =
        let at_i = left_marks located stand_of content_of doc ls marks i mark stand below in
        let l = at_i.0 in
        let new = tagged i (f l) in
        let next : suc i ≡ i + 1 = omega arith in
        let rest : spread f i (drop i ls) ≡ new ++ spread f (i + 1) (drop (i + 1) ls) = ap (spread f i) at_i.2 ∙ ap (λ j. new ++ spread f j (drop j ls)) next in (
          before.0 ++ new,
          more_pairs doc i n before.0 (f l) out out' held held' before.1 longer fill (leads l (ap (shown stand_of content_of) is ∙ at_i.1)),
          append_assoc before.0 new (spread f (i + 1) (drop (i + 1) ls)) ∙ ap (λ (qs : List Tagged). before.0 ++ qs) (sym rest) ∙ before.2,
        )

    pub spread_done : (i : ℕ) (marks : List M) (out : List ℕ) (held : List M) → length marks ≤ i → MarksStandAt located stand_of content_of doc ls marks → Spread i out held → ArePairs located stand_of content_of doc (spread f 0 ls) out held
    spread_done i marks out held over stand before =
        let past : length ls ≤ i = omega (arith, length-marks located stand_of content_of doc ls marks stand) in
        let none : drop i ls ≡ [] = drop_of_length-le ls {i = i} past in
        let whole : before.0 ≡ spread f 0 ls = sym (append-nil before.0) ∙ ap (λ (ks : List Location). before.0 ++ spread f i ks) (sym none) ∙ before.2 in
        (before.1.0 ∙ ap tags_of whole, before.1.1 ∙ ap (λ (qs : List Tagged). map (look_kept located doc) (places qs)) whole)
