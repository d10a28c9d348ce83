-- Two conditions in parentheses and a connective select the same list in both orders.
use Rattle.std.proofs.Common.{◌≡◌, ◌+◌, ◌||◌, Bool, false, ℕ, List, [], ◌∷◌, map, inl, refl, sym, ap, ap₂, ◌∙◌, filter_map, filter, if◌then◌else◌, IsUtf8, chars, encode_utf8_all}
use Rattle.std.proofs.Math.Bool.{or_comm}
use Rattle.jsonpath_nodes.specs.document.Document.{Document}
use Rattle.jsonpath_paths.specs.tree.Alike.{IsSameAt, AreSameAt, AlikeToken, same_key, same_keys, AlikePath, alike_path, AlikeSteps, alike_end, alike_step, AlikeInner, alike_plain, alike_filter, AlikeCondition, alike_lone, alike_compare, alike_join, AlikeTerm, alike_at_path, alike_literal}
use Rattle.jsonpath_paths.specs.tree.Joined.{filter_text, joined_text, filter_path, JoinsSides}
use Rattle.jsonpath_paths.specs.text.Spans.{IsSpan, slice_at}
use Rattle.jsonpath_paths.specs.Spelling.{Spells, IsInGrammar}
use Rattle.jsonpath_paths.specs.text.Characters.{bytes_at, name_of}
use Rattle.jsonpath_paths.specs.tree.Tree.{Path, path, PathSteps, no_steps, step_then, Inner, Condition, join, Term, is_comparison}
use Rattle.jsonpath_paths.specs.tree.Tree as tree
use Rattle.jsonpath_paths.specs.declared.text.str_reader.StrRange.{StrRange}
use Rattle.jsonpath_paths.specs.declared.token.tokens.FilterToken.{FilterToken}
use Rattle.jsonpath_paths.specs.declared.token.tokens.ParseToken.{ParseToken}
use Rattle.jsonpath_nodes.specs.place.Location.{Location, at}
use Rattle.jsonpath_nodes.specs.compare.Comparisons.{text}
use Rattle.jsonpath_nodes.specs.step.Steps.{named, listed, flattened}
use Rattle.jsonpath_select.specs.SelectionLaws.{IsReordered, AreReordered, IsReorderedInner, IsReorderedCondition, IsReorderedTerm, LocationsInBothOrders, ValuesInBothOrders}
use Rattle.jsonpath_select.specs.Meaning.{sel, holds, candidates, has_own_step}
use Rattle.jsonpath_select.specs.Parts.{name_at, plain_of, literals, joined}
use Rattle.jsonpath_select.proofs.answer.ReorderedLemmas.{joined_swap, same_own, reordered_holds}
use Rattle.jsonpath_select.proofs.answer.SliceLemmas.{at_boundary}

-- ---- trees that are the same elsewhere

slice_is_bytes : (source : List ℕ) (s : StrRange) → IsSpan source s → slice_at source s ≡ bytes_at source s
unfolding slice_at
slice_is_bytes source s span = rw (at_boundary source s.pos span.start, at_boundary source (s.pos + s.offset) span.end) refl

module _ (s t : List ℕ) where
  same_name : (a b : StrRange) → IsSameAt s t a b → name_at s a ≡ name_at t b
  same_name a b h = ap (λ bs. encode_utf8_all (name_of (chars bs))) (slice_is_bytes s a h.in_first ∙ h.bytes ∙ sym (slice_is_bytes t b h.in_second))

  same_names : (xs ys : List StrRange) → AreSameAt s t xs ys → map (name_at s) xs ≡ map (name_at t) ys
  same_names [] [] h = refl
  same_names [] (y ∷ ys) h = absurd h
  same_names (x ∷ xs) [] h = absurd h
  same_names (x ∷ xs) (y ∷ ys) h = ap₂ (λ (k : List ℕ) (ks : List (List ℕ)). k ∷ ks) (same_name x y h.0) (same_names xs ys h.1)

  same_plain : {x y : ParseToken} → AlikeToken s t x y → plain_of s x ≡ plain_of t y
  same_plain (same_key {s = a} {r = b} h) = ap named (same_name a b h)
  same_plain (same_keys {ss = xs} {rs = ys} h) = ap listed (same_names xs ys h)
  same_plain _ = refl

  same_literals : {x y : ParseToken} → AlikeToken s t x y → literals s x ≡ literals t y
  same_literals (same_key {s = a} {r = b} h) = ap (λ k. text k ∷ []) (same_name a b h)
  same_literals _ = refl

  mutual
    path_as_is : {p q : Path} → AlikePath s t p q → IsReordered s t p q
    path_as_is (alike_path h) = (refl, steps_as_is h)

    steps_as_is : {ss rs : PathSteps} → AlikeSteps s t ss rs → AreReordered s t ss rs
    steps_as_is alike_end = tt
    steps_as_is (alike_step i h) = (refl, inner_as_is i, steps_as_is h)

    inner_as_is : {i j : Inner} → AlikeInner s t i j → IsReorderedInner s t i j
    inner_as_is (alike_plain h) = same_plain h
    inner_as_is (alike_filter h) = condition_as_is h

    condition_as_is : {f g : Condition} → AlikeCondition s t f g → IsReorderedCondition s t f g
    condition_as_is (alike_lone h) = path_as_is h
    condition_as_is (alike_compare a b) = (refl, term_as_is a, term_as_is b)
    condition_as_is (alike_join a b) = (refl, inl (condition_as_is a, condition_as_is b))

    term_as_is : {x y : Term} → AlikeTerm s t x y → IsReorderedTerm s t x y
    term_as_is (alike_at_path h) = path_as_is h
    term_as_is (alike_literal h) = same_literals h

-- ---- the two texts

condition_of : Path → Condition → Condition
condition_of (path absolute no_steps) other = other
condition_of (path absolute (step_then leaves bracket (tree.plain token) rest)) other = other
condition_of (path absolute (step_then leaves bracket (tree.filter f) rest)) other = f

one_condition : (f g : Condition) → filter_path f ≡ filter_path g → f ≡ g
unfolding condition_of
one_condition f g h = ap (λ p. condition_of p f) h

-- a condition means the same in two texts, if in both it is the one that a third text has
module _ (source s t : List ℕ) (f g f' g' : Condition) (same : f ≡ g) (first : AlikeCondition source s f f') (second : AlikeCondition source t g g') where
  both_own : has_own_step f' ≡ has_own_step g'
  both_own = sym (same_own source s f f' (condition_as_is source s first)) ∙ ap has_own_step same ∙ same_own source t g g' (condition_as_is source t second)

  both_hold : (doc : Document) (c : Location) → holds s doc f' c ≡ holds t doc g' c
  both_hold doc c =
      sym (reordered_holds source s doc f f' (condition_as_is source s first) c) ∙ ap (λ x. holds source doc x c) same ∙ reordered_holds source t doc g g' (condition_as_is source t second) c

same_filter : (s t : List ℕ) (doc : Document) (f g : Condition) → has_own_step f ≡ has_own_step g → ((c : Location) → holds s doc f c ≡ holds t doc g c) → sel s doc (filter_path f) ≡ sel t doc (filter_path g)
same_filter s t doc f g own hold =
    let base : List Location = [] ∷ [] in
    (λ i. filter (λ c. hold c i) (candidates doc f base))
    ∙ ap (λ (b : Bool). filter (λ c. holds t doc g c) (if b then flattened doc base else base)) own

module _ (one_tree_per_text : (text : List ℕ) (p q : Path) → Spells text p → Spells text q → p ≡ q)
    (connective_joins_conditions : (o : FilterToken) (a b : List ℕ) (p : Path) → is_comparison o ≡ false → IsUtf8 a → IsUtf8 b → IsInGrammar (filter_text a) → IsInGrammar (filter_text b) → Spells (joined_text o a b) p
    → JoinsSides o a b p) where
  same_selection : (o : FilterToken) (a b : List ℕ) (doc : Document) (p q : Path) → is_comparison o ≡ false → IsUtf8 a → IsUtf8 b → IsInGrammar (filter_text a) → IsInGrammar (filter_text b)
      → Spells (joined_text o a b) p → Spells (joined_text o b a) q → sel (joined_text o a b) doc p ≡ sel (joined_text o b a) doc q
  same_selection o a b doc p q con ua ub ga gb hp hq =
      let s : List ℕ = joined_text o a b in
      let t : List ℕ = joined_text o b a in
      let x = connective_joins_conditions o a b p con ua ub ga gb hp in
      let y = connective_joins_conditions o b a q con ub ua gb ga hq in
      let one = one_condition x.left_alone y.right_alone (one_tree_per_text (filter_text a) _ _ x.spells_left y.spells_right) in
      let two = one_condition x.right_alone y.left_alone (one_tree_per_text (filter_text b) _ _ x.spells_right y.spells_left) in
      let own : has_own_step (join o x.left x.right) ≡ has_own_step (join o y.left y.right) =
      ap₂ (λ (m n : Bool). m || n) (both_own (filter_text a) s t _ _ x.left y.right one x.same_left y.same_right) (both_own (filter_text b) s t _ _ x.right y.left two x.same_right y.same_left)
      ∙ or_comm (has_own_step y.right) (has_own_step y.left) in
      let hold : (c : Location) → holds s doc (join o x.left x.right) c ≡ holds t doc (join o y.left y.right) c =
      λ c. ap₂ (joined o) (both_hold (filter_text a) s t _ _ x.left y.right one x.same_left y.same_right doc c) (both_hold (filter_text b) s t _ _ x.right y.left two x.same_right y.same_left doc c)
      ∙ joined_swap o (holds t doc y.right c) (holds t doc y.left c) in
      ap (sel s doc) x.is ∙ same_filter s t doc (join o x.left x.right) (join o y.left y.right) own hold ∙ sym (ap (sel t doc) y.is)

  pub locations_in_both_orders : LocationsInBothOrders
  locations_in_both_orders o a b doc ls ms con ua ub ga gb first second =
      first.holds ∙ same_selection o a b doc first.path second.path con ua ub ga gb first.spelled second.spelled ∙ sym second.holds

  pub values_in_both_orders : ValuesInBothOrders
  values_in_both_orders o a b doc xs ys con ua ub ga gb first second =
      first.holds ∙ ap (filter_map (at doc)) (same_selection o a b doc first.path second.path con ua ub ga gb first.spelled second.spelled) ∙ sym second.holds
