-- A token stays the first one where what follows it is changed to something that ends it, too.
use Rattle.std.proofs.Common.{◌≡◌, ◌<◌, ◌+◌, ℕ, suc, Bool, true, false, not, List, [], ◌∷◌, ◌++◌, length, take, Option, Some, None, cond, refl, sym, subst, ap, ◌∙◌, arith}
use Rattle.std.specs.Prelude.{option_map, ◌==◌, if◌then◌else◌}
use Rattle.std.specs.Char.{is_whitespace}
use Rattle.std.specs.List.{prefix_len}
use Rattle.std.proofs.lemmas.Bool.{eqb-true}
use Rattle.std.proofs.Math.Seq.{take-append_seam}
use Rattle.jsonpath_paths.specs.text.Characters.{dollar, is_no_stop, goes_on}
use Rattle.jsonpath_paths.specs.token.Kinds.{closed}
use Rattle.jsonpath_paths.specs.token.Reading.{closing, quoted_lexeme, dollar_word, two_characters, optional_equals, blanks_or_word, single_character_kind, by_single_character, operator_blanks_or_word, first}
use Rattle.jsonpath_paths.specs.declared.token.tokens.Kind.{Kind}
use Rattle.jsonpath_paths.specs.declared.token.tokens.Kind.TheVariants as k
use Rattle.jsonpath_paths.proofs.token.FoundLemmas.{closing_closed}
use Rattle.jsonpath_paths.proofs.token.LongestLemmas.{closed_covers}
use Rattle.jsonpath_paths.proofs.parser.SoundLemmas.{some_same}

-- the characters end, or the first one fails the test
abbrev pub ends : (ℕ → Bool) → List ℕ → Bool
ends test [] = true
ends test (c ∷ cs) = not (test c)

abbrev pub is_equals : ℕ → Bool
is_equals c = c == 61

-- the tests by which the kinds of token go on that may be longer than they are
pub data GoesOn : Kind → (ℕ → Bool) → Type 0 where
  dollar_word_on : GoesOn k.Key is_no_stop
  dollar_on : GoesOn k.Absolute is_no_stop
  word_on : GoesOn k.Key goes_on
  blanks_on : GoesOn k.Whitespace is_whitespace
  greater_on : GoesOn k.Greater is_equals
  little_on : GoesOn k.Little is_equals

-- what ends a token of the kind in the one place ends it in the other
abbrev pub EndsAlike : Kind → List ℕ → List ℕ → Type 0
EndsAlike kind v w = (test : ℕ → Bool) → GoesOn kind test → ends test v ≡ true → ends test w ≡ true

prefix_ends : (test : ℕ → Bool) (us v w : List ℕ) → prefix_len test (us ++ v) ≡ length us → (ends test v ≡ true → ends test w ≡ true) → prefix_len test (us ++ w) ≡ length us
prefix_ends test [] v w h e = none w (e (ended v h))
  where
    ended : (v : List ℕ) → prefix_len test v ≡ 0 → ends test v ≡ true
    ended v h = grind arith

    none : (w : List ℕ) → ends test w ≡ true → prefix_len test w ≡ 0
    none w h = grind arith
prefix_ends test (u ∷ us) v w h e = by_test (test u) h (λ i. prefix_ends test us v w i e)
  where
    by_test : (b : Bool) → cond b (1 + prefix_len test (us ++ v)) 0 ≡ suc (length us) → (prefix_len test (us ++ v) ≡ length us → prefix_len test (us ++ w) ≡ length us) → cond b (1 + prefix_len test (us ++ w)) 0 ≡ suc (length us)
    by_test b h more = grind arith

-- it is a token of the kind and of so many characters
abbrev pub IsAt : Kind → ℕ → Option (Kind × ℕ) → Type 0
IsAt kind n o = o ≡ Some (kind, n)

pair_is : (kind other : Kind) (n m : ℕ) → IsAt other m (Some (kind, n)) → (kind ≡ other) × (n ≡ m)
pair_is kind other n m h = let e : (let x : Kind × ℕ = (kind, n) in let y : Kind × ℕ = (other, m) in x ≡ y) = some_same (kind, n) (other, m) h in (ap (λ (z : Kind × ℕ). z.0) e, ap (λ (z : Kind × ℕ). z.1) e)

module _ (us v w : List ℕ) (kind : Kind) (alike : EndsAlike kind v w) where
  abbrev Is : Option (Kind × ℕ) → Type 0
  Is o = IsAt kind (suc (length us)) o

  -- the one answer, where the other is it
  by_either : (b : Bool) (x x' y y' : Option (Kind × ℕ)) → (Is x → Is x') → (Is y → Is y') → Is (cond b x y) → Is (cond b x' y')
  by_either b x x' y y' f g h = grind arith

  dollar_ends : Is (dollar_word (us ++ v)) → Is (dollar_word (us ++ w))
  dollar_ends h = by_none (prefix_len is_no_stop (us ++ v) == 0) refl h
    where
      go_on : prefix_len is_no_stop (us ++ v) ≡ length us → GoesOn kind is_no_stop → Is (dollar_word (us ++ w))
      go_on e may = ap {B = Option (Kind × ℕ)} (λ n. Some (if n == 0 then (k.Absolute, 1) else (k.Key, 1 + n))) (prefix_ends is_no_stop us v w e (alike is_no_stop may) ∙ sym e) ∙ h

      by_none : (b : Bool) → (prefix_len is_no_stop (us ++ v) == 0) ≡ b → Is (Some (cond b (k.Absolute, 1) (k.Key, 1 + prefix_len is_no_stop (us ++ v)))) → Is (dollar_word (us ++ w))
      by_none true e i =
          let p = pair_is k.Absolute kind 1 (suc (length us)) i in
          go_on (omega (arith, eqb-true (prefix_len is_no_stop (us ++ v)) 0 e, p.1)) (subst (λ x. GoesOn x is_no_stop) p.0 dollar_on)
      by_none false e i =
          let p = pair_is k.Key kind (1 + prefix_len is_no_stop (us ++ v)) (suc (length us)) i in
          go_on (omega (arith, p.1)) (subst (λ x. GoesOn x is_no_stop) p.0 dollar_word_on)

  quoted_ends : (own : Kind) (quote : ℕ) → Is (quoted_lexeme own quote (us ++ v)) → Is (quoted_lexeme own quote (us ++ w))
  quoted_ends own quote h = by_closing (closing quote (us ++ v)) refl h
    where
      by_closing : (o : Option ℕ) → closing quote (us ++ v) ≡ o → Is (option_map (λ n. (own, 1 + n)) o) → Is (quoted_lexeme own quote (us ++ w))
      by_closing None e i = cc i
      by_closing (Some n) e i =
          let p = pair_is own kind (1 + n) (suc (length us)) i in
          let size : n ≡ length us = omega (arith, p.1) in
          let here : closed quote us ≡ true = ap (closed quote) (sym (take-append_seam us v) ∙ ap (λ m. take m (us ++ v)) (sym size)) ∙ closing_closed quote n (us ++ v) e in
          ap {B = Option (Kind × ℕ)} (λ o. option_map (λ n. (own, 1 + n)) o) (closed_covers quote us w here ∙ ap Some (sym size)) ∙ i

abbrev IsOf : List ℕ → Kind → Option (Kind × ℕ) → Type 0
IsOf us kind o = IsAt kind (suc (length us)) o

two_ends : (us v w : List ℕ) (kind own : Kind) (second : ℕ) → IsOf us kind (two_characters own second (us ++ v)) → IsOf us kind (two_characters own second (us ++ w))
two_ends (u ∷ us) v w kind own second h = h
two_ends [] [] w kind own second h = cc h
two_ends [] (c ∷ cs) w kind own second h = grind arith

equals_ends : (us v w : List ℕ) (kind own with_equal : Kind) → GoesOn own is_equals → EndsAlike kind v w → IsOf us kind (optional_equals own with_equal (us ++ v)) → IsOf us kind (optional_equals own with_equal (us ++ w))
equals_ends (u ∷ us) v w kind own with_equal may alike h = h
equals_ends [] v w kind own with_equal may alike h = none w (alike is_equals (subst (λ x. GoesOn x is_equals) (ended v h).0 may) (ended v h).1)
  where
    ended : (v : List ℕ) → IsAt kind 1 (optional_equals own with_equal v) → (own ≡ kind) × (ends is_equals v ≡ true)
    ended [] h = ((pair_is own kind 1 1 h).0, refl)
    ended (c ∷ cs) h = by_test (c == 61) h
      where
        by_test : (b : Bool) → IsAt kind 1 (cond b (Some (with_equal, 2)) (Some (own, 1))) → (own ≡ kind) × (not b ≡ true)
        by_test true h = let p = pair_is with_equal kind 2 1 h in absurd (omega (arith, p.1))
        by_test false h = ((pair_is own kind 1 1 h).0, refl)

    none : (w : List ℕ) → ends is_equals w ≡ true → IsAt kind 1 (optional_equals own with_equal w)
    none w e = grind (arith, ended)

module _ (us v w : List ℕ) (kind : Kind) (alike : EndsAlike kind v w) where
  run_ends : (c : ℕ) → IsOf us kind (blanks_or_word c (us ++ v)) → IsOf us kind (blanks_or_word c (us ++ w))
  run_ends c h = by_blank (is_whitespace c) h
    where
      by_blank : (b : Bool) → IsOf us kind (Some (cond b (k.Whitespace, 1 + prefix_len is_whitespace (us ++ v)) (k.Key, 1 + prefix_len goes_on (us ++ v))))
          → IsOf us kind (Some (cond b (k.Whitespace, 1 + prefix_len is_whitespace (us ++ w)) (k.Key, 1 + prefix_len goes_on (us ++ w))))
      by_blank true i =
          let p = pair_is k.Whitespace kind (1 + prefix_len is_whitespace (us ++ v)) (suc (length us)) i in
          let e : prefix_len is_whitespace (us ++ v) ≡ length us = omega (arith, p.1) in
          ap {B = Option (Kind × ℕ)} (λ n. Some (k.Whitespace, 1 + n)) (prefix_ends is_whitespace us v w e (alike is_whitespace (subst (λ x. GoesOn x is_whitespace) p.0 blanks_on)) ∙ sym e) ∙ i
      by_blank false i =
          let p = pair_is k.Key kind (1 + prefix_len goes_on (us ++ v)) (suc (length us)) i in
          let e : prefix_len goes_on (us ++ v) ≡ length us = omega (arith, p.1) in
          ap {B = Option (Kind × ℕ)} (λ n. Some (k.Key, 1 + n)) (prefix_ends goes_on us v w e (alike goes_on (subst (λ x. GoesOn x goes_on) p.0 word_on)) ∙ sym e) ∙ i

  operator_ends : (c : ℕ) → IsOf us kind (operator_blanks_or_word c (us ++ v)) → IsOf us kind (operator_blanks_or_word c (us ++ w))
  operator_ends c =
      by_either us v w kind alike (c == 61) _ _ _ _ (two_ends us v w kind k.Equal 61)
      (by_either us v w kind alike (c == 33) _ _ _ _ (two_ends us v w kind k.NotEqual 61)
      (by_either us v w kind alike (c == 38) _ _ _ _ (two_ends us v w kind k.And 38)
      (by_either us v w kind alike (c == 124) _ _ _ _ (two_ends us v w kind k.Or 124)
      (by_either us v w kind alike (c == 62) _ _ _ _ (equals_ends us v w kind k.Greater k.GreaterOrEqual greater_on alike)
      (by_either us v w kind alike (c == 60) _ _ _ _ (equals_ends us v w kind k.Little k.LittleOrEqual little_on alike) (run_ends c))))))

  first_ends : (c : ℕ) → first (c ∷ (us ++ v)) ≡ Some (kind, suc (length us)) → first (c ∷ (us ++ w)) ≡ Some (kind, suc (length us))
  unfolding first
  first_ends c h = by_single (single_character_kind c) h
    where
      by_single : (o : Option Kind) → IsOf us kind (by_single_character o c (us ++ v)) → IsOf us kind (by_single_character o c (us ++ w))
      by_single (Some own) h = h
      by_single None h =
          by_either us v w kind alike (c == dollar) _ _ _ _ (dollar_ends us v w kind alike)
          (by_either us v w kind alike (c == 34) _ _ _ _ (quoted_ends us v w kind alike k.DoubleQuoted 34)
          (by_either us v w kind alike (c == 39) _ _ _ _ (quoted_ends us v w kind alike k.SingleQuoted 39) (operator_ends c))) h

-- the first token stays so
pub first_stays : (u v w : List ℕ) (kind : Kind) → 0 < length u → EndsAlike kind v w → first (u ++ v) ≡ Some (kind, length u) → first (u ++ w) ≡ Some (kind, length u)
first_stays [] v w kind some alike h = absurd (omega arith)
first_stays (c ∷ us) v w kind some alike h = first_ends us v w kind alike c h
