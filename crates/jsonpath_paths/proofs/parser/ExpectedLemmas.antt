-- What is reported of the tokens that may come next is what the machine of wants takes.
use Rattle.std.proofs.Common.{◌≡◌, ◌<◌, ◌+◌, ℕ, Bool, true, false, List, [], ◌∷◌, ◌++◌, length, take, get_or, Option, Some, None, refl, sym, ap, ap₂, ◌∙◌, codes, append-nil, arith}
use Rattle.std.proofs.Math.Bool.{and-false, or-false}
use Rattle.std.proofs.lemmas.List.{take_more}
use Rattle.std.specs.Prelude.{◌&&◌, ◌||◌, is_some, if◌then◌else◌}
use Rattle.std.specs.List.{list_any}
use Rattle.std.specs.Option.{option_to_list}
use Rattle.std.proofs.lemmas.List.Folds.{list_any-append}
use Rattle.jsonpath_paths.specs.Expectations.{is_meant}
use Rattle.jsonpath_paths.specs.Literals.{truth_of}
use Rattle.jsonpath_paths.specs.Numbers.{index_of, range_step_of, decimal_of, fraction_of}
use Rattle.jsonpath_paths.specs.token.Kinds.{same_kind}
use Rattle.jsonpath_paths.specs.declared.parser.expected.Expected.{Expected}
use Rattle.jsonpath_paths.specs.declared.parser.expected.Expected.TheVariants.{Token, Index, RangeStep, Literal, Fraction}
use Rattle.jsonpath_paths.specs.declared.parser.expected.TheConstants.{OTHER_KINDS}
use Rattle.jsonpath_paths.specs.declared.token.tokens.Kind.{Kind}
use Rattle.jsonpath_paths.specs.declared.token.tokens.Kind.TheVariants as k
use Rattle.jsonpath_paths.specs.plan.Expecting.{kinds_fed, word_fed, all_fed}
use Rattle.jsonpath_paths.specs.plan.Wants.{Want, blanks, steps, word, after_dot, after_dots, inner, plain, indexes_range_or_names, after_first_index, more_indexes, index, range_to, range_by, range_step, after_name, more_names, condition, part, term, literal, fraction, digits, move, moved, feed, if_word, literal_word}
use Rattle.jsonpath_paths.proofs.parser.SameKindLemmas.{same_kind_true}

-- the words that may come next
data Words : Type 0 where
  no_word every_word indexes range_steps literals fractions : Words

abbrev words_of : List Want → Words
words_of [] = no_word
words_of (blanks ∷ ws) = words_of ws
words_of (steps n ∷ ws) = words_of ws
words_of (after_first_index ∷ ws) = words_of ws
words_of (more_indexes ∷ ws) = words_of ws
words_of (range_by ∷ ws) = words_of ws
words_of (after_name ∷ ws) = words_of ws
words_of (more_names ∷ ws) = words_of ws
words_of (fraction ∷ ws) = words_of ws
words_of (word ∷ ws) = every_word
words_of (after_dot n ∷ ws) = every_word
words_of (after_dots n ∷ ws) = every_word
words_of (inner n ∷ ws) = indexes
words_of (plain ∷ ws) = indexes
words_of (indexes_range_or_names ∷ ws) = indexes
words_of (index ∷ ws) = indexes
words_of (range_to ∷ ws) = indexes
words_of (range_step ∷ ws) = range_steps
words_of (condition n ∷ ws) = literals
words_of (part n ∷ ws) = literals
words_of (term n ∷ ws) = literals
words_of (literal ∷ ws) = literals
words_of (digits ∷ ws) = fractions
words_of (_ ∷ ws) = no_word

abbrev reported : Words → Option Expected
reported no_word = None
reported every_word = Some (Token k.Key)
reported indexes = Some Index
reported range_steps = Some RangeStep
reported literals = Some Literal
reported fractions = Some Fraction

abbrev are : Words → List ℕ → Bool
are no_word w = false
are every_word w = true
are indexes w = is_some (index_of w)
are range_steps w = is_some (range_step_of w)
are literals w = is_some (truth_of w) || is_some (decimal_of w [])
are fractions w = is_some (fraction_of w)

word_taken : (b : Bool) (us ws : List Want) (later : Option (List Want)) → is_some (moved (if_word b us) ws later) ≡ b
word_taken b us ws later = grind arith

literal_taken : (w : List ℕ) (us ws : List Want) (later : Option (List Want)) → is_some (moved (literal_word w us) ws later) ≡ (is_some (truth_of w) || is_some (decimal_of w []))
literal_taken w us ws later = grind arith

digits_behind_zero : (w : List ℕ) → is_some (decimal_of (48 ∷ []) w) ≡ is_some (fraction_of w)
unfolding decimal_of
digits_behind_zero w = grind arith

-- a word is taken that is one of them
word_taken_so : (us : List Want) (w : List ℕ) → is_some (feed us k.Key w) ≡ are (words_of us) w
word_taken_so [] w = refl
word_taken_so (blanks ∷ ws) w = word_taken_so ws w
word_taken_so (steps n ∷ ws) w = word_taken_so ws w
word_taken_so (after_first_index ∷ ws) w = word_taken_so ws w
word_taken_so (more_indexes ∷ ws) w = word_taken_so ws w
word_taken_so (range_by ∷ ws) w = word_taken_so ws w
word_taken_so (after_name ∷ ws) w = word_taken_so ws w
word_taken_so (more_names ∷ ws) w = word_taken_so ws w
word_taken_so (fraction ∷ ws) w = word_taken_so ws w
word_taken_so (inner n ∷ ws) w = word_taken (is_some (index_of w)) _ ws _
word_taken_so (plain ∷ ws) w = word_taken (is_some (index_of w)) _ ws _
word_taken_so (indexes_range_or_names ∷ ws) w = word_taken (is_some (index_of w)) _ ws _
word_taken_so (index ∷ ws) w = word_taken (is_some (index_of w)) _ ws _
word_taken_so (range_to ∷ ws) w = word_taken (is_some (index_of w)) _ ws _
word_taken_so (range_step ∷ ws) w = word_taken (is_some (range_step_of w)) _ ws _
word_taken_so (condition n ∷ ws) w = literal_taken w _ ws _
word_taken_so (part n ∷ ws) w = literal_taken w _ ws _
word_taken_so (term n ∷ ws) w = literal_taken w _ ws _
word_taken_so (literal ∷ ws) w = literal_taken w _ ws _
word_taken_so (digits ∷ ws) w = word_taken (is_some (decimal_of (48 ∷ []) w)) _ ws _ ∙ digits_behind_zero w
word_taken_so (_ ∷ ws) w = refl

-- what is reported by the words tried
abbrev by_tries : Bool → Bool → Bool → Bool → Bool → Option Expected
by_tries a t m p d = if a then Some (Token k.Key) else (if t then Some Literal else (if m then Some Index else (if p then Some RangeStep else (if d then Some Fraction else None))))

words_tried : (c : Words) → by_tries (are c (codes "a")) (are c (codes "true")) (are c (codes "-1")) (are c (codes "+1")) (are c (codes "1")) ≡ reported c
unfolding index_of range_step_of decimal_of fraction_of truth_of
words_tried no_word = refl
words_tried _ = refl

tried : (us : List Want) → word_fed us ≡ reported (words_of us)
tried us = grind (arith, word_taken_so, words_tried)

-- other tokens are taken whatever their bytes are
same_move : (v : Want) (kind : Kind) (w : List ℕ) → (kind ≡ k.Key → ⊥) → move v kind w ≡ move v kind []
same_move v kind w h = grind arith

same_fed : (us : List Want) (kind : Kind) (w : List ℕ) → (kind ≡ k.Key → ⊥) → feed us kind w ≡ feed us kind []
same_fed [] kind w h = refl
same_fed (v ∷ vs) kind w h = ap₂ (λ m o. moved m vs o) (same_move v kind w h) (same_fed vs kind w h)

kinds_meant : (us : List Want) (kind : Kind) (w : List ℕ) (kinds : List Kind) → list_any (λ e. is_meant e kind w) (kinds_fed us kinds) ≡ (list_any (same_kind kind) kinds && is_some (feed us kind []))
kinds_meant us kind w [] = refl
kinds_meant us kind w (other ∷ kinds) = by_kind (same_kind kind other) (is_some (feed us other [])) refl refl (kinds_meant us kind w kinds)
  where
    by_kind : (b c : Bool) → same_kind kind other ≡ b → is_some (feed us other []) ≡ c → list_any (λ e. is_meant e kind w) (kinds_fed us kinds) ≡ (list_any (same_kind kind) kinds && is_some (feed us kind []))
        → list_any (λ e. is_meant e kind w) (if c then Token other ∷ kinds_fed us kinds else kinds_fed us kinds) ≡ ((b || list_any (same_kind kind) kinds) && is_some (feed us kind []))
    by_kind b c e f h = grind (arith, and-false, same_kind_true)

no_word_meant : (c : Words) (kind : Kind) (w : List ℕ) → (kind ≡ k.Key → ⊥) → list_any (λ e. is_meant e kind w) (option_to_list (reported c)) ≡ false
no_word_meant c kind w h = grind arith

-- one kind more is tried
kinds_upon : (us : List Want) (xs ys : List Kind) → kinds_fed us (xs ++ ys) ≡ kinds_fed us xs ++ kinds_fed us ys
kinds_upon us [] ys = refl
kinds_upon us (x ∷ xs) ys = grind (arith, kinds_upon us xs ys)

pub kinds_more : (us : List Want) (kinds : List Kind) (i : ℕ) (d : Kind) (b : Bool) (old new : List Expected) → i < length kinds → old ≡ kinds_fed us (take i kinds) → b ≡ is_some (feed us (get_or kinds i d) [])
    → new ≡ (if b then old ++ Token (get_or kinds i d) ∷ [] else old) → new ≡ kinds_fed us (take (i + 1) kinds)
kinds_more us kinds i d b old new less before fed made =
    made ∙ (by_fed b ∙ (ap₂ (λ es c. es ++ (if c then Token (get_or kinds i d) ∷ [] else [])) before fed
    ∙ (sym (kinds_upon us (take i kinds) (get_or kinds i d ∷ [])) ∙ ap (kinds_fed us) (sym (take_more kinds i d less)))))
  where
    by_fed : (b : Bool) → (if b then old ++ Token (get_or kinds i d) ∷ [] else old) ≡ old ++ (if b then Token (get_or kinds i d) ∷ [] else [])
    by_fed true = refl
    by_fed false = sym (append-nil old)

-- what is reported is what is taken
pub all_meant : (us : List Want) (kind : Kind) (w : List ℕ) → list_any (λ e. is_meant e kind w) (all_fed us OTHER_KINDS) ≡ is_some (feed us kind w)
all_meant us kind w =
    list_any-append (λ e. is_meant e kind w) (kinds_fed us OTHER_KINDS) (option_to_list (word_fed us))
    ∙ (ap₂ (λ a b. a || b) (kinds_meant us kind w OTHER_KINDS) (ap (λ o. list_any (λ e. is_meant e kind w) (option_to_list o)) (tried us)) ∙ by_kind kind)
  where
    other : (kind : Kind) → (kind ≡ k.Key → ⊥) → (is_some (feed us kind []) || list_any (λ e. is_meant e kind w) (option_to_list (reported (words_of us)))) ≡ is_some (feed us kind w)
    other kind h = ap (λ b. is_some (feed us kind []) || b) (no_word_meant (words_of us) kind w h) ∙ (or-false (is_some (feed us kind [])) ∙ ap is_some (sym (same_fed us kind w h)))

    by_kind : (kind : Kind) → ((list_any (same_kind kind) OTHER_KINDS && is_some (feed us kind [])) || list_any (λ e. is_meant e kind w) (option_to_list (reported (words_of us)))) ≡ is_some (feed us kind w)
    by_kind kind = grind (arith, word_taken_so, other)
