-- Tokens that may come one after the other are tokens of their own: none of them is longer by the one behind it.
use Rattle.std.proofs.Common.{◌≡◌, ℕ, Bool, true, false, not, List, [], ◌∷◌, ◌++◌, Some, None, refl, arith}
use Rattle.std.specs.Prelude.{◌&&◌, ◌||◌}
use Rattle.std.proofs.lemmas.Bool.{and_from, and_parts}
use Rattle.jsonpath_paths.specs.declared.token.tokens.Kind.{Kind}
use Rattle.jsonpath_paths.specs.declared.token.tokens.Kind.TheVariants as k
use Rattle.jsonpath_paths.specs.plan.Wants.{Want, Reaction, dollar, blanks, steps, step, word, after_dot, after_dots, close, more_indexes, index, range_to, range_step, after_name, more_names, quoted, open_group, condition, part, candidate_tail, behind_blank, tail, sign, term, literal, fraction, digits, move, moved, feed, takes, passes, refuses, if_word, literal_word, may_pass}
use Rattle.jsonpath_paths.proofs.parser.SoundLemmas.{some_same}
use Rattle.jsonpath_paths.proofs.parser.WantsLemmas.{real, all_real}

-- what a token may be longer by: a word or a quote, blanks, or an equals sign
pub data Touch : Type 0 where
  words white equals : Touch

abbrev pub starts : Touch → Kind → Bool
starts words k.Key = true
starts words k.Absolute = true
starts words k.DoubleQuoted = true
starts words k.SingleQuoted = true
starts white k.Whitespace = true
starts equals k.Equal = true
starts _ _ = false

abbrev pub runs_on : Touch → Kind → Bool
runs_on words k.Key = true
runs_on words k.Absolute = true
runs_on white k.Whitespace = true
runs_on equals k.Greater = true
runs_on equals k.Little = true
runs_on _ _ = false

-- the wants that may take such a token
abbrev opens : Touch → Want → Bool
opens white blanks = true
opens white more_indexes = true
opens white after_name = true
opens white (condition n) = true
opens white (candidate_tail n) = true
opens white _ = false
opens equals (candidate_tail n) = true
opens equals (behind_blank n) = true
opens equals sign = true
opens equals _ = false
opens words range_to = true
opens words range_step = true
opens words (step n) = false
opens words close = false
opens words open_group = false
opens words (candidate_tail n) = false
opens words (behind_blank n) = false
opens words (tail n) = false
opens words sign = false
opens words v = not (may_pass v)

-- no such token may come next; the first test says so of what is beneath
abbrev quiet_over : Bool → Touch → List Want → Bool
quiet_over b t [] = b
quiet_over b t (v ∷ vs) = not (opens t v) && (not (may_pass v) || quiet_over b t vs)

abbrev pub quiet : Touch → List Want → Bool
quiet = quiet_over true

-- what a want needs of those beneath it, as the tokens that it takes last may be longer
abbrev needs : Touch → Want → Bool
needs equals sign = true
needs equals _ = false
needs _ close = false
needs _ quoted = false
needs _ open_group = false
needs _ (condition n) = false
needs _ (part n) = false
needs _ (candidate_tail n) = false
needs _ (behind_blank n) = false
needs _ (tail n) = false
needs _ sign = false
needs words blanks = false
needs words after_name = false
needs words more_names = false
needs words _ = true
needs white dollar = false
needs white (steps n) = false
needs white (step n) = false
needs white word = false
needs white (after_dot n) = false
needs white (after_dots n) = false
needs white index = false
needs white (term n) = false
needs white literal = false
needs white fraction = false
needs white digits = false
needs white _ = true

abbrev each : (Touch → Bool) → Bool
each f = f words && (f white && f equals)

each_is : (f : Touch → Bool) → each f ≡ true → (t : Touch) → f t ≡ true
each_is f h words = (and_parts (f words) (f white && f equals) h).0
each_is f h white = (and_parts (f white) (f equals) (and_parts (f words) (f white && f equals) h).1).0
each_is f h equals = (and_parts (f white) (f equals) (and_parts (f words) (f white && f equals) h).1).1

is_each : (f : Touch → Bool) → ((t : Touch) → f t ≡ true) → each f ≡ true
is_each f h = and_from (f words) (f white && f equals) (h words) (and_from (f white) (f equals) (h white) (h equals))

abbrev fits_over : (Touch → Bool) → Want → List Want → Bool
fits_over f v vs = each (λ t. not (needs t v) || quiet_over (f t) t vs)

abbrev safe_over : (Touch → Bool) → List Want → Bool
safe_over f [] = true
safe_over f (v ∷ vs) = real v && (fits_over f v vs && safe_over f vs)

abbrev pub safe : List Want → Bool
safe = safe_over (λ t. true)

-- what a want takes keeps this up
abbrev good : Kind → Want → Reaction → Bool
good kind v (takes us) = safe_over (λ t. needs t v) us && each (λ t. not (runs_on t kind) || quiet_over (needs t v) t us)
good kind v passes = true
good kind v refuses = true

good_word : (b : Bool) (v : Want) (us : List Want) → good k.Key v (takes us) ≡ true → good k.Key v (if_word b us) ≡ true
good_word b v us h = grind arith

good_literal : (w : List ℕ) (v : Want) (us : List Want) → good k.Key v (takes us) ≡ true → good k.Key v (takes (fraction ∷ us)) ≡ true → good k.Key v (literal_word w us) ≡ true
good_literal w v us h i = grind arith

good_move : (v : Want) (kind : Kind) (w : List ℕ) → good kind v (move v kind w) ≡ true
good_move v kind w = grind (arith, good_literal, good_word)

-- wants put upon others

or_so : (b c : Bool) → (not b || c) ≡ true → b ≡ true → c ≡ true
or_so b c h e = grind arith

so_or : (b c : Bool) → (b ≡ true → c ≡ true) → (not b || c) ≡ true
so_or b c h = grind arith

quiet_upon : (b : Bool) (t : Touch) (us vs : List Want) → (b ≡ true → quiet t vs ≡ true) → quiet_over b t us ≡ true → quiet t (us ++ vs) ≡ true
quiet_upon b t [] vs f h = f h
quiet_upon b t (u ∷ us) vs f h =
    let p = and_parts (not (opens t u)) (not (may_pass u) || quiet_over b t us) h in
    and_from (not (opens t u)) (not (may_pass u) || quiet t (us ++ vs)) p.0 (so_or (may_pass u) (quiet t (us ++ vs)) (λ e. quiet_upon b t us vs f (or_so (may_pass u) (quiet_over b t us) p.1 e)))

safe_upon : (f : Touch → Bool) (us vs : List Want) → ((t : Touch) → f t ≡ true → quiet t vs ≡ true) → safe vs ≡ true → safe_over f us ≡ true → safe (us ++ vs) ≡ true
safe_upon f [] vs q s h = s
safe_upon f (u ∷ us) vs q s h =
    let p = and_parts (real u) (fits_over f u us && safe_over f us) h in
    let r = and_parts (fits_over f u us) (safe_over f us) p.1 in
    let fits : fits_over (λ t. true) u (us ++ vs) ≡ true = is_each (λ t. not (needs t u) || quiet t (us ++ vs))
    (λ t. so_or (needs t u) (quiet t (us ++ vs)) (λ e. quiet_upon (f t) t us vs (q t) (or_so (needs t u) (quiet_over (f t) t us) (each_is (λ t. not (needs t u) || quiet_over (f t) t us) r.0 t) e))) in
    and_from (real u) (fits_over (λ t. true) u (us ++ vs) && safe (us ++ vs)) p.0 (and_from (fits_over (λ t. true) u (us ++ vs)) (safe (us ++ vs)) fits (safe_upon f us vs q s r.1))

-- what a token leaves takes none that it may be longer by
abbrev pub Apart : Kind → List Want → Type 0
Apart kind us = (t : Touch) → runs_on t kind ≡ true → quiet t us ≡ true

pub fed_safe : (vs us : List Want) (kind : Kind) (w : List ℕ) → safe vs ≡ true → feed vs kind w ≡ Some us → (safe us ≡ true) × Apart kind us
fed_safe [] us kind w s h = cc h
fed_safe (v ∷ vs) us kind w s h =
    let p = and_parts (fits_over (λ t. true) v vs) (safe vs) (and_parts (real v) (fits_over (λ t. true) v vs && safe vs) s).1 in
    by_move (move v kind w) (good_move v kind w) (λ t e. or_so (needs t v) (quiet t vs) (each_is (λ t. not (needs t v) || quiet t vs) p.0 t) e) p.1 (fed_safe vs us kind w p.1) h
  where
    by_move : (m : Reaction) → good kind v m ≡ true → ((t : Touch) → needs t v ≡ true → quiet t vs ≡ true) → safe vs ≡ true
        → (feed vs kind w ≡ Some us → (safe us ≡ true) × Apart kind us) → moved m vs (feed vs kind w) ≡ Some us → (safe us ≡ true) × Apart kind us
    by_move m g q s more h = grind (arith, and_parts, or_so, quiet_upon, safe_upon, some_same)

-- a token that may not come next

abbrev silent : Bool → Reaction → Bool
silent b (takes us) = false
silent b passes = b
silent b refuses = true

unopened : (t : Touch) (v : Want) (kind : Kind) (w : List ℕ) → (not (starts t kind) || (opens t v || silent (may_pass v) (move v kind w))) ≡ true
unopened words dollar k.Absolute w = refl
unopened words _ k.Absolute w = refl
unopened white dollar k.Absolute w = refl
unopened white _ k.Absolute w = refl
unopened equals dollar k.Absolute w = refl
unopened equals _ k.Absolute w = refl
unopened _ _ _ w = refl

pub quiet_refuses : (t : Touch) (vs : List Want) (kind : Kind) (w : List ℕ) → starts t kind ≡ true → quiet t vs ≡ true → feed vs kind w ≡ None
quiet_refuses t [] kind w h q = refl
quiet_refuses t (v ∷ vs) kind w h q =
    let p = and_parts (not (opens t v)) (not (may_pass v) || quiet t vs) q in
    by_move (move v kind w) (closed (opens t v) (silent (may_pass v) (move v kind w)) p.0 (or_so (starts t kind) (opens t v || silent (may_pass v) (move v kind w)) (unopened t v kind w) h))
    (λ e. quiet_refuses t vs kind w h (or_so (may_pass v) (quiet t vs) p.1 e))
  where
    closed : (b c : Bool) → not b ≡ true → (b || c) ≡ true → c ≡ true
    closed b c h i = grind arith

    by_move : (m : Reaction) → silent (may_pass v) m ≡ true → (may_pass v ≡ true → feed vs kind w ≡ None) → moved m vs (feed vs kind w) ≡ None
    by_move m h more = grind arith

pub safe_real : (ws : List Want) → safe ws ≡ true → all_real ws ≡ true
safe_real [] h = refl
safe_real (w ∷ ws) h =
    let p = and_parts (real w) (fits_over (λ t. true) w ws && safe ws) h in
    and_from (real w) (all_real ws) p.0 (safe_real ws (and_parts (fits_over (λ t. true) w ws) (safe ws) p.1).1)
