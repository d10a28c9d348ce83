-- Levels of conditions, and steps one after another.
use Rattle.std.proofs.Common.{◌≡◌, ◌<◌, ℕ, zero, suc, ◌-◌, List, [], ◌∷◌, ◌++◌, length, Option, Some, None, refl, ap, ◌∙◌, cond, Bool, true, false, arith}
use Rattle.jsonpath_paths.specs.Grammar.{Lexemes}
use Rattle.std.specs.Prelude.{option_map, is_some, Result, Err, IfNone}
use Rattle.jsonpath_paths.specs.declared.token.tokens.Lexeme.{Lexeme}
use Rattle.std.proofs.Common.{Vec, Global, slice_set}
use Rattle.jsonpath_paths.specs.plan.Parsing.{Reads}
use Rattle.jsonpath_paths.specs.plan.TokensLeft.{TokensLeft}
use Rattle.jsonpath_paths.specs.declared.parser.tree_parser.Refusal.{Refusal}
use Rattle.jsonpath_paths.specs.declared.parser.tree_parser.Refusal.TheVariants as fault
use Rattle.jsonpath_paths.specs.declared.text.str_reader.StrRange.{StrRange}
use Rattle.jsonpath_paths.specs.declared.token.tokens.Kind.TheVariants as k
use Rattle.jsonpath_paths.specs.tree.Tree.{PathSteps, no_steps, step_then, Condition, Inner, path, at_path}
use Rattle.jsonpath_paths.specs.plan.ParsedParts as d
use Rattle.jsonpath_paths.specs.plan.ParsedParts.{Read, ◌>>=◌}
use Rattle.jsonpath_paths.specs.tree.View.{steps_of_list, inner_of}
use Rattle.jsonpath_paths.specs.declared.tree.parser_node.ParserStep.{ParserStep}
use Rattle.jsonpath_paths.proofs.parser.SoundLemmas as sound
use Rattle.jsonpath_paths.proofs.parser.ShorterLemmas.{step_shorter}

pub condition_below : (text : List ℕ) (n : ℕ) (ts : Lexemes) → 0 < n → d.condition_at text n ts ≡ d.condition_by text (d.condition_at text (n - 1)) ts
condition_below text n ts h = grind arith

-- one list of steps behind another
abbrev pub then_steps : PathSteps → PathSteps → PathSteps
then_steps no_steps more = more
then_steps (step_then leaves bracket inner ss) more = step_then leaves bracket inner (then_steps ss more)

abbrev pub after_steps : PathSteps → Read PathSteps → Read PathSteps
after_steps done read = read >>= λ ss. Some (then_steps done ss.0, ss.1)

pub then_assoc : (a b c : PathSteps) → then_steps a (then_steps b c) ≡ then_steps (then_steps a b) c
then_assoc no_steps b c = refl
then_assoc (step_then l k i ss) b c = ap (step_then l k i) (then_assoc ss b c)

pub then_after : (a b : PathSteps) (read : Read PathSteps) → after_steps a (after_steps b read) ≡ after_steps (then_steps a b) read
then_after a b read = grind (arith, then_assoc)

pub then_no_steps : (a : PathSteps) → then_steps a no_steps ≡ a
then_no_steps no_steps = refl
then_no_steps (step_then l k i ss) = ap (step_then l k i) (then_no_steps ss)

module _ (text : List ℕ) (left : ℕ) where
  abbrev deeper : Lexemes → Read Condition
  deeper = d.condition_at text left

  abbrev Found : Type 0
  Found = (Bool × Bool × Inner) × Lexemes

  pub falls : (ts : Lexemes) (s : Found) → d.step_at text deeper ts ≡ Some s → length s.1 < length ts
  falls ts s h = step_shorter text (sound.sound_step text left deeper (sound.sound_condition text left) ts s h)

  abbrev go_on : ℕ → Found → Read PathSteps
  go_on fuel s = d.steps_from text deeper fuel s.1 >>= λ ss. Some (step_then s.0.0 s.0.1 s.0.2 ss.0, ss.1)

  by_found : (o : Option Found) (f g : Found → Read PathSteps) → ((s : Found) → o ≡ Some s → f s ≡ g s) → (o >>= f) ≡ (o >>= g)
  by_found o f g h = grind arith

  -- more fuel than tokens is as good as any
  fuel_same : (f g : ℕ) (ts : Lexemes) → length ts < f → length ts < g → d.steps_from text deeper f ts ≡ d.steps_from text deeper g ts
  fuel_same zero g ts h i = absurd (omega arith)
  fuel_same (suc f) zero ts h i = absurd (omega arith)
  fuel_same (suc f) (suc g) ts h i =
      let same = λ (s : Found) (e : d.step_at text deeper ts ≡ Some s).
      let shorter = falls ts s e in
      ap (λ r. r >>= λ ss. Some (step_then s.0.0 s.0.1 s.0.2 ss.0, ss.1)) (fuel_same f g s.1 (omega arith) (omega arith)) in
      ap (λ r. cond (d.begins_step text deeper ts) r (Some (no_steps, ts))) (by_found (d.step_at text deeper ts) (go_on f) (go_on g) same)

  pub steps_more : (ts : Lexemes) (s : Found) → d.begins_step text deeper ts ≡ true → d.step_at text deeper ts ≡ Some s
      → d.steps_at text deeper ts ≡ after_steps (step_then s.0.0 s.0.1 s.0.2 no_steps) (d.steps_at text deeper s.1)
  unfolding d.steps_at
  steps_more ts s h e = grind (arith, falls, fuel_same)

  pub steps_refused : (ts : Lexemes) → d.begins_step text deeper ts ≡ true → d.step_at text deeper ts ≡ None → d.steps_at text deeper ts ≡ None
  unfolding d.steps_at
  steps_refused ts b e = ap (λ t. cond t (d.step_at text deeper ts >>= go_on (length ts)) (Some (no_steps, ts))) b ∙ ap (λ o. o >>= go_on (length ts)) e

  pub steps_end : (ts : Lexemes) → d.begins_step text deeper ts ≡ false → d.steps_at text deeper ts ≡ Some (no_steps, ts)
  unfolding d.steps_at
  steps_end ts b = ap (λ t. cond t (d.step_at text deeper ts >>= go_on (length ts)) (Some (no_steps, ts))) b

pub steps_pushed : (xs : List ParserStep) (x : ParserStep) → steps_of_list (xs ++ x ∷ []) ≡ then_steps (steps_of_list xs) (step_then x.leaves x.bracket (inner_of x.inner) no_steps)
steps_pushed [] x = refl
steps_pushed (y ∷ ys) x = ap (step_then y.leaves y.bracket (inner_of y.inner)) (steps_pushed ys x)

-- the step that was added, filled in
pub step_filled : (xs ys : List ParserStep) (b x : ParserStep) (n : ℕ) → ys ≡ xs ++ b ∷ [] → n ≡ length xs → slice_set ys n x ≡ xs ++ x ∷ []
step_filled [] ys b x n is end = rw (is, end) refl
step_filled (y ∷ xs) ys b x n is end = rw (is, end) (ap (λ (zs : List ParserStep). y ∷ zs) (step_filled xs (xs ++ b ∷ []) b x (length xs) refl refl))

-- what was taken, where something was
pub taken : (r : Option StrRange) (new : Lexemes) (read : Read StrRange) → option_map (λ s. (s, new)) r ≡ read → is_some r ≡ true → (s : StrRange) × (read ≡ Some (s, new))
taken r new read h e = grind arith

pub term_relative : (text : List ℕ) (left : ℕ) (ts a to : Lexemes) (s : StrRange) (ss : PathSteps) → d.take_token k.At ts ≡ Some (s, a) → d.steps_at text (d.condition_at text left) a ≡ Some (ss, to)
    → d.term_at text (d.condition_at text left) ts ≡ Some (at_path (path false ss), to)
unfolding d.term_at
term_relative text left ts a to s ss e h = grind arith

pub term_absolute : (text : List ℕ) (left : ℕ) (ts a to : Lexemes) (s : StrRange) (ss : PathSteps) → d.take_token k.At ts ≡ None → d.take_token k.Absolute ts ≡ Some (s, a)
    → d.steps_at text (d.condition_at text left) a ≡ Some (ss, to) → d.term_at text (d.condition_at text left) ts ≡ Some (at_path (path true ss), to)
unfolding d.term_at
term_absolute text left ts a to s ss n e h = grind arith

pub not_taken : (r : Option StrRange) (new : Lexemes) (read : Read StrRange) → option_map (λ s. (s, new)) r ≡ read → is_some r ≡ false → read ≡ None
not_taken r new read h e = grind arith

-- a step that is refused where one begins refuses the steps
pub steps_fault : (text : List ℕ) (left : ℕ) (f : Refusal) (done : PathSteps) (old ahead new : TokensLeft) → ahead.text ≡ old.text
    → d.steps_at old.text (d.condition_at old.text left) old.lexemes ≡ after_steps done (d.steps_at old.text (d.condition_at old.text left) ahead.lexemes)
    → d.begins_step old.text (d.condition_at old.text left) ahead.lexemes ≡ true
    → Reads (λ (s : ParserStep). (s.leaves, s.bracket, inner_of s.inner)) (d.step_at ahead.text (d.condition_at ahead.text left) ahead.lexemes) (Err f) ahead new
    → Reads (λ (v : Vec ParserStep Global). steps_of_list v.items) (d.steps_at old.text (d.condition_at old.text left) old.lexemes) (Err f) old new
steps_fault text left f done old ahead new same read b h = grind (arith, steps_refused)

pub if_none : {A : Type 0} (r : Option A) (P : Type 0) → IfNone r P → is_some r ≡ false → P
if_none r P h e = grind arith

pub pushed_same : (xs ys : List ParserStep) (x y : ParserStep) → steps_of_list xs ≡ steps_of_list ys → x.leaves ≡ y.leaves → x.bracket ≡ y.bracket → inner_of x.inner ≡ inner_of y.inner
    → steps_of_list (xs ++ x ∷ []) ≡ steps_of_list (ys ++ y ∷ [])
pushed_same xs ys x y e l h i = grind (arith, steps_pushed)

-- what is read from what is left is read from all, where that is the same
pub reads_on : {A B : Type 0} (view : A → B) (all left : Option (B × List Lexeme)) (r : Result A Refusal) (old mid new : TokensLeft) → all ≡ left → mid.text ≡ old.text
    → Reads view left r mid new → Reads view all r old new
reads_on view all left r old mid new e same h = grind arith
