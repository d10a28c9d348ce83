-- The scan of a tree's tokens gives the tree's instructions.
use Rattle.std.proofs.Common.{◌≡◌, Bool, true, false, ◌||◌, List, [], ◌∷◌, ◌++◌, refl, sym, ap, ap₂, ◌∙◌, append_assoc, append-nil, IsTrue}
use Rattle.std.proofs.Math.Bool.{or-false, or_assoc, or_comm}
use Rattle.jsonpath_paths.specs.tree.Tree.{Path, path, PathSteps, no_steps, step_then, Inner, plain, filter, Condition, lone, compare, join, Term, at_path, literal, is_comparison}
use Rattle.jsonpath_paths.specs.tree.Visit.{path_tokens, step_tokens, one_step, inner_tokens, condition_tokens, term_tokens}
use Rattle.jsonpath_paths.specs.tree.WellFormed.{IsPath, IsTree, AreSteps, IsInner, IsCondition, IsTerm, IsBracketWord, is_dot_word, is_literal}
use Rattle.jsonpath_paths.specs.declared.token.tokens.FilterToken.{FilterToken}
use Rattle.jsonpath_paths.specs.declared.token.tokens.ParseToken.{ParseToken}
use Rattle.jsonpath_paths.specs.declared.token.tokens.ParseToken.TheVariants as t
use Rattle.jsonpath_select.specs.Meaning.{has_steps, has_own_step, has_own_step_path, has_own_step_term}
use Rattle.jsonpath_select.specs.plan.Code.{Instruction, enter, leave, constant, compares, joins, path_code, steps_code, inner_code, condition_code, term_code, Scan, starts_with_step, note_own_step, in_brackets, operator_instruction, scanned, scan_onto, scan}

abbrev to : List Instruction → List Bool → Scan
to is os = record { code = is; own = os }

scan-append : (ts us : List ParseToken) (s : Scan) → scan_onto (ts ++ us) s ≡ scan_onto ts (scan_onto us s)
scan-append [] us s = refl
scan-append (token ∷ ts) us s = ap (scanned token) (scan-append ts us s)

-- ---- words

dot_word : (token : ParseToken) → IsTrue (is_dot_word token) → (s : Scan) → scanned token s ≡ to (constant token ∷ s.code) s.own
dot_word t.All h s = refl
dot_word (t.Key span) h s = refl
dot_word _ h s = cc h

bracket_word : (token : ParseToken) → IsBracketWord token → (s : Scan) → scanned token s ≡ to (constant token ∷ s.code) s.own
bracket_word t.All h s = refl
bracket_word (t.Key span) h s = refl
bracket_word (t.Keys spans) h s = refl
bracket_word (t.Union ns) h s = refl
bracket_word (t.Range first last by) h s = refl
bracket_word (t.Number d) h s = refl
bracket_word _ h s = absurd h

literal_word : (token : ParseToken) → IsTrue (is_literal token) → (s : Scan) → scanned token s ≡ to (constant token ∷ s.code) s.own
literal_word (t.Key span) h s = refl
literal_word (t.Number d) h s = refl
literal_word (t.Bool b) h s = refl
literal_word _ h s = cc h

comparing : (op : FilterToken) → IsTrue (is_comparison op) → operator_instruction op ≡ compares op
comparing op h = let is : is_comparison op ≡ true = h in rw is refl

joining : (op : FilterToken) → is_comparison op ≡ false → operator_instruction op ≡ joins op
joining op h = rw h refl

-- ---- marks

note_own_step-note_own_step : (a b : Bool) (os : List Bool) → note_own_step a (note_own_step b os) ≡ note_own_step (a || b) os
note_own_step-note_own_step a b [] = refl
note_own_step-note_own_step a b (o ∷ os) = ap (λ c. c ∷ os) (or_assoc o b a ∙ ap (λ c. o || c) (or_comm b a))

note_own_step-false : (os : List Bool) → note_own_step false os ≡ os
note_own_step-false [] = refl
note_own_step-false (o ∷ os) = ap (λ c. c ∷ os) (or-false o)

-- ---- what the code of a part begins with

steps_begin : (ss : PathSteps) (is : List Instruction) → starts_with_step is ≡ false → starts_with_step (steps_code ss ++ is) ≡ has_steps ss
steps_begin no_steps is h = h
steps_begin (step_then leaves bracket (plain token) ss) is h = refl
steps_begin (step_then leaves bracket (filter c) ss) is h = refl

term_begins : (a : Term) (is : List Instruction) → starts_with_step (term_code a ++ is) ≡ false
term_begins (at_path (path absolute ss)) is = refl
term_begins (literal token) is = refl

condition_begins : (c : Condition) (is : List Instruction) → starts_with_step (condition_code c ++ is) ≡ false
condition_begins (lone (path absolute ss)) is = refl
condition_begins (compare (at_path (path absolute ss)) op b) is = refl
condition_begins (compare (literal token) op b) is = refl
condition_begins (join op a b) is = ap starts_with_step (append_assoc (condition_code a) (condition_code b ++ joins op ∷ []) is) ∙ condition_begins a _

-- a condition is more than one word
more_than_word : (c : Condition) (deep : Bool) (is : List Instruction) → in_brackets deep (condition_code c ++ is) ≡ enter false deep ∷ (condition_code c ++ is)
more_than_word (lone (path absolute ss)) deep is = refl
more_than_word (compare (at_path (path absolute ss)) op b) deep is = refl
more_than_word (compare (literal token) op (at_path (path absolute ss))) deep is = refl
more_than_word (compare (literal token) op (literal other)) deep is = refl
more_than_word (join op a b) deep is =
    let same : (condition_code a ++ (condition_code b ++ joins op ∷ [])) ++ is ≡ condition_code a ++ ((condition_code b ++ joins op ∷ []) ++ is) = append_assoc (condition_code a) (condition_code b ++ joins op ∷ []) is in
    ap (in_brackets deep) same ∙ more_than_word a deep _ ∙ ap (λ (js : List Instruction). enter false deep ∷ js) (sym same)

-- two parts and what joins them
two_parts : (a b c is : List Instruction) → a ++ (b ++ (c ++ is)) ≡ (a ++ (b ++ c)) ++ is
two_parts a b c is = ap (λ (x : List Instruction). a ++ x) (sym (append_assoc b c is)) ∙ sym (append_assoc a (b ++ c) is)

-- a bracket before a condition begins a filter
opened : (c : Condition) (deep : Bool) (s : Scan) → scanned t.Array (to (condition_code c ++ leave ∷ s.code) (deep ∷ s.own)) ≡ to (enter false deep ∷ ((condition_code c ++ leave ∷ []) ++ s.code)) s.own
opened c deep s =
    ap (λ (is : List Instruction). to is s.own) (more_than_word c deep (leave ∷ s.code) ∙ ap (λ (is : List Instruction). enter false deep ∷ is) (sym (append_assoc (condition_code c) (leave ∷ []) s.code)))

-- a condition and the end of its bracket
scan_bracket : (c : Condition) (s : Scan) → scan_onto (condition_tokens c) (to (leave ∷ s.code) (false ∷ s.own)) ≡ to (condition_code c ++ leave ∷ s.code) (has_own_step c ∷ s.own)
    → scan_onto (condition_tokens c ++ t.ArrayEof ∷ []) s ≡ to (condition_code c ++ leave ∷ s.code) (has_own_step c ∷ s.own)
scan_bracket c s h = scan-append (condition_tokens c) (t.ArrayEof ∷ []) s ∙ h

-- a comparison or a connective behind its two sides
scan_operation : (op : FilterToken) (i : Instruction) (s : Scan) → operator_instruction op ≡ i → scanned (t.Filter op) s ≡ to (i ∷ s.code) s.own
scan_operation op i s h = ap (λ j. to (j ∷ s.code) s.own) h

mutual
  pub scan_path : (p : Path) → IsTree p → (s : Scan) → starts_with_step s.code ≡ false → scan_onto (path_tokens p) s ≡ to (path_code p ++ s.code) (note_own_step (has_own_step_path p) s.own)
  scan_path (path true ss) h s b = ap (scanned t.Absolute) (scan_steps ss h s) ∙ ap (to (path_code (path true ss) ++ s.code)) (sym (note_own_step-false s.own))
  scan_path (path false ss) h s b = ap (scanned t.Relative) (scan_steps ss h s) ∙ ap (λ o. to (path_code (path false ss) ++ s.code) (note_own_step o s.own)) (steps_begin ss s.code b)

  scan_steps : (ss : PathSteps) → AreSteps ss → (s : Scan) → scan_onto (step_tokens ss) s ≡ to (steps_code ss ++ s.code) s.own
  scan_steps no_steps h s = refl
  scan_steps (step_then leaves bracket inner ss) h s =
      scan-append (one_step leaves bracket (inner_tokens inner)) (step_tokens ss) s
      ∙ ap (scan_onto (one_step leaves bracket (inner_tokens inner))) (scan_steps ss h.1 s)
      ∙ scan_inner inner leaves bracket h.0 (to (steps_code ss ++ s.code) s.own)
      ∙ ap (λ (is : List Instruction). to is s.own) (sym (append_assoc (inner_code leaves inner) (steps_code ss) s.code))

  scan_inner : (inner : Inner) (leaves bracket : Bool) → IsInner bracket inner → (s : Scan) → scan_onto (one_step leaves bracket (inner_tokens inner)) s ≡ to (inner_code leaves inner ++ s.code) s.own
  scan_inner (plain token) false false h s = ap (scanned t.In) (dot_word token h s)
  scan_inner (plain token) true false h s = ap (scanned t.Leaves) (dot_word token h s)
  scan_inner (plain token) false true h s = ap (scanned t.Array) (bracket_word token h (to (leave ∷ s.code) (false ∷ s.own)))
  scan_inner (plain token) true true h s = ap (λ r. scanned t.Leaves (scanned t.Array r)) (bracket_word token h (to (leave ∷ s.code) (false ∷ s.own)))
  scan_inner (filter c) leaves false h s = absurd h
  scan_inner (filter c) false true h s = ap (scanned t.Array) (scan_bracket c s (scan_condition c h (to (leave ∷ s.code) (false ∷ s.own)) refl)) ∙ opened c (has_own_step c) s
  scan_inner (filter c) true true h s =
      ap (λ r. scanned t.Leaves (scanned t.Array r)) (scan_bracket c s (scan_condition c h (to (leave ∷ s.code) (false ∷ s.own)) refl)) ∙ ap (scanned t.Leaves) (opened c (has_own_step c) s)

  scan_condition : (c : Condition) → IsCondition c → (s : Scan) → starts_with_step s.code ≡ false → scan_onto (condition_tokens c) s ≡ to (condition_code c ++ s.code) (note_own_step (has_own_step c) s.own)
  scan_condition (lone (path absolute ss)) h s b = scan_path (path absolute ss) h.1 s b
  scan_condition (compare x op y) h s b =
      scan-append (term_tokens x) (term_tokens y ++ t.Filter op ∷ []) s
      ∙ ap (scan_onto (term_tokens x))
      (scan-append (term_tokens y) (t.Filter op ∷ []) s ∙ ap (scan_onto (term_tokens y)) (scan_operation op (compares op) s (comparing op h.1)) ∙ scan_term y h.2 (to (compares op ∷ s.code) s.own) refl)
      ∙ scan_term x h.0 (to (term_code y ++ compares op ∷ s.code) (note_own_step (has_own_step_term y) s.own)) (term_begins y (compares op ∷ s.code))
      ∙ ap₂ to (two_parts (term_code x) (term_code y) (compares op ∷ []) s.code) (note_own_step-note_own_step (has_own_step_term x) (has_own_step_term y) s.own)
  scan_condition (join op x y) h s b =
      scan-append (condition_tokens x) (condition_tokens y ++ t.Filter op ∷ []) s
      ∙ ap (scan_onto (condition_tokens x))
      (scan-append (condition_tokens y) (t.Filter op ∷ []) s ∙ ap (scan_onto (condition_tokens y)) (scan_operation op (joins op) s (joining op h.1)) ∙ scan_condition y h.2 (to (joins op ∷ s.code) s.own) refl)
      ∙ scan_condition x h.0 (to (condition_code y ++ joins op ∷ s.code) (note_own_step (has_own_step y) s.own)) (condition_begins y (joins op ∷ s.code))
      ∙ ap₂ to (two_parts (condition_code x) (condition_code y) (joins op ∷ []) s.code) (note_own_step-note_own_step (has_own_step x) (has_own_step y) s.own)

  scan_term : (a : Term) → IsTerm a → (s : Scan) → starts_with_step s.code ≡ false → scan_onto (term_tokens a) s ≡ to (term_code a ++ s.code) (note_own_step (has_own_step_term a) s.own)
  scan_term (at_path p) h s b = scan_path p h s b
  scan_term (literal token) h s b = literal_word token h s ∙ ap (to (constant token ∷ s.code)) (sym (note_own_step-false s.own))

-- the instructions of a whole path
pub scan_whole : (p : Path) → IsPath p → (scan (path_tokens p)).code ≡ path_code p
scan_whole (path absolute ss) h = ap (λ (s : Scan). s.code) (scan_path (path absolute ss) h.1 (to [] []) refl) ∙ append-nil (path_code (path absolute ss))
