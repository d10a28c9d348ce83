-- Where the filters of a path stand among its instructions.
use Rattle.std.proofs.Common.{◌≡◌, ℕ, zero, suc, ◌-◌, ◌==◌, ◌<◌, Bool, true, false, List, [], ◌∷◌, ◌++◌, map, length, take, drop, get_or, cond, Bor, ◌+◌, refl, sym, ap, ap₂, subst, ◌∙◌, append_assoc, append-nil, arith, filter}
use Rattle.std.specs.List.{list_all}
use Rattle.std.proofs.Math.Dec.{eqb-suc-zero}
use Rattle.std.proofs.lemmas.List.{append_cancel_right, map-append, take-append-drop, take_rest}
use Rattle.jsonpath_nodes.specs.document.Document.{Document}
use Rattle.jsonpath_paths.specs.tree.Tree.{Path, path, PathSteps, no_steps, step_then, Inner, plain, Condition, lone, compare, join, Term, at_path}
use Rattle.jsonpath_paths.specs.tree.Tree as tree
use Rattle.jsonpath_paths.specs.declared.token.tokens.ParseToken.{ParseToken}
use Rattle.jsonpath_nodes.specs.place.Location.{Location}
use Rattle.jsonpath_select.specs.Meaning.{follow, holds, has_own_step}
use Rattle.jsonpath_select.specs.plan.Code as code
use Rattle.jsonpath_select.specs.plan.Code.{leave, compares, joins, path_code, steps_code, inner_code, condition_code, term_code}
use Rattle.jsonpath_select.specs.plan.Machine.{gathered, stepped}
use Rattle.jsonpath_select.specs.plan.NextFilter.{CodesSteps, AreBegun, CodesCondition, behind_leave, first_step, later_steps}
use Rattle.jsonpath_select.specs.plan.Ordered.{instruction_of}
use Rattle.jsonpath_select.specs.plan.Standing.{along}
use Rattle.jsonpath_select.specs.plan.Unfiltered.{is_plain_step}
use Rattle.jsonpath_select.specs.declared.machine.instruction.Instruction.{Instruction}
use Rattle.jsonpath_select.specs.declared.machine.instruction.Instruction.TheVariants.{Step, Enter}

-- ---- the next filter

-- a step of the path begins
abbrev pub begins_step : Instruction → Bool
begins_step (Step b t) = true
begins_step (Enter b d) = true
begins_step _ = false

one_next : (i : Instruction) (is : List Instruction) (ss : PathSteps) → CodesSteps (i ∷ is) ss → begins_step i ≡ true
one_next (Step b t) is ss e = refl
one_next (Enter b d) is ss e = refl
one_next _ is no_steps e = cc
one_next _ is (step_then leaves bracket (plain token) ss) e = cc
one_next _ is (step_then leaves bracket (tree.filter c) ss) e = cc

-- behind plain steps a step of the path begins, or nothing stands there
pub step_next : (left : List Instruction) (end : ℕ) (i : Instruction) (ss : PathSteps) → CodesSteps left ss → list_all is_plain_step (take end left) ≡ true → end < length left → i ≡ get_or left end i → begins_step i ≡ true
step_next [] end i ss e all below is = absurd (omega (arith, below))
step_next (j ∷ js) zero i ss e all below is = ap begins_step is ∙ one_next j js ss e
step_next (Step b t ∷ js) (suc n) i no_steps e all below is = cc
step_next (Step b t ∷ js) (suc n) i (step_then leaves bracket (plain token) ss) e all below is =
    let later : CodesSteps js ss = cc in step_next js n i ss later all (omega (arith, below)) is
step_next (Step b t ∷ js) (suc n) i (step_then leaves bracket (tree.filter c) ss) e all below is = cc
step_next _ (suc n) i ss e all below is = cc

pub no_other : (i : Instruction) → begins_step i ≡ true → ((b : Bool) (t : Bor ParseToken) → i ≡ Step b t → ⊥) → ((b d : Bool) → i ≡ Enter b d → ⊥) → ⊥
no_other (Step b t) h step enter = step b t refl
no_other (Enter b d) h step enter = enter b d refl
no_other _ h step enter = cc

-- ---- what its condition is, and what stands behind it

-- the end of a filter in it
closes : (d : ℕ) (rest : List code.Instruction) → behind_leave (suc d) (leave ∷ rest) ≡ behind_leave d rest
closes d rest =
    let some : (suc d == 0) ≡ false = eqb-suc-zero d in
    let back : suc d - 1 ≡ d = omega arith in
    ap (λ b. cond b rest (behind_leave (suc d - 1) rest)) some ∙ ap (λ n. behind_leave n rest) back

mutual
  past_path : (p : Path) (d : ℕ) (rest : List code.Instruction) → behind_leave d (path_code p ++ rest) ≡ behind_leave d rest
  past_path (path absolute ss) d rest = past_steps ss d rest

  past_steps : (ss : PathSteps) (d : ℕ) (rest : List code.Instruction) → behind_leave d (steps_code ss ++ rest) ≡ behind_leave d rest
  past_steps no_steps d rest = refl
  past_steps (step_then leaves bracket inner ss) d rest =
      ap (behind_leave d) (append_assoc (inner_code leaves inner) (steps_code ss) rest) ∙ past_inner inner leaves d (steps_code ss ++ rest) ∙ past_steps ss d rest

  past_inner : (inner : Inner) (leaves : Bool) (d : ℕ) (rest : List code.Instruction) → behind_leave d (inner_code leaves inner ++ rest) ≡ behind_leave d rest
  past_inner (plain token) leaves d rest = refl
  past_inner (tree.filter c) leaves d rest = ap (behind_leave (suc d)) (append_assoc (condition_code c) (leave ∷ []) rest) ∙ past_condition c (suc d) (leave ∷ rest) ∙ closes d rest

  past_condition : (c : Condition) (d : ℕ) (rest : List code.Instruction) → behind_leave d (condition_code c ++ rest) ≡ behind_leave d rest
  past_condition (lone p) d rest = past_path p d rest
  past_condition (compare a op b) d rest =
      ap (behind_leave d) (append_assoc (term_code a) (term_code b ++ compares op ∷ []) rest) ∙ past_term a d ((term_code b ++ compares op ∷ []) ++ rest)
      ∙ ap (behind_leave d) (append_assoc (term_code b) (compares op ∷ []) rest) ∙ past_term b d (compares op ∷ rest)
  past_condition (join op a b) d rest =
      ap (behind_leave d) (append_assoc (condition_code a) (condition_code b ++ joins op ∷ []) rest) ∙ past_condition a d ((condition_code b ++ joins op ∷ []) ++ rest)
      ∙ ap (behind_leave d) (append_assoc (condition_code b) (joins op ∷ []) rest) ∙ past_condition b d (joins op ∷ rest)

  past_term : (a : Term) (d : ℕ) (rest : List code.Instruction) → behind_leave d (term_code a ++ rest) ≡ behind_leave d rest
  past_term (at_path p) d rest = past_path p d rest
  past_term (tree.literal token) d rest = refl

-- the condition ends where a filter's end is not one of a filter in it
pub ends_condition : (left : List Instruction) (end : ℕ) (c : Condition) (ss : PathSteps) → AreBegun left c ss → map instruction_of (drop end left) ≡ behind_leave 0 (map instruction_of left)
    → CodesCondition (take end left) c × CodesSteps (drop end left) ss
ends_condition left end c ss begun is =
    let later : map instruction_of (drop end left) ≡ steps_code ss = is ∙ ap (behind_leave 0) begun ∙ past_condition c 0 (leave ∷ steps_code ss) in
    let whole : map instruction_of (take end left) ++ map instruction_of (drop end left) ≡ map instruction_of left = sym (map-append instruction_of (take end left) (drop end left)) ∙ ap (map instruction_of) (take-append-drop end left) in (
      append_cancel_right (map instruction_of (take end left)) (condition_code c ++ leave ∷ []) (steps_code ss)
          (ap (λ js. map instruction_of (take end left) ++ js) (sym later) ∙ whole ∙ begun ∙ sym (append_assoc (condition_code c) (leave ∷ []) (steps_code ss))),
      later,
    )

pub behind_begun : (left rest : List Instruction) (c : Condition) (ss : PathSteps) → AreBegun left c ss → map instruction_of rest ≡ behind_leave 0 (map instruction_of left) → CodesSteps rest ss
behind_begun left rest c ss begun is = is ∙ ap (behind_leave 0) begun ∙ past_condition c 0 (leave ∷ steps_code ss)

-- what stands behind an index, as a slice
pub sliced_on : (end : ℕ) (left : List Instruction) (ss : PathSteps) → CodesSteps (drop end left) ss → CodesSteps (take (length left - end) (drop end left)) ss
sliced_on end left ss = subst (λ (is : List Instruction). CodesSteps is ss) (sym (take_rest left end))

-- ---- where steps lead

module _ (text : List ℕ) (doc : Document) where
  -- where no filter comes
  pub plain_followed : (left : List Instruction) (ss : PathSteps) (ls : List Location) → CodesSteps left ss → list_all is_plain_step left ≡ true → follow text doc ss ls ≡ along text doc left ls
  plain_followed [] no_steps ls e all = refl
  plain_followed [] (step_then leaves bracket (plain token) ss) ls e all = cc
  plain_followed [] (step_then leaves bracket (tree.filter c) ss) ls e all = cc
  plain_followed (Step b t ∷ is) no_steps ls e all = cc
  plain_followed (Step b t ∷ is) (step_then leaves bracket (tree.filter c) ss) ls e all = cc
  plain_followed (Step b t ∷ is) (step_then leaves bracket (plain token) ss) ls e all =
      let leads : leaves ≡ b = cc in
      let same : token ≡ t.now = cc in
      let later : CodesSteps is ss = cc in
      ap₂ (λ (l : Bool) (u : ParseToken). follow text doc ss (stepped text doc l u ls)) leads same ∙ plain_followed is ss (stepped text doc b t.now ls) later all
  plain_followed _ ss ls e all = cc

  -- .. the first of them, and then the others
  pub plain_split : (n : ℕ) (left : List Instruction) (ss : PathSteps) → CodesSteps left ss → list_all is_plain_step left ≡ true
      → (later : PathSteps) × CodesSteps (drop n left) later × ((ls : List Location) → follow text doc ss ls ≡ follow text doc later (along text doc (take n left) ls)) × (list_all is_plain_step (take n left) ≡ true)
  plain_split zero left ss e all = (ss, e, λ ls. refl, refl)
  plain_split (suc n) [] ss e all = (ss, e, λ ls. refl, refl)
  plain_split (suc n) (Step b t ∷ is) no_steps e all = cc
  plain_split (suc n) (Step b t ∷ is) (step_then leaves bracket (tree.filter c) ss) e all = cc
  plain_split (suc n) (Step b t ∷ is) (step_then leaves bracket (plain token) ss) e all =
      let leads : leaves ≡ b = cc in
      let same : token ≡ t.now = cc in
      let behind : CodesSteps is ss = cc in
      let next = plain_split n is ss behind all in
      (next.0, next.1, λ ls. ap₂ (λ (l : Bool) (u : ParseToken). follow text doc ss (stepped text doc l u ls)) leads same ∙ next.2 (stepped text doc b t.now ls), next.3)
  plain_split (suc n) _ ss e all = cc

  -- the next filter, and the steps behind it
  pub next_of : (steps : List Instruction) (leaves deep : Bool) (rest : List Instruction) (ss : PathSteps) → list_all is_plain_step steps ≡ true → CodesSteps (steps ++ Enter leaves deep ∷ rest) ss
      → (c : Condition) × (later : PathSteps) × AreBegun rest c later
      × ((ls : List Location) → follow text doc ss ls ≡ follow text doc later (filter (λ l. holds text doc c l) (gathered doc leaves deep (along text doc steps ls))))
  next_of [] leaves deep rest no_steps all e = cc
  next_of [] leaves deep rest (step_then b bracket (plain token) ss) all e = cc
  next_of [] leaves deep rest (step_then b bracket (tree.filter c) ss) all e =
      let leads : b ≡ leaves = cc in
      let own : has_own_step c ≡ deep = cc in
      let later : map instruction_of rest ≡ (condition_code c ++ leave ∷ []) ++ steps_code ss = cc in
      let begun : (condition_code c ++ leave ∷ []) ++ steps_code ss ≡ condition_code c ++ leave ∷ steps_code ss = append_assoc (condition_code c) (leave ∷ []) (steps_code ss) in (
        c,
        ss,
        later ∙ begun,
        λ ls. ap₂ (λ (l d : Bool). follow text doc ss (filter (λ k. holds text doc c k) (gathered doc l d ls))) leads own,
      )
  next_of (Step b t ∷ steps) leaves deep rest no_steps all e = cc
  next_of (Step b t ∷ steps) leaves deep rest (step_then l bracket (tree.filter c) ss) all e = cc
  next_of (Step b t ∷ steps) leaves deep rest (step_then l bracket (plain token) ss) all e =
      let leads : l ≡ b = cc in
      let same : token ≡ t.now = cc in
      let behind : CodesSteps (steps ++ Enter leaves deep ∷ rest) ss = cc in
      let next = next_of steps leaves deep rest ss all behind in (
        next.0,
        next.1,
        next.2,
        λ ls.
            let first : follow text doc ss (stepped text doc l token ls) ≡ follow text doc ss (stepped text doc b t.now ls) = ap₂ (λ (k : Bool) (u : ParseToken). follow text doc ss (stepped text doc k u ls)) leads same in
            first ∙ next.3 (stepped text doc b t.now ls),
      )
  next_of _ leaves deep rest ss all e = cc

-- ---- the first step alone

first_there : (left : List Instruction) (d : Instruction) → 0 < length left → left ≡ get_or left 0 d ∷ drop 1 left
first_there [] d below = absurd (omega (arith, below))
first_there (j ∷ js) d below = refl

-- a plain step
plain_first : (i : Instruction) (is : List Instruction) (ss : PathSteps) → ((b d : Bool) → i ≡ Enter b d → ⊥) → CodesSteps (i ∷ is) ss → CodesSteps (i ∷ []) (first_step ss) × CodesSteps is (later_steps ss)
plain_first (Enter b d) is ss none e = absurd (none b d refl)
plain_first i is no_steps none e = cc
plain_first i is (step_then leaves bracket (plain token) later) none e =
    let first : instruction_of i ≡ code.plain_step leaves token = cc in
    let behind : map instruction_of is ≡ steps_code later = cc in
    (ap (λ (j : code.Instruction). j ∷ []) first, behind)
plain_first _ is (step_then leaves bracket (tree.filter c) later) none e = cc

-- a filter
filter_first : (b d : Bool) (behind : List Instruction) (end : ℕ) (ss : PathSteps) → CodesSteps (Enter b d ∷ behind) ss → map instruction_of (drop end behind) ≡ behind_leave 0 (map instruction_of behind)
    → CodesSteps (Enter b d ∷ take end behind) (first_step ss) × CodesSteps (drop end behind) (later_steps ss)
filter_first b d behind end no_steps e is = cc
filter_first b d behind end (step_then leaves bracket (plain token) later) e is = cc
filter_first b d behind end (step_then leaves bracket (tree.filter c) later) e is =
    let first : code.enter b d ≡ code.enter leaves (has_own_step c) = cc in
    let rest : map instruction_of behind ≡ (condition_code c ++ leave ∷ []) ++ steps_code later = cc in
    let parts = ends_condition behind end c later (rest ∙ append_assoc (condition_code c) (leave ∷ []) (steps_code later)) is in
    (ap₂ (λ (j : code.Instruction) (js : List code.Instruction). j ∷ js) first (parts.0 ∙ sym (append-nil (condition_code c ++ leave ∷ []))), parts.1)

pub filter_at_first : (left behind : List Instruction) (i : Instruction) (b d : Bool) (end : ℕ) (ss : PathSteps) → 0 < length left → get_or left 0 i ≡ Enter b d → behind ≡ drop 1 left → CodesSteps left ss
    → map instruction_of (drop end behind) ≡ behind_leave 0 (map instruction_of behind) → CodesSteps (take (end + 1) left) (first_step ss) × CodesSteps (drop (end + 1) left) (later_steps ss)
filter_at_first left behind i b d end ss below enter rest e ends =
    let whole : left ≡ Enter b d ∷ behind = first_there left i below ∙ ap₂ (λ (j : Instruction) (js : List Instruction). j ∷ js) enter (sym rest) in
    let next : end + 1 ≡ suc end = omega arith in
    let found : CodesSteps (take (suc end) (Enter b d ∷ behind)) (first_step ss) × CodesSteps (drop (suc end) (Enter b d ∷ behind)) (later_steps ss) =
    filter_first b d behind end ss (subst (λ (is : List Instruction). CodesSteps is ss) whole e) ends in
    subst (λ n. CodesSteps (take n left) (first_step ss) × CodesSteps (drop n left) (later_steps ss)) (sym next)
    (subst (λ (is : List Instruction). CodesSteps (take (suc end) is) (first_step ss) × CodesSteps (drop (suc end) is) (later_steps ss)) (sym whole) found)

pub plain_at_first : (left : List Instruction) (i : Instruction) (ss : PathSteps) → 0 < length left → ((b d : Bool) → get_or left 0 i ≡ Enter b d → ⊥) → CodesSteps left ss → CodesSteps (take 1 left) (first_step ss) × CodesSteps (drop 1 left) (later_steps ss)
plain_at_first [] i ss below other e = absurd (omega (arith, below))
plain_at_first (j ∷ js) i ss below other e = plain_first j js ss other e

pub empty : {X : Type 0} → (xs : List X) → (length xs == 0) ≡ true → xs ≡ []
empty [] e = refl
empty (x ∷ xs) e = let never : (suc (length xs) == 0) ≡ false = eqb-suc-zero (length xs) in cc

pub no_steps_left : (ss : PathSteps) → CodesSteps [] ss → ss ≡ no_steps
no_steps_left no_steps e = refl
no_steps_left (step_then leaves bracket (plain token) later) e = cc
no_steps_left (step_then leaves bracket (tree.filter c) later) e = cc

pub first_then_later : (text : List ℕ) (doc : Document) (ss : PathSteps) (ls : List Location) → follow text doc ss ls ≡ follow text doc (later_steps ss) (follow text doc (first_step ss) ls)
first_then_later text doc no_steps ls = refl
first_then_later text doc (step_then leaves bracket inner later) ls = refl
