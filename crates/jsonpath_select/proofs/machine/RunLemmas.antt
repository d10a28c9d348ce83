-- A tree's instructions, as they are or by sets, leave the tree's meaning at each candidate.
use Rattle.std.proofs.Common.{◌≡◌, ℕ, Bool, true, false, List, [], ◌∷◌, ◌++◌, length, Equal, Option, Some, refl, ap, ◌∙◌, append_assoc, filter, option_map, option_and_then}
use Rattle.jsonpath_nodes.specs.DocumentLaws.{OnceInOrderKeepsMembers}
use Rattle.jsonpath_nodes.specs.document.Document.{Document}
use Rattle.jsonpath_paths.specs.tree.Tree.{Path, path, PathSteps, no_steps, step_then, Inner, plain, Condition, lone, compare, join, Term, at_path}
use Rattle.jsonpath_paths.specs.tree.Tree as tree
use Rattle.jsonpath_nodes.specs.place.Location.{Location, location_cmp}
use Rattle.jsonpath_nodes.specs.place.NumbersWhere.{numbers_where}
use Rattle.jsonpath_nodes.specs.place.Order.{once_in_order}
use Rattle.jsonpath_nodes.specs.step.SameMembers.{SomeOfASet, topmost}
use Rattle.jsonpath_select.specs.Meaning.{has_own_step}
use Rattle.jsonpath_select.specs.plan.Code.{Instruction, path_code, steps_code, inner_code, condition_code, term_code, start, plain_step, enter, leave, compares, joins, in_order, distinct, put_back, by_sets, all_by_sets}
use Rattle.jsonpath_select.specs.plan.Machine.{Tagged, tagged, places, spread, each_tag, Found, list_count_for_candidates, starts, itself, Operand, of_path, tags, State, run_all, as_tags, is_side, stepped, gathered, entered, kept_by_number}
use Rattle.jsonpath_select.specs.plan.Manner.{reached_in, follow_in, inner_in, holds_in, values_in, lessened}
use Rattle.jsonpath_select.proofs.machine.BySetsLemmas.{sets-append}
use Rattle.jsonpath_select.proofs.tagged.DistinctLemmas.{decided_once}
use Rattle.jsonpath_select.proofs.tagged.TagLemmas.{path_from, path_tags, term_from, list_count_for_candidates-starts, each_tag-spread, compared-terms, joined-chosen, kept-chosen, filter-spread}

abbrev state : Found → List Found → List Operand → State
state cand fs os = record { frames = cand ∷ fs; operands = os }

pub entered-spread : (doc : Document) (leaves deep : Bool) (f : Location → List Location) (cs : List Location)
    → entered doc leaves deep (length cs) (spread f 0 cs) ≡ spread (λ c. gathered doc leaves deep (f c)) 0 cs
entered-spread doc false false f cs = refl
entered-spread doc true false f cs = each_tag-spread f (gathered doc true false) 0 cs
entered-spread doc false true f cs = each_tag-spread f (gathered doc false true) 0 cs
entered-spread doc true true f cs = each_tag-spread f (gathered doc true true) 0 cs

-- ---- the instructions in either manner

abbrev pub coded : Bool → List Instruction → List Instruction
coded true is = all_by_sets is
coded false is = is

coded-onto : (sets : Bool) (is js rest : List Instruction) → coded sets (is ++ js) ++ rest ≡ coded sets is ++ (coded sets js ++ rest)
coded-onto true is js rest = ap (λ (ks : List Instruction). ks ++ rest) (sets-append is js) ∙ append_assoc (all_by_sets is) (all_by_sets js) rest
coded-onto false is js rest = append_assoc is js rest

coded-start : (sets absolute : Bool) (is rest : List Instruction) → coded sets (start absolute ∷ is) ++ rest ≡ start absolute ∷ (coded sets is ++ rest)
coded-start true absolute is rest = refl
coded-start false absolute is rest = refl

-- two parts and what joins them
coded-joined : (sets : Bool) (is js : List Instruction) (i : Instruction) (rest : List Instruction) → by_sets i ≡ i ∷ [] → coded sets (is ++ (js ++ i ∷ [])) ++ rest ≡ coded sets is ++ (coded sets js ++ i ∷ rest)
coded-joined sets is js i rest alone =
    coded-onto sets is (js ++ i ∷ []) rest ∙ ap (λ (ks : List Instruction). coded sets is ++ ks) (coded-onto sets js (i ∷ []) rest ∙ ap (λ (ks : List Instruction). coded sets js ++ ks) (by sets))
  where
    by : (b : Bool) → coded b (i ∷ []) ++ rest ≡ i ∷ rest
    by true = ap (λ (ks : List Instruction). (ks ++ []) ++ rest) alone
    by false = refl

-- ---- what is led, for each candidate or once for all

-- where f leads from the candidates, or from the root in place of them
abbrev led_by : Bool → (Location → List Location) → List Location → Found
led_by shared f cs = record { shared = shared; pairs = spread f 0 (starts shared cs) }

-- each location of some pairs once, for all candidates
abbrev pub each_location : List Tagged → Found
each_location ps = record { shared = true; pairs = tagged 0 (once_in_order (places ps)) }

moved : (shared : Bool) (f : Location → List Location) (g : List Location → List Location) (cs : List Location) (to : Found → Option State)
    → to (record { shared = shared; pairs = each_tag g 0 (list_count_for_candidates shared (length cs)) (spread f 0 (starts shared cs)) }) ≡ to (led_by shared (λ c. g (f c)) cs)
moved shared f g cs to =
    ap (λ (ps : List Tagged). to (record { shared = shared; pairs = ps }))
    (ap (λ k. each_tag g 0 k (spread f 0 (starts shared cs))) (list_count_for_candidates-starts shared cs) ∙ each_tag-spread f g 0 (starts shared cs))

module _ (apart : (l m : Location) → location_cmp l m ≡ Equal → l ≡ m) (keeps : OnceInOrderKeepsMembers) (some_same : SomeOfASet) (text : List ℕ) (doc : Document) where
  -- what a path, a term and a condition leave
  abbrev path_found : Bool → Path → List Location → Found
  path_found sets p cs = path_from text doc (reached_in sets text doc) (values_in sets text doc) p 0 cs

  abbrev term_found : Bool → Term → List Location → Operand
  term_found sets a cs = term_from text doc (reached_in sets text doc) (values_in sets text doc) a 0 cs

  abbrev pub found : Bool → Condition → List Location → Operand
  found sets (lone p) cs = of_path (path_found sets p cs)
  found sets (compare a op b) cs = tags (numbers_where (holds_in sets text doc (compare a op b)) 0 cs)
  found sets (join op a b) cs = tags (numbers_where (holds_in sets text doc (join op a b)) 0 cs)

  pub tags-found : (sets : Bool) (c : Condition) (cs : List Location) → as_tags (length cs) (found sets c cs) ≡ Some (numbers_where (holds_in sets text doc c) 0 cs)
  tags-found sets (lone p) cs = ap Some (path_tags text doc (reached_in sets text doc) (values_in sets text doc) (λ ss c. refl) p cs)
  tags-found sets _ cs = refl

  term-is : (sets : Bool) (a : Term) (cs : List Location) → is_side (term_found sets a cs) ≡ true
  term-is sets (at_path p) cs = refl
  term-is sets (tree.literal token) cs = refl

  -- a filter's candidates that passed, in place of what it begins from
  kept : (sets shared leaves deep : Bool) (c : Condition) (f : Location → List Location) (cs : List Location)
      → filter (λ (p : Tagged). holds_in sets text doc c p.1) (entered doc leaves deep (list_count_for_candidates shared (length cs)) (spread f 0 (starts shared cs)))
      ≡ spread (λ l. filter (holds_in sets text doc c) (gathered doc leaves deep (f l))) 0 (starts shared cs)
  kept sets shared leaves deep c f cs =
      ap (filter (λ (p : Tagged). holds_in sets text doc c p.1)) (ap (λ k. entered doc leaves deep k (spread f 0 (starts shared cs))) (list_count_for_candidates-starts shared cs) ∙ entered-spread doc leaves deep f (starts shared cs))
      ∙ filter-spread (holds_in sets text doc c) (λ l. gathered doc leaves deep (f l)) 0 (starts shared cs)

  -- a condition's instructions leave what it leaves
  abbrev Runs : Bool → Condition → Type 0
  Runs sets c = (rest : List Instruction) (cand : Found) (fs : List Found) (os : List Operand)
      → run_all text doc (coded sets (condition_code c) ++ rest) (state cand fs os) ≡ run_all text doc rest (state cand fs (found sets c (places cand.pairs) ∷ os))

  run_filter : (c : Condition) → Runs false c → (leaves shared : Bool) (f : Location → List Location) (rest : List Instruction) (cand : Found) (fs : List Found) (os : List Operand)
      → run_all text doc (enter leaves (has_own_step c) ∷ ((condition_code c ++ leave ∷ []) ++ rest)) (state cand fs (of_path (led_by shared f (places cand.pairs)) ∷ os))
      ≡ run_all text doc rest (state cand fs (of_path (led_by shared (λ l. filter (holds_in false text doc c) (gathered doc leaves (has_own_step c) (f l))) (places cand.pairs)) ∷ os))
  run_filter c runs leaves shared f rest cand fs os =
      let pairs = entered doc leaves (has_own_step c) (list_count_for_candidates shared (length (places cand.pairs))) (spread f 0 (starts shared (places cand.pairs))) in
      let new : Found = record { shared = shared; pairs = pairs } in
      ap (λ (is : List Instruction). run_all text doc is (state new (cand ∷ fs) os)) (append_assoc (condition_code c) (leave ∷ []) rest)
      ∙ runs (leave ∷ rest) new (cand ∷ fs) os
      ∙ ap (λ (o : Option (List ℕ)). option_and_then (run_all text doc rest) (option_map (λ ts. let s : State = state cand fs (of_path (record { shared = shared; pairs = kept_by_number 0 ts pairs }) ∷ os) in s) o)) (tags-found false c (places pairs))
      ∙ ap (λ (ps : List Tagged). run_all text doc rest (state cand fs (of_path (record { shared = shared; pairs = ps }) ∷ os))) (kept-chosen (holds_in false text doc c) 0 pairs ∙ kept false shared leaves (has_own_step c) c f (places cand.pairs))

  -- candidates put aside, of which each location is decided once
  pub run_decided : (c : Condition) → Runs true c → (rest : List Instruction) (pairs : List Tagged) (shared : Bool) (cand : Found) (fs : List Found) (os : List Operand)
      → run_all text doc (all_by_sets (condition_code c) ++ leave ∷ put_back ∷ rest) (state (each_location pairs) (cand ∷ fs) (of_path (record { shared = shared; pairs = pairs }) ∷ os))
      ≡ run_all text doc rest (state cand fs (of_path (record { shared = shared; pairs = filter (λ (p : Tagged). holds_in true text doc c p.1) pairs }) ∷ os))
  run_decided c runs rest pairs shared cand fs os =
      let new : Found = record { shared = shared; pairs = pairs } in
      let ones = each_location pairs in
      runs (leave ∷ put_back ∷ rest) ones (cand ∷ fs) (of_path new ∷ os)
      ∙ ap (λ (o : Option (List ℕ)). option_and_then (run_all text doc (put_back ∷ rest)) (option_map (λ ts. let s : State = state cand fs (of_path (record { shared = true; pairs = kept_by_number 0 ts ones.pairs }) ∷ of_path new ∷ os) in s) o)) (tags-found true c (places ones.pairs))
      ∙ ap (λ (ps : List Tagged). run_all text doc rest (state cand fs (of_path (record { shared = shared; pairs = ps }) ∷ os))) (decided_once apart keeps some_same (holds_in true text doc c) pairs)

  run_filter_by_sets : (c : Condition) → Runs true c → (leaves shared : Bool) (f : Location → List Location) (rest : List Instruction) (cand : Found) (fs : List Found) (os : List Operand)
      → run_all text doc (enter leaves (has_own_step c) ∷ distinct ∷ (all_by_sets (condition_code c ++ leave ∷ []) ++ rest)) (state cand fs (of_path (led_by shared f (places cand.pairs)) ∷ os))
      ≡ run_all text doc rest (state cand fs (of_path (led_by shared (λ l. once_in_order (filter (holds_in true text doc c) (gathered doc leaves (has_own_step c) (f l)))) (places cand.pairs)) ∷ os))
  run_filter_by_sets c runs leaves shared f rest cand fs os =
      let pairs = entered doc leaves (has_own_step c) (list_count_for_candidates shared (length (places cand.pairs))) (spread f 0 (starts shared (places cand.pairs))) in
      let new : Found = record { shared = shared; pairs = pairs } in
      ap (λ (is : List Instruction). run_all text doc is (state (each_location pairs) (cand ∷ fs) (of_path new ∷ os))) (coded-onto true (condition_code c) (leave ∷ []) rest)
      ∙ run_decided c runs (in_order ∷ rest) pairs shared cand fs os
      ∙ ap (λ (ps : List Tagged). run_all text doc (in_order ∷ rest) (state cand fs (of_path (record { shared = shared; pairs = ps }) ∷ os))) (kept true shared leaves (has_own_step c) c f (places cand.pairs))
      ∙ moved shared (λ l. filter (holds_in true text doc c) (gathered doc leaves (has_own_step c) (f l))) once_in_order (places cand.pairs) (λ g. run_all text doc rest (state cand fs (of_path g ∷ os)))

  mutual
    pub run_path : (sets : Bool) (p : Path) (rest : List Instruction) (cand : Found) (fs : List Found) (os : List Operand)
        → run_all text doc (coded sets (path_code p) ++ rest) (state cand fs os) ≡ run_all text doc rest (state cand fs (of_path (path_found sets p (places cand.pairs)) ∷ os))
    run_path sets (path true ss) rest cand fs os = ap (λ (is : List Instruction). run_all text doc is (state cand fs os)) (coded-start sets true (steps_code ss) rest) ∙ run_steps sets ss true itself rest cand fs os
    run_path sets (path false ss) rest cand fs os = ap (λ (is : List Instruction). run_all text doc is (state cand fs os)) (coded-start sets false (steps_code ss) rest) ∙ run_steps sets ss false itself rest cand fs os

    pub run_steps : (sets : Bool) (ss : PathSteps) (shared : Bool) (f : Location → List Location) (rest : List Instruction) (cand : Found) (fs : List Found) (os : List Operand)
        → run_all text doc (coded sets (steps_code ss) ++ rest) (state cand fs (of_path (led_by shared f (places cand.pairs)) ∷ os))
        ≡ run_all text doc rest (state cand fs (of_path (led_by shared (λ c. follow_in sets text doc ss (f c)) (places cand.pairs)) ∷ os))
    run_steps true no_steps shared f rest cand fs os = refl
    run_steps false no_steps shared f rest cand fs os = refl
    run_steps sets (step_then leaves bracket inner ss) shared f rest cand fs os =
        ap (λ (is : List Instruction). run_all text doc is (state cand fs (of_path (led_by shared f (places cand.pairs)) ∷ os))) (coded-onto sets (inner_code leaves inner) (steps_code ss) rest)
        ∙ run_inner sets inner leaves shared f (coded sets (steps_code ss) ++ rest) cand fs os
        ∙ run_steps sets ss shared (λ c. lessened sets (inner_in sets text doc inner leaves (f c))) rest cand fs os

    run_inner : (sets : Bool) (inner : Inner) (leaves shared : Bool) (f : Location → List Location) (rest : List Instruction) (cand : Found) (fs : List Found) (os : List Operand)
        → run_all text doc (coded sets (inner_code leaves inner) ++ rest) (state cand fs (of_path (led_by shared f (places cand.pairs)) ∷ os))
        ≡ run_all text doc rest (state cand fs (of_path (led_by shared (λ c. lessened sets (inner_in sets text doc inner leaves (f c))) (places cand.pairs)) ∷ os))
    run_inner false (plain token) false shared f rest cand fs os = moved shared f (stepped text doc false token) (places cand.pairs) (λ g. run_all text doc rest (state cand fs (of_path g ∷ os)))
    run_inner false (plain token) true shared f rest cand fs os = moved shared f (stepped text doc true token) (places cand.pairs) (λ g. run_all text doc rest (state cand fs (of_path g ∷ os)))
    run_inner true (plain token) false shared f rest cand fs os =
        moved shared f (stepped text doc false token) (places cand.pairs) (λ g. run_all text doc (in_order ∷ rest) (state cand fs (of_path g ∷ os)))
        ∙ moved shared (λ c. stepped text doc false token (f c)) once_in_order (places cand.pairs) (λ g. run_all text doc rest (state cand fs (of_path g ∷ os)))
    run_inner true (plain token) true shared f rest cand fs os =
        moved shared f topmost (places cand.pairs) (λ g. run_all text doc (plain_step true token ∷ in_order ∷ rest) (state cand fs (of_path g ∷ os)))
        ∙ moved shared (λ c. topmost (f c)) (stepped text doc true token) (places cand.pairs) (λ g. run_all text doc (in_order ∷ rest) (state cand fs (of_path g ∷ os)))
        ∙ moved shared (λ c. stepped text doc true token (topmost (f c))) once_in_order (places cand.pairs) (λ g. run_all text doc rest (state cand fs (of_path g ∷ os)))
    run_inner false (tree.filter c) false shared f rest cand fs os = run_filter c (run_condition false c) false shared f rest cand fs os
    run_inner false (tree.filter c) true shared f rest cand fs os = run_filter c (run_condition false c) true shared f rest cand fs os
    run_inner true (tree.filter c) false shared f rest cand fs os = run_filter_by_sets c (run_condition true c) false shared f rest cand fs os
    run_inner true (tree.filter c) true shared f rest cand fs os =
        moved shared f topmost (places cand.pairs) (λ g. run_all text doc (enter true (has_own_step c) ∷ distinct ∷ (all_by_sets (condition_code c ++ leave ∷ []) ++ rest)) (state cand fs (of_path g ∷ os)))
        ∙ run_filter_by_sets c (run_condition true c) true shared (λ l. topmost (f l)) rest cand fs os

    pub run_condition : (sets : Bool) (c : Condition) (rest : List Instruction) (cand : Found) (fs : List Found) (os : List Operand)
        → run_all text doc (coded sets (condition_code c) ++ rest) (state cand fs os) ≡ run_all text doc rest (state cand fs (found sets c (places cand.pairs) ∷ os))
    run_condition sets (lone p) rest cand fs os = run_path sets p rest cand fs os
    run_condition sets (compare a op b) rest cand fs os =
        let cs = places cand.pairs in
        ap (λ (is : List Instruction). run_all text doc is (state cand fs os)) (coded-joined sets (term_code a) (term_code b) (compares op) rest refl)
        ∙ run_term sets a (coded sets (term_code b) ++ compares op ∷ rest) cand fs os
        ∙ run_term sets b (compares op ∷ rest) cand fs (term_found sets a cs ∷ os)
        ∙ rw (term-is sets a cs, term-is sets b cs) (ap (λ (ts : List ℕ). run_all text doc rest (state cand fs (tags ts ∷ os))) (compared-terms text doc (reached_in sets text doc) (values_in sets text doc) (λ ss c. refl) (λ p c. refl) (λ token c. refl) op a b 0 cs))
    run_condition sets (join op a b) rest cand fs os =
        let cs = places cand.pairs in
        ap (λ (is : List Instruction). run_all text doc is (state cand fs os)) (coded-joined sets (condition_code a) (condition_code b) (joins op) rest refl)
        ∙ run_condition sets a (coded sets (condition_code b) ++ joins op ∷ rest) cand fs os
        ∙ run_condition sets b (joins op ∷ rest) cand fs (found sets a cs ∷ os)
        ∙ rw (tags-found sets a cs, tags-found sets b cs) (ap (λ (ts : List ℕ). run_all text doc rest (state cand fs (tags ts ∷ os))) (joined-chosen op (holds_in sets text doc a) (holds_in sets text doc b) 0 cs))

    run_term : (sets : Bool) (a : Term) (rest : List Instruction) (cand : Found) (fs : List Found) (os : List Operand)
        → run_all text doc (coded sets (term_code a) ++ rest) (state cand fs os) ≡ run_all text doc rest (state cand fs (term_found sets a (places cand.pairs) ∷ os))
    run_term sets (at_path p) rest cand fs os = run_path sets p rest cand fs os
    run_term true (tree.literal token) rest cand fs os = refl
    run_term false (tree.literal token) rest cand fs os = refl
