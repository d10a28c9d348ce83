-- The tree of a token list, found with a stack: so no two well-formed trees have one list.
use Rattle.std.proofs.Common.{◌≡◌, Bool, true, false, List, [], ◌∷◌, ◌++◌, Option, Some, None, subst, sym, ap, ◌∙◌, append_assoc, arith}
use Rattle.std.specs.Prelude.{IsTrue}
use Rattle.jsonpath_paths.specs.declared.token.tokens.FilterToken.{FilterToken}
use Rattle.jsonpath_paths.specs.declared.token.tokens.ParseToken.{ParseToken}
use Rattle.jsonpath_paths.specs.declared.token.tokens.ParseToken.TheVariants as t
use Rattle.jsonpath_paths.specs.tree.Tree.{Path, path, PathSteps, no_steps, step_then, Inner, plain, filter, Condition, lone, compare, join, Term, at_path, literal, is_comparison}
use Rattle.jsonpath_paths.specs.tree.Visit.{path_tokens, step_tokens, one_step, inner_tokens, condition_tokens, term_tokens}
use Rattle.jsonpath_paths.specs.tree.WellFormed.{IsPath, AreSteps, IsInner, IsCondition, IsTerm, IsBracketWord, is_literal}
use Rattle.jsonpath_paths.specs.plan.ParsedParts.{◌>>=◌}
use Rattle.jsonpath_paths.proofs.parser.LevelLemmas.{then_steps, then_no_steps, then_assoc}
use Rattle.jsonpath_paths.proofs.parser.SoundLemmas.{some_same}

data Entry : Type 0 where
  -- a path with its steps so far
  ready : Bool → PathSteps → Entry
  -- behind it one dot, or two
  dotted : Bool → PathSteps → Bool → Entry
  -- behind it a bracket, and two dots before the bracket or none
  opened : Bool → PathSteps → Bool → Entry
  word : ParseToken → Entry
  condition : Condition → Entry

abbrev Stack : Type 0
Stack = List Entry

abbrev as_term : Entry → Option Term
as_term (ready absolute ss) = Some (at_path (path absolute ss))
as_term (word token) = Some (literal token)
as_term _ = None

abbrev as_condition : Entry → Option Condition
as_condition (ready false ss) = Some (lone (path false ss))
as_condition (condition c) = Some c
as_condition _ = None

abbrev as_inner : Entry → Option Inner
as_inner (word token) = Some (plain token)
as_inner (ready false ss) = Some (filter (lone (path false ss)))
as_inner (condition c) = Some (filter c)
as_inner _ = None

-- a step more behind the steps of a path
abbrev stepped : Bool → PathSteps → Bool → Bool → Inner → Entry
stepped absolute ss leaves bracket inner = ready absolute (then_steps ss (step_then leaves bracket inner no_steps))

abbrev dots : Bool → Stack → Option Stack
dots leaves (ready absolute ss ∷ st) = Some (dotted absolute ss leaves ∷ st)
dots leaves _ = None

abbrev opens : Stack → Option Stack
opens (ready absolute ss ∷ st) = Some (opened absolute ss false ∷ st)
opens (dotted absolute ss true ∷ st) = Some (opened absolute ss true ∷ st)
opens _ = None

abbrev closes_on : Option Inner → Stack → Option Stack
closes_on (Some inner) (opened absolute ss leaves ∷ st) = Some (stepped absolute ss leaves true inner ∷ st)
closes_on _ _ = None

abbrev closes : Stack → Option Stack
closes [] = None
closes (e ∷ st) = closes_on (as_inner e) st

abbrev words : ParseToken → Stack → Option Stack
words token (dotted absolute ss leaves ∷ st) = Some (stepped absolute ss leaves false (plain token) ∷ st)
words token st = Some (word token ∷ st)

abbrev compares : FilterToken → Option Term → Option Term → Stack → Option Stack
compares o (Some a) (Some b) st = Some (condition (compare a o b) ∷ st)
compares o _ _ st = None

abbrev joins : FilterToken → Option Condition → Option Condition → Stack → Option Stack
joins o (Some a) (Some b) st = Some (condition (join o a b) ∷ st)
joins o _ _ st = None

abbrev operates_by : Bool → FilterToken → Entry → Entry → Stack → Option Stack
operates_by true o x y st = compares o (as_term x) (as_term y) st
operates_by false o x y st = joins o (as_condition x) (as_condition y) st

abbrev operates : FilterToken → Stack → Option Stack
operates o (y ∷ x ∷ st) = operates_by (is_comparison o) o x y st
operates o _ = None

abbrev one_more : ParseToken → Stack → Option Stack
one_more t.Absolute st = Some (ready true no_steps ∷ st)
one_more t.Relative st = Some (ready false no_steps ∷ st)
one_more t.In st = dots false st
one_more t.Leaves st = dots true st
one_more t.Array st = opens st
one_more t.ArrayEof st = closes st
one_more (t.Filter o) st = operates o st
one_more t.Eof st = None
one_more token st = words token st

abbrev decode : List ParseToken → Stack → Option Stack
decode [] st = Some st
decode (token ∷ ts) st = one_more token st >>= decode ts

-- the list of a part leaves the part on the stack

abbrev path_entry : Path → Entry
path_entry (path absolute ss) = ready absolute ss

abbrev term_entry : Term → Entry
term_entry (at_path p) = path_entry p
term_entry (literal token) = word token

abbrev condition_entry : Condition → Entry
condition_entry (lone p) = path_entry p
condition_entry c = condition c

-- a word that comes next begins an entry of its own
abbrev IsFree : Stack → Type 0
IsFree (dotted absolute ss leaves ∷ st) = ⊥
IsFree _ = Unit {0}

term_free : (x : Term) (st : Stack) → IsFree (term_entry x ∷ st)
term_free x st = grind arith

condition_free : (c : Condition) (st : Stack) → IsFree (condition_entry c ∷ st)
condition_free c st = grind arith

inner_back : (c : Condition) → IsCondition c → as_inner (condition_entry c) ≡ Some (filter c)
inner_back c h = grind arith

literal_words : (token : ParseToken) (st : Stack) → IsTrue (is_literal token) → IsFree st → one_more token st ≡ Some (word token ∷ st)
literal_words token st h free = grind arith

bracket_words : (token : ParseToken) (absolute leaves : Bool) (ss : PathSteps) (st : Stack) → IsBracketWord token
    → one_more token (opened absolute ss leaves ∷ st) ≡ Some (word token ∷ opened absolute ss leaves ∷ st)
bracket_words token absolute leaves ss st h = grind arith

compared : (o : FilterToken) (a b : Term) (st : Stack) → IsTrue (is_comparison o)
    → one_more (t.Filter o) (term_entry b ∷ term_entry a ∷ st) ≡ Some (condition (compare a o b) ∷ st)
compared o a b st h = grind arith

joined : (o : FilterToken) (a b : Condition) (st : Stack) → is_comparison o ≡ false → IsCondition a → IsCondition b
    → one_more (t.Filter o) (condition_entry b ∷ condition_entry a ∷ st) ≡ Some (condition (join o a b) ∷ st)
joined o a b st h x y = grind arith

-- a list behind another
abbrev Leaves : List ParseToken → Stack → Stack → Type 0
Leaves ts st next = (rest : List ParseToken) → decode (ts ++ rest) st ≡ decode rest next

after : (a b : List ParseToken) (st mid next : Stack) → Leaves a st mid → Leaves b mid next → Leaves (a ++ b) st next
after a b st mid next f g rest = ap (λ ts. decode ts st) (append_assoc a b rest) ∙ (f (b ++ rest) ∙ g rest)

token_leaves : (token : ParseToken) (st next : Stack) → one_more token st ≡ Some next → Leaves (token ∷ []) st next
token_leaves token st next h rest = ap (λ o. o >>= decode rest) h

-- a step, by what a bracket leaves
step_from : (leaves bracket : Bool) (inner : Inner) (absolute : Bool) (done : PathSteps) (st : Stack) → IsInner bracket inner
    → (IsInner true inner → Leaves (inner_tokens inner ++ t.ArrayEof ∷ []) (opened absolute done leaves ∷ st) (stepped absolute done leaves true inner ∷ st))
    → Leaves (one_step leaves bracket (inner_tokens inner)) (ready absolute done ∷ st) (stepped absolute done leaves bracket inner ∷ st)
step_from leaves bracket inner absolute done st h k = grind arith

-- a path, by what its steps leave
root_from : (absolute : Bool) (ss : PathSteps) (st : Stack) → Leaves (step_tokens ss) (ready absolute no_steps ∷ st) (ready absolute ss ∷ st)
    → Leaves (path_tokens (path absolute ss)) st (ready absolute ss ∷ st)
root_from absolute ss st k = grind arith

mutual
  steps_leave : (ss : PathSteps) (absolute : Bool) (done : PathSteps) (st : Stack) → AreSteps ss
      → Leaves (step_tokens ss) (ready absolute done ∷ st) (ready absolute (then_steps done ss) ∷ st)
  steps_leave no_steps absolute done st h = λ rest. ap (λ ss. decode rest (ready absolute ss ∷ st)) (sym (then_no_steps done))
  steps_leave (step_then leaves bracket inner ss) absolute done st h =
      let more = then_steps done (step_then leaves bracket inner no_steps) in
      let rest = steps_leave ss absolute more st h.1 in
      let same = then_assoc done (step_then leaves bracket inner no_steps) ss in
      after (one_step leaves bracket (inner_tokens inner)) (step_tokens ss) (ready absolute done ∷ st) (ready absolute more ∷ st) _
      (step_from leaves bracket inner absolute done st h.0 (λ i. inner_leaves inner absolute leaves done st i))
      (subst (λ all. Leaves (step_tokens ss) (ready absolute more ∷ st) (ready absolute all ∷ st)) (sym same) rest)

  inner_leaves : (inner : Inner) (absolute leaves : Bool) (done : PathSteps) (st : Stack) → IsInner true inner
      → Leaves (inner_tokens inner ++ t.ArrayEof ∷ []) (opened absolute done leaves ∷ st) (stepped absolute done leaves true inner ∷ st)
  inner_leaves (plain token) absolute leaves done st h = λ rest. ap (λ o. o >>= decode (t.ArrayEof ∷ rest)) (bracket_words token absolute leaves done st h)
  inner_leaves (filter c) absolute leaves done st h =
      let top : Stack = opened absolute done leaves ∷ st in
      after (condition_tokens c) (t.ArrayEof ∷ []) top (condition_entry c ∷ top) _ (condition_leaves c top h tt)
      (token_leaves t.ArrayEof (condition_entry c ∷ top) _ (ap (λ i. closes_on i top) (inner_back c h)))

  condition_leaves : (c : Condition) (st : Stack) → IsCondition c → IsFree st → Leaves (condition_tokens c) st (condition_entry c ∷ st)
  condition_leaves (lone (path absolute ss)) st h free = root_from absolute ss st (steps_leave ss absolute no_steps st h.1)
  condition_leaves (compare a o b) st h free =
      let first : Stack = term_entry a ∷ st in
      let both : Stack = term_entry b ∷ first in
      after (term_tokens a) (term_tokens b ++ t.Filter o ∷ []) st first _ (term_leaves a st h.0 free)
      (after (term_tokens b) (t.Filter o ∷ []) first both _ (term_leaves b first h.2 (term_free a st)) (token_leaves (t.Filter o) both _ (compared o a b st h.1)))
  condition_leaves (join o a b) st h free =
      let first : Stack = condition_entry a ∷ st in
      let both : Stack = condition_entry b ∷ first in
      after (condition_tokens a) (condition_tokens b ++ t.Filter o ∷ []) st first _ (condition_leaves a st h.0 free)
      (after (condition_tokens b) (t.Filter o ∷ []) first both _ (condition_leaves b first h.2 (condition_free a st)) (token_leaves (t.Filter o) both _ (joined o a b st h.1 h.0 h.2)))

  term_leaves : (x : Term) (st : Stack) → IsTerm x → IsFree st → Leaves (term_tokens x) st (term_entry x ∷ st)
  term_leaves (at_path (path absolute ss)) st h free = root_from absolute ss st (steps_leave ss absolute no_steps st h)
  term_leaves (literal token) st h free = token_leaves token st _ (literal_words token st h free)

-- well-formed trees with one token list are one tree
pub one_list : (p q : Path) → IsPath p → IsPath q → path_tokens p ≡ path_tokens q → p ≡ q
one_list (path a ss) (path b us) h k e =
    let left = root_from a ss [] (steps_leave ss a no_steps [] h.1) [] in
    let right = root_from b us [] (steps_leave us b no_steps [] k.1) [] in
    let same : Some (ready a ss ∷ []) ≡ Some (ready b us ∷ []) = sym left ∙ (ap (λ ts. decode (ts ++ []) []) e ∙ right) in
    ap tree_on (some_same _ _ same)
  where
    tree_on : Stack → Path
    tree_on (ready absolute ss ∷ st) = path absolute ss
    tree_on _ = path true no_steps
