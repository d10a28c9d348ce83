-- Tokens that fit are those of a path.
use Rattle.std.proofs.Common.{◌≡◌, Bool, true, false, ◌&&◌, List, [], ◌∷◌, ◌++◌, cond, Option, Some, None, refl, sym, ap, ap₂, ◌∙◌, append_assoc, append-nil, option_and_then, option_map}
use Rattle.jsonpath_paths.specs.tree.Tree.{Path, path, PathSteps, no_steps, step_then, Inner, plain, filter, Condition, lone, compare, join, Term, at_path, literal, is_comparison}
use Rattle.jsonpath_paths.specs.tree.Visit.{opening, one_step, path_tokens, step_tokens, inner_tokens, condition_tokens, term_tokens}
use Rattle.jsonpath_paths.specs.tree.WellFormed.{IsPath, AreSteps, IsInner, IsCondition, IsTerm, is_dot_word, is_literal}
use Rattle.jsonpath_paths.specs.declared.token.tokens.FilterToken.{FilterToken}
use Rattle.jsonpath_paths.specs.declared.token.tokens.ParseToken.{ParseToken}
use Rattle.jsonpath_paths.specs.declared.token.tokens.ParseToken.TheVariants as t
use Rattle.jsonpath_select.specs.plan.Fits.{Entry, ready, dotted, opened, a_word, condition, may_stand_alone_in_brackets, may_stand_in_brackets, is_term_entry, is_condition_entry, takes_dots, takes_array, takes_end, pushed, worded, ended, fits, fits_from, is_one_path_from_root, is_token_list_of_path}
use Rattle.jsonpath_select.proofs.compile.BracketWordLemmas.{bracket_from}

-- ---- a path with one more step

abbrev and_step : PathSteps → Bool → Bool → Inner → PathSteps
and_step no_steps l b i = step_then l b i no_steps
and_step (step_then l' b' i' ss) l b i = step_then l' b' i' (and_step ss l b i)

then_are : (ss : PathSteps) (l b : Bool) (i : Inner) → AreSteps ss → IsInner b i → AreSteps (and_step ss l b i)
then_are no_steps l b i h g = (g, tt)
then_are (step_then l' b' i' ss) l b i h g = (h.0, then_are ss l b i h.1 g)

then_tokens : (ss : PathSteps) (l b : Bool) (i : Inner) → step_tokens (and_step ss l b i) ≡ step_tokens ss ++ one_step l b (inner_tokens i)
then_tokens no_steps l b i = append-nil (one_step l b (inner_tokens i))
then_tokens (step_then l' b' i' ss) l b i =
    ap (λ (ts : List ParseToken). one_step l' b' (inner_tokens i') ++ ts) (then_tokens ss l b i) ∙ sym (append_assoc (one_step l' b' (inner_tokens i')) (step_tokens ss) (one_step l b (inner_tokens i)))

path_then : (a : Bool) (ss : PathSteps) (l b : Bool) (i : Inner) → path_tokens (path a ss) ++ one_step l b (inner_tokens i) ≡ path_tokens (path a (and_step ss l b i))
path_then true ss l b i = ap (λ (ts : List ParseToken). t.Absolute ∷ ts) (sym (then_tokens ss l b i))
path_then false ss l b i = ap (λ (ts : List ParseToken). t.Relative ∷ ts) (sym (then_tokens ss l b i))

-- ---- what stands on the stack

abbrev Spells : List ParseToken → Entry → Type 0
Spells ts (ready a) = (ss : PathSteps) × AreSteps ss × (ts ≡ path_tokens (path a ss))
Spells ts (dotted a l) = (ss : PathSteps) × AreSteps ss × (ts ≡ path_tokens (path a ss) ++ opening l false)
Spells ts (opened a l) = (ss : PathSteps) × AreSteps ss × (ts ≡ path_tokens (path a ss) ++ opening l true)
Spells ts (a_word alone term) = (token : ParseToken) × (alone ≡ may_stand_alone_in_brackets token) × (term ≡ is_literal token) × (ts ≡ token ∷ [])
Spells ts condition = (c : Condition) × IsCondition c × (ts ≡ condition_tokens c)

abbrev SpellsAll : List ParseToken → List Entry → Type 0
SpellsAll ts [] = ts ≡ []
SpellsAll ts (k ∷ ks) = (before : List ParseToken) × (own : List ParseToken) × SpellsAll before ks × Spells own k × (ts ≡ before ++ own)

abbrev SpellsOne : List ParseToken → Option Entry → Type 0
SpellsOne ts None = Unit {0}
SpellsOne ts (Some k) = Spells ts k

abbrev SpellsNext : List ParseToken → Option (List Entry) → Type 0
SpellsNext ts None = Unit {0}
SpellsNext ts (Some ks) = SpellsAll ts ks

-- ---- parts of a tree from what they fit as

inner_from : (k : Entry) (own : List ParseToken) → may_stand_in_brackets k ≡ true → Spells own k → (i : Inner) × IsInner true i × (own ≡ inner_tokens i)
inner_from (ready false) own h s = (filter (lone (path false s.0)), (refl, s.1), s.2)
inner_from (a_word alone term) own h s = (plain s.0, bracket_from s.0 (sym s.1 ∙ h), s.3)
inner_from condition own h s = (filter s.0, s.1, s.2)
inner_from _ own h s = cc

condition_from : (k : Entry) (own : List ParseToken) → is_condition_entry k ≡ true → Spells own k → (c : Condition) × IsCondition c × (own ≡ condition_tokens c)
condition_from (ready false) own h s = (lone (path false s.0), (refl, s.1), s.2)
condition_from condition own h s = s
condition_from _ own h s = cc

term_from : (k : Entry) (own : List ParseToken) → is_term_entry k ≡ true → Spells own k → (a : Term) × IsTerm a × (own ≡ term_tokens a)
term_from (ready a) own h s = (at_path (path a s.0), s.1, s.2)
term_from (a_word alone term) own h s = (literal s.0, sym s.2 ∙ h, s.3)
term_from _ own h s = cc

-- ---- one token more

top_next : (o : Option Entry) (token : ParseToken) (ts before own : List ParseToken) (ks : List Entry) → SpellsAll before ks → ts ≡ before ++ own → SpellsOne (own ++ token ∷ []) o → SpellsNext (ts ++ token ∷ []) (option_map (λ x. x ∷ ks) o)
top_next None token ts before own ks h e s = tt
top_next (Some k) token ts before own ks h e s = (before, own ++ token ∷ [], h, s, ap (λ (us : List ParseToken). us ++ token ∷ []) e ∙ append_assoc before own (token ∷ []))

with_dots : (l : Bool) (k : Entry) (own : List ParseToken) → Spells own k → SpellsOne (own ++ opening l false) (takes_dots l k)
with_dots l (ready a) own s = (s.0, s.1, ap (λ (us : List ParseToken). us ++ opening l false) s.2)
with_dots l _ own s = tt

with_array : (k : Entry) (own : List ParseToken) → Spells own k → SpellsOne (own ++ t.Array ∷ []) (takes_array k)
with_array (ready a) own s = (s.0, s.1, ap (λ (us : List ParseToken). us ++ t.Array ∷ []) s.2)
with_array (dotted a true) own s = (s.0, s.1, ap (λ (us : List ParseToken). us ++ t.Array ∷ []) s.2 ∙ append_assoc (path_tokens (path a s.0)) (t.Leaves ∷ []) (t.Array ∷ []))
with_array _ own s = tt

push_next : (k : Entry) (token : ParseToken) (ts : List ParseToken) (ks : List Entry) → SpellsAll ts ks → Spells (token ∷ []) k → SpellsAll (ts ++ token ∷ []) (k ∷ ks)
push_next k token ts ks h s = (ts, token ∷ [], h, s, refl)

word_next : (token : ParseToken) (ts : List ParseToken) (ks : List Entry) → SpellsAll ts ks → SpellsAll (ts ++ token ∷ []) (pushed token ks)
word_next token ts ks h = push_next (a_word (may_stand_alone_in_brackets token) (is_literal token)) token ts ks h (token, refl, refl, refl)

dot_word : (b : Bool) (token : ParseToken) (a l : Bool) (ts before own : List ParseToken) (ks : List Entry) → is_dot_word token ≡ b → SpellsAll before ks → Spells own (dotted a l) → ts ≡ before ++ own
    → SpellsNext (ts ++ token ∷ []) (cond b (Some (ready a ∷ ks)) None)
dot_word false token a l ts before own ks is h s e = tt
dot_word true token a l ts before own ks is h s e =
    top_next (Some (ready a)) token ts before own ks h e (
      and_step s.0 l false (plain token),
      then_are s.0 l false (plain token) s.1 is,
      ap (λ (us : List ParseToken). us ++ token ∷ []) s.2 ∙ append_assoc (path_tokens (path a s.0)) (opening l false) (token ∷ []) ∙ path_then a s.0 l false (plain token),
    )

worded_next : (token : ParseToken) (ts : List ParseToken) (ks : List Entry) → SpellsAll ts ks → SpellsNext (ts ++ token ∷ []) (worded token ks)
worded_next token ts [] h = word_next token ts [] h
worded_next token ts (dotted a l ∷ ks) h = dot_word (is_dot_word token) token a l ts h.0 h.1 ks refl h.2 h.3 h.4
worded_next token ts ks h = word_next token ts ks h

end_next : (b : Bool) (x k : Entry) (ts before own : List ParseToken) (ks : List Entry) → may_stand_in_brackets x ≡ b → SpellsAll before (k ∷ ks) → Spells own x → ts ≡ before ++ own
    → SpellsNext (ts ++ t.ArrayEof ∷ []) (cond b (option_map (λ y. y ∷ ks) (takes_end k)) None)
end_next false x k ts before own ks is h s e = tt
end_next true x (ready a) ts before own ks is h s e = tt
end_next true x (dotted a l) ts before own ks is h s e = tt
end_next true x (a_word alone term) ts before own ks is h s e = tt
end_next true x condition ts before own ks is h s e = tt
end_next true x (opened a l) ts before own ks is h s e =
    let inner = inner_from x own is s in
    let head = h.3 in (
      h.0,
      h.1 ++ (own ++ t.ArrayEof ∷ []),
      h.2,
      (
        and_step head.0 l true inner.0,
        then_are head.0 l true inner.0 head.1 inner.1,
        ap₂ (λ (us vs : List ParseToken). us ++ (vs ++ t.ArrayEof ∷ [])) head.2 inner.2
            ∙ append_assoc (path_tokens (path a head.0)) (opening l true) (inner_tokens inner.0 ++ t.ArrayEof ∷ [])
            ∙ path_then a head.0 l true inner.0,
      ),
      ap₂ (λ (us vs : List ParseToken). us ++ vs) (e ∙ ap (λ (us : List ParseToken). us ++ own) h.4) refl
          ∙ append_assoc (h.0 ++ h.1) own (t.ArrayEof ∷ []) ∙ append_assoc h.0 h.1 (own ++ t.ArrayEof ∷ []),
    )

ended_next : (ts : List ParseToken) (ks : List Entry) → SpellsAll ts ks → SpellsNext (ts ++ t.ArrayEof ∷ []) (ended ks)
ended_next ts [] h = tt
ended_next ts (x ∷ []) h = none (may_stand_in_brackets x)
  where
    none : (b : Bool) → SpellsNext (ts ++ t.ArrayEof ∷ []) (cond b None None)
    none true = tt
    none false = tt
ended_next ts (x ∷ k ∷ ks) h = end_next (may_stand_in_brackets x) x k ts h.0 h.1 ks refl h.2 h.3 h.4

-- two parts on the stack and what joins them
two_next : (token : ParseToken) (ts before mid left right : List ParseToken) (ks : List Entry) (c : Condition) → SpellsAll before ks → mid ≡ before ++ left → ts ≡ mid ++ right → IsCondition c
    → left ++ (right ++ token ∷ []) ≡ condition_tokens c → SpellsAll (ts ++ token ∷ []) (condition ∷ ks)
two_next token ts before mid left right ks c h first second is same = (
  before,
  left ++ (right ++ token ∷ []),
  h,
  (c, is, same),
  ap (λ (us : List ParseToken). us ++ token ∷ []) (second ∙ ap (λ (us : List ParseToken). us ++ right) first)
      ∙ append_assoc (before ++ left) right (token ∷ []) ∙ append_assoc before left (right ++ token ∷ []),
)

-- two parts on the stack that both fit, and what joins them
parts_next : {A : Type 0} (is_part : Entry → Bool) (Fits : A → Type 0) (spelled : A → List ParseToken)
    → ((k : Entry) (own : List ParseToken) → is_part k ≡ true → Spells own k → (a : A) × Fits a × (own ≡ spelled a))
    → (op : FilterToken) (whole : A → A → Condition) → ((a b : A) → Fits a → Fits b → IsCondition (whole a b)) → ((a b : A) → spelled a ++ (spelled b ++ t.Filter op ∷ []) ≡ condition_tokens (whole a b))
    → (b c : Bool) (x y : Entry) (ts : List ParseToken) (ks : List Entry) → is_part x ≡ b → is_part y ≡ c → SpellsAll ts (y ∷ x ∷ ks) → SpellsNext (ts ++ t.Filter op ∷ []) (cond (b && c) (Some (condition ∷ ks)) None)
parts_next is_part Fits spelled from op whole fit same true true x y ts ks f g h =
    let left = h.2 in
    let a = from x left.1 f left.3 in
    let b = from y h.1 g h.3 in
    two_next (t.Filter op) ts left.0 h.0 left.1 h.1 ks (whole a.0 b.0) left.2 left.4 h.4 (fit a.0 b.0 a.1 b.1) (ap₂ (λ (us vs : List ParseToken). us ++ (vs ++ t.Filter op ∷ [])) a.2 b.2 ∙ same a.0 b.0)
parts_next is_part Fits spelled from op whole fit same true false x y ts ks f g h = tt
parts_next is_part Fits spelled from op whole fit same false c x y ts ks f g h = tt

operated_next : (compares : Bool) (op : FilterToken) (x y : Entry) (ts : List ParseToken) (ks : List Entry) → is_comparison op ≡ compares → SpellsAll ts (y ∷ x ∷ ks)
    → SpellsNext (ts ++ t.Filter op ∷ []) (cond (cond compares (is_term_entry x && is_term_entry y) (is_condition_entry x && is_condition_entry y)) (Some (condition ∷ ks)) None)
operated_next true op x y ts ks is h =
    parts_next is_term_entry IsTerm term_tokens term_from op (λ a b. compare a op b) (λ a b f g. (f, is, g)) (λ a b. refl) (is_term_entry x) (is_term_entry y) x y ts ks refl refl h
operated_next false op x y ts ks is h =
    parts_next is_condition_entry IsCondition condition_tokens condition_from op (λ a b. join op a b) (λ a b f g. (f, is, g)) (λ a b. refl) (is_condition_entry x) (is_condition_entry y) x y ts ks refl refl h

next : (token : ParseToken) (ts : List ParseToken) (ks : List Entry) → SpellsAll ts ks → SpellsNext (ts ++ token ∷ []) (fits token ks)
next t.Absolute ts ks h = push_next (ready true) t.Absolute ts ks h (no_steps, tt, refl)
next t.Relative ts ks h = push_next (ready false) t.Relative ts ks h (no_steps, tt, refl)
next t.In ts [] h = tt
next t.In ts (k ∷ ks) h = top_next (takes_dots false k) t.In ts h.0 h.1 ks h.2 h.4 (with_dots false k h.1 h.3)
next t.Leaves ts [] h = tt
next t.Leaves ts (k ∷ ks) h = top_next (takes_dots true k) t.Leaves ts h.0 h.1 ks h.2 h.4 (with_dots true k h.1 h.3)
next t.Array ts [] h = tt
next t.Array ts (k ∷ ks) h = top_next (takes_array k) t.Array ts h.0 h.1 ks h.2 h.4 (with_array k h.1 h.3)
next t.ArrayEof ts ks h = ended_next ts ks h
next (t.Filter op) ts [] h = tt
next (t.Filter op) ts (y ∷ []) h = tt
next (t.Filter op) ts (y ∷ x ∷ ks) h = operated_next (is_comparison op) op x y ts ks refl h
next t.Eof ts ks h = tt
next token ts ks h = worded_next token ts ks h

-- all tokens
from_next : (o : Option (List Entry)) (token : ParseToken) (ts us : List ParseToken) → ((ks : List Entry) → SpellsAll (ts ++ token ∷ []) ks → SpellsNext (ts ++ token ∷ us) (fits_from us ks))
    → SpellsNext (ts ++ token ∷ []) o → SpellsNext (ts ++ token ∷ us) (option_and_then (fits_from us) o)
from_next None token ts us go h = tt
from_next (Some ks) token ts us go h = go ks h

next_all : (us ts : List ParseToken) (ks : List Entry) → SpellsAll ts ks → SpellsNext (ts ++ us) (fits_from us ks)
next_all [] ts ks h = rw (append-nil ts) h
next_all (token ∷ us) ts ks h =
    from_next (fits token ks) token ts us (λ js g. rw (sym (append_assoc ts (token ∷ []) us)) (next_all us (ts ++ token ∷ []) js g)) (next token ts ks h)

-- the path that a whole list spells
whole_from : (o : Option (List Entry)) (ts : List ParseToken) → is_one_path_from_root o ≡ true → SpellsNext ts o → (p : Path) × IsPath p × (path_tokens p ≡ ts)
whole_from (Some (ready true ∷ [])) ts w h = (path true h.3.0, (refl, h.3.1), sym (h.4 ∙ ap₂ (λ (us vs : List ParseToken). us ++ vs) h.2 h.3.2))
whole_from (Some (ready false ∷ [])) ts w h = cc
whole_from _ ts w h = cc

pub whole_list : (ts : List ParseToken) → is_token_list_of_path ts ≡ true → (p : Path) × IsPath p × (path_tokens p ≡ ts)
whole_list ts h = whole_from (fits_from ts []) ts h (next_all ts [] [] refl)
