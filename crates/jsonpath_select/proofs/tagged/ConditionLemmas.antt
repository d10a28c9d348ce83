-- Lists of tags, tag by tag.
use Rattle.std.proofs.Common.{◌≡◌, ℕ, zero, suc, ◌+◌, ◌-◌, ◌==◌, ◌<◌, Bool, true, false, List, [], ◌∷◌, ◌++◌, drop, cond, refl, sym, ap, ap₂, ◌∙◌, append_assoc, arith, ltb, lt-ltb}
use Rattle.std.specs.List.{prefix_len}
use Rattle.std.proofs.lemmas.Bool.Decides.{nat_tests}
use Rattle.std.proofs.lemmas.List.{drop-map, drop-drop}
use Rattle.jsonpath_paths.specs.declared.token.tokens.FilterToken.{FilterToken}
use Rattle.jsonpath_select.specs.Meaning.{is_some_location}
use Rattle.jsonpath_select.specs.Parts.{joined}
use Rattle.jsonpath_select.specs.plan.Machine.{Tagged, front_of_tag, behind_tag, some_tags, all_tags_or_none, is_next, after, joined_tags}
use Rattle.jsonpath_select.specs.plan.Shown.{tags_of}
use Rattle.jsonpath_select.proofs.tagged.GroupLemmas.{run, behind_tag-run}

-- one tag more or not
pub more : (holds : Bool) (t : ℕ) (out new later all : List ℕ) → new ≡ cond holds (out ++ t ∷ []) out → out ++ cond holds (t ∷ later) later ≡ all → new ++ later ≡ all
more true t out new later all e g = ap (λ (ts : List ℕ). ts ++ later) e ∙ append_assoc out (t ∷ []) later ∙ g
more false t out new later all e g = ap (λ (ts : List ℕ). ts ++ later) e ∙ g

pub none_hold : (t k : ℕ) → all_tags_or_none false t k ≡ []
none_hold t zero = refl
none_hold t (suc k) = none_hold (suc t) k

pub all_next : (count t : ℕ) (out new : List ℕ) → t < count → new ≡ out ++ t ∷ [] → out ++ all_tags_or_none true t (count - t) ≡ all_tags_or_none true 0 count
    → new ++ all_tags_or_none true (t + 1) (count - (t + 1)) ≡ all_tags_or_none true 0 count
all_next count t out new below added held =
    let fewer : count - t ≡ suc (count - (t + 1)) = omega arith in
    let next_tag : suc t ≡ t + 1 = omega arith in
    let rest = all_tags_or_none true (t + 1) (count - (t + 1)) in
    let step : all_tags_or_none true t (count - t) ≡ t ∷ rest = ap (all_tags_or_none true t) fewer ∙ ap (λ u. t ∷ all_tags_or_none true u (count - (t + 1))) next_tag in
    more true t out new rest (all_tags_or_none true 0 count) added (ap (λ (ts : List ℕ). out ++ ts) (sym step) ∙ held)

-- ---- tags that have a location

is_above : (from n : ℕ) → ltb from (from + n) ≡ ltb 0 n
is_above from zero = grind (arith, nat_tests)
is_above from (suc n) = let above : from < from + suc n = omega arith in let some : 0 < suc n = omega arith in lt-ltb from (from + suc n) above ∙ sym (lt-ltb 0 (suc n) some)

some_run : (t : ℕ) (ps : List Tagged) → is_some_location (front_of_tag t ps) ≡ ltb 0 (run t ps)
some_run t [] = refl
some_run t (p ∷ ps) = grind arith

pub reached_next : (ps : List Tagged) (tags : List ℕ) (count t from end : ℕ) (out new : List ℕ) → tags ≡ tags_of ps → t < count → end ≡ from + prefix_len (λ u. u == t) (drop from tags)
    → new ≡ cond (ltb from end) (out ++ t ∷ []) out → out ++ some_tags t (count - t) (drop from ps) ≡ some_tags 0 count ps
    → new ++ some_tags (t + 1) (count - (t + 1)) (drop end ps) ≡ some_tags 0 count ps
reached_next ps tags count t from end out new are below ends added held =
    let left = drop from ps in
    let n = run t left in
    let at_end : end ≡ from + n = ends ∙ ap (λ (us : List ℕ). from + prefix_len (λ u. u == t) us) (ap (drop from) are ∙ drop-map (λ (p : Tagged). p.0) from ps) in
    let test : is_some_location (front_of_tag t left) ≡ ltb from end = some_run t left ∙ sym (is_above from n) ∙ ap (ltb from) (sym at_end) in
    let fewer : count - t ≡ suc (count - (t + 1)) = omega arith in
    let next_tag : suc t ≡ t + 1 = omega arith in
    let rest = some_tags (t + 1) (count - (t + 1)) (drop end ps) in
    let later : some_tags (suc t) (count - (t + 1)) (behind_tag t left) ≡ rest =
    ap (λ (qs : List Tagged). some_tags (suc t) (count - (t + 1)) qs) (behind_tag-run t left ∙ drop-drop n from ps ∙ ap (λ k. drop k ps) (sym at_end))
    ∙ ap (λ u. some_tags u (count - (t + 1)) (drop end ps)) next_tag in
    let step : some_tags t (count - t) left ≡ cond (ltb from end) (t ∷ rest) rest =
    ap (λ k. some_tags t k left) fewer ∙ ap₂ (λ (b : Bool) (ts : List ℕ). cond b (t ∷ ts) ts) test later in
    more (ltb from end) t out new rest (some_tags 0 count ps) added (ap (λ (ts : List ℕ). out ++ ts) (sym step) ∙ held)

-- ---- tags of both lists, or of one of them

after_is : (t : ℕ) (ts : List ℕ) → after t ts ≡ drop (cond (is_next t ts) 1 0) ts
after_is t [] = refl
after_is t (u ∷ us) = grind arith

pub after_past : (t from end : ℕ) (ts : List ℕ) → end ≡ from + cond (is_next t (drop from ts)) 1 0 → after t (drop from ts) ≡ drop end ts
after_past t from end ts goes = after_is t (drop from ts) ∙ drop-drop (cond (is_next t (drop from ts)) 1 0) from ts ∙ ap (λ k. drop k ts) (sym goes)

pub is_past : (b : Bool) (from end : ℕ) → end ≡ from + cond b 1 0 → ltb from end ≡ b
is_past true from end goes = let above : from < end = omega (arith, goes) in lt-ltb from end above
is_past false from end goes = ap (ltb from) goes ∙ is_above from 0

pub join_next : (op : FilterToken) (left right : List ℕ) (count t lf le rf re : ℕ) (holds : Bool) (out new : List ℕ) → t < count
    → le ≡ lf + cond (is_next t (drop lf left)) 1 0 → re ≡ rf + cond (is_next t (drop rf right)) 1 0 → holds ≡ joined op (ltb lf le) (ltb rf re)
    → new ≡ cond holds (out ++ t ∷ []) out → out ++ joined_tags op t (count - t) (drop lf left) (drop rf right) ≡ joined_tags op 0 count left right
    → new ++ joined_tags op (t + 1) (count - (t + 1)) (drop le left) (drop re right) ≡ joined_tags op 0 count left right
join_next op left right count t lf le rf re holds out new below goes_left goes_right is added held =
    let fewer : count - t ≡ suc (count - (t + 1)) = omega arith in
    let next_tag : suc t ≡ t + 1 = omega arith in
    let rest = joined_tags op (t + 1) (count - (t + 1)) (drop le left) (drop re right) in
    let test : joined op (is_next t (drop lf left)) (is_next t (drop rf right)) ≡ holds =
    sym (is ∙ ap₂ (joined op) (is_past (is_next t (drop lf left)) lf le goes_left) (is_past (is_next t (drop rf right)) rf re goes_right)) in
    let later : joined_tags op (suc t) (count - (t + 1)) (after t (drop lf left)) (after t (drop rf right)) ≡ rest =
    ap₂ (joined_tags op (suc t) (count - (t + 1))) (after_past t lf le left goes_left) (after_past t rf re right goes_right)
    ∙ ap (λ u. joined_tags op u (count - (t + 1)) (drop le left) (drop re right)) next_tag in
    let step : joined_tags op t (count - t) (drop lf left) (drop rf right) ≡ cond holds (t ∷ rest) rest =
    ap (λ k. joined_tags op t k (drop lf left) (drop rf right)) fewer ∙ ap₂ (λ (b : Bool) (ts : List ℕ). cond b (t ∷ ts) ts) test later in
    more holds t out new rest (joined_tags op 0 count left right) added (ap (λ (ts : List ℕ). out ++ ts) (sym step) ∙ held)
