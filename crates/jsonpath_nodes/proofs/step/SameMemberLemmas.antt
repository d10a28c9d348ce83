-- What is among the lists that steps make.
use Rattle.std.proofs.Common.{◌≡◌, ◌⊎◌, inl, inr, List, [], ◌∷◌, ◌++◌, Bool, true, false, cond, ◌||◌, refl, sym, ap, ◌∙◌, subst, arith}
use Rattle.std.specs.Prelude.{filter}
use Rattle.std.proofs.Math.Bool.{or-true}
use Rattle.std.specs.List.{list_any}
use Rattle.jsonpath_nodes.specs.document.Document.{Document}
use Rattle.jsonpath_nodes.specs.place.Location.{Location, below, flat, is_same, location_cmp}
use Rattle.jsonpath_nodes.specs.step.Steps.{single_steps, from, from_each, each_once, each_once_after, flattened}
use Rattle.jsonpath_nodes.proofs.place.CompleteLemmas.{IsAmong, Contains-among, among-Contains, among_front, among_back, among_split}
use Rattle.jsonpath_nodes.proofs.step.OnceLemmas.{location_same}
use Rattle.jsonpath_nodes.proofs.update.GroupLemmas.{is_equal}
use Rattle.jsonpath_nodes.specs.step.SameMembers.{SameMembers, StepOfASet, BelowOfASet, CandidatesOfASet, KeptOfASet, SomeOfASet, JoinedSets, EachOnceKeepsMembers}

-- what is among the first is among the second
abbrev pub Covers : List Location → List Location → Type 0
Covers ls ms = (l : Location) → IsAmong l ls → IsAmong l ms

pub same_members : (ls ms : List Location) → Covers ls ms → Covers ms ls → SameMembers ls ms
same_members ls ms to back l = (λ h. Contains-among l ms (to l (among-Contains l ls h)), λ h. Contains-among l ls (back l (among-Contains l ms h)))

pub covers : (ls ms : List Location) → SameMembers ls ms → Covers ls ms
covers ls ms h l a = among-Contains l ms ((h l).0 (Contains-among l ls a))

pub covers_back : (ls ms : List Location) → SameMembers ls ms → Covers ms ls
covers_back ls ms h l a = among-Contains l ls ((h l).1 (Contains-among l ms a))

pub same-trans : (ls ms ns : List Location) → SameMembers ls ms → SameMembers ms ns → SameMembers ls ns
same-trans ls ms ns h k = same_members ls ns (λ l a. covers ms ns k l (covers ls ms h l a)) (λ l a. covers_back ls ms h l (covers_back ms ns k l a))

pub same-sym : (ls ms : List Location) → SameMembers ls ms → SameMembers ms ls
same-sym ls ms h = same_members ms ls (covers_back ls ms h) (covers ls ms h)

-- ---- joined lists

joined_covers : (ls ms xs ys : List Location) → Covers ls ms → Covers xs ys → Covers (ls ++ xs) (ms ++ ys)
joined_covers ls ms xs ys one two l a = by (among_split l ls xs a)
  where
    by : IsAmong l ls ⊎ IsAmong l xs → IsAmong l (ms ++ ys)
    by (inl k) = among_front l ms ys (one l k)
    by (inr k) = among_back l ms ys (two l k)

pub joined_sets : JoinedSets
joined_sets ls ms xs ys one two =
    same_members (ls ++ xs) (ms ++ ys) (joined_covers ls ms xs ys (covers ls ms one) (covers xs ys two)) (joined_covers ms ls ys xs (covers_back ls ms one) (covers_back xs ys two))

-- ---- from each

pub from_each_to : (doc : Document) (f : Document → List Location) (l x : Location) (ls : List Location) → IsAmong l ls → IsAmong x (from doc f l) → IsAmong x (from_each doc f ls)
from_each_to doc f l x [] h k = elim h [ ]
from_each_to doc f l x (m ∷ ls) (inl e) k = among_front x (from doc f m) (from_each doc f ls) (subst (λ (n : Location). IsAmong x (from doc f n)) e k)
from_each_to doc f l x (m ∷ ls) (inr h) k = among_back x (from doc f m) (from_each doc f ls) (from_each_to doc f l x ls h k)

pub from_each_back : (doc : Document) (f : Document → List Location) (x : Location) (ls : List Location) → IsAmong x (from_each doc f ls) → (l : Location) × IsAmong l ls × IsAmong x (from doc f l)
from_each_back doc f x [] h = elim h [ ]
from_each_back doc f x (m ∷ ls) h = by (among_split x (from doc f m) (from_each doc f ls) h) (from_each_back doc f x ls)
  where
    by : IsAmong x (from doc f m) ⊎ IsAmong x (from_each doc f ls) → (IsAmong x (from_each doc f ls) → (l : Location) × IsAmong l ls × IsAmong x (from doc f l))
        → (l : Location) × IsAmong l (m ∷ ls) × IsAmong x (from doc f l)
    by (inl k) go = (m, inl refl, k)
    by (inr k) go = let found = go k in (found.0, inr found.1, found.2)

from_each-covers : (doc : Document) (f : Document → List Location) (ls ms : List Location) → Covers ls ms → Covers (from_each doc f ls) (from_each doc f ms)
from_each-covers doc f ls ms h x a = let found = from_each_back doc f x ls a in from_each_to doc f found.0 x ms (h found.0 found.1) found.2

pub from_each-same : (doc : Document) (f : Document → List Location) (ls ms : List Location) → SameMembers ls ms → SameMembers (from_each doc f ls) (from_each doc f ms)
from_each-same doc f ls ms h =
    same_members (from_each doc f ls) (from_each doc f ms) (from_each-covers doc f ls ms (covers ls ms h)) (from_each-covers doc f ms ls (covers_back ls ms h))

pub step_of_a_set : StepOfASet
step_of_a_set doc p = from_each-same doc (single_steps p)

pub below_of_a_set : BelowOfASet
below_of_a_set doc = from_each-same doc below

-- ---- tests

pub any_to : (test : Location → Bool) (l : Location) (ls : List Location) → IsAmong l ls → test l ≡ true → list_any test ls ≡ true
any_to test l [] h e = elim h [ ]
any_to test l (m ∷ ls) (inl is) e = ap (λ (b : Bool). b || list_any test ls) (ap test (sym is) ∙ e)
any_to test l (m ∷ ls) (inr h) e = ap (λ (b : Bool). test m || b) (any_to test l ls h e) ∙ or-true (test m)

pub any_back : (test : Location → Bool) (ls : List Location) → list_any test ls ≡ true → (l : Location) × IsAmong l ls × (test l ≡ true)
any_back test [] h = cc
any_back test (m ∷ ls) h = grind (arith, any_back test ls)

pub equal_tests : (a b : Bool) → (a ≡ true → b ≡ true) → (b ≡ true → a ≡ true) → a ≡ b
equal_tests a b to back = grind arith

pub any_same : SomeOfASet
any_same test ls ms h =
    equal_tests (list_any test ls) (list_any test ms)
    (λ e. let found = any_back test ls e in any_to test found.0 ms (covers ls ms h found.0 found.1) found.2)
    (λ e. let found = any_back test ms e in any_to test found.0 ls (covers_back ls ms h found.0 found.1) found.2)

pub same_is : (l m : Location) → is_same l m ≡ true → l ≡ m
same_is l m e = location_same l m (is_equal (location_cmp l m) e)

-- ---- filtered

pub filter_to : (test : Location → Bool) (l : Location) (ls : List Location) → IsAmong l ls → test l ≡ true → IsAmong l (filter test ls)
filter_to test l [] h e = elim h [ ]
filter_to test l (m ∷ ls) (inl is) e = subst (λ (b : Bool). IsAmong l (cond b (m ∷ filter test ls) (filter test ls))) (sym (ap test (sym is) ∙ e)) (inl is)
filter_to test l (m ∷ ls) (inr h) e = grind (arith, filter_to test l ls h e)

pub filter_back : (test : Location → Bool) (l : Location) (ls : List Location) → IsAmong l (filter test ls) → IsAmong l ls × (test l ≡ true)
filter_back test l [] h = elim h [ ]
filter_back test l (m ∷ ls) h = grind (arith, filter_back test l ls)

pub filter-same : KeptOfASet
filter-same test ls ms h =
    same_members (filter test ls) (filter test ms)
    (λ l a. let found = filter_back test l ls a in filter_to test l ms (covers ls ms h l found.0) found.1)
    (λ l a. let found = filter_back test l ms a in filter_to test l ls (covers_back ls ms h l found.0) found.1)

-- ---- each once

once_back : (l : Location) (before ls : List Location) → IsAmong l (each_once_after before ls) → IsAmong l ls
once_back l before [] h = h
once_back l before (x ∷ ls) h = grind (arith, once_back l before ls, once_back l (before ++ x ∷ []) ls)

once_to : (l : Location) (before ls : List Location) → IsAmong l ls → IsAmong l before ⊎ IsAmong l (each_once_after before ls)
once_to l before [] h = inr h
once_to l before (x ∷ ls) h = by (list_any (is_same x) before) refl h (once_to l before ls) (once_to l (before ++ x ∷ []) ls)
  where
    new_or : IsAmong l (before ++ x ∷ []) ⊎ IsAmong l (each_once_after (before ++ x ∷ []) ls) → IsAmong l before ⊎ IsAmong l (x ∷ each_once_after (before ++ x ∷ []) ls)
    new_or (inr a) = inr (inr a)
    new_or (inl a) = split (among_split l before (x ∷ []) a)
      where
        split : IsAmong l before ⊎ IsAmong l (x ∷ []) → IsAmong l before ⊎ IsAmong l (x ∷ each_once_after (before ++ x ∷ []) ls)
        split (inl k) = inl k
        split (inr (inl e)) = inr (inl e)
        split (inr (inr k)) = elim k [ ]

    by : (b : Bool) → list_any (is_same x) before ≡ b → IsAmong l (x ∷ ls) → (IsAmong l ls → IsAmong l before ⊎ IsAmong l (each_once_after before ls))
        → (IsAmong l ls → IsAmong l (before ++ x ∷ []) ⊎ IsAmong l (each_once_after (before ++ x ∷ []) ls))
        → IsAmong l before ⊎ IsAmong l (cond b (each_once_after before ls) (x ∷ each_once_after (before ++ x ∷ []) ls))
    by true is (inl e) old new =
        let found = any_back (is_same x) before is in
        inl (subst (λ (y : Location). IsAmong y before) (sym (e ∙ same_is x found.0 found.2)) found.1)
    by true is (inr a) old new = old a
    by false is (inl e) old new = inr (inl e)
    by false is (inr a) old new = new_or (new a)

pub each_once_keeps_members : EachOnceKeepsMembers
each_once_keeps_members ls = same_members (each_once ls) ls (λ l. once_back l [] ls) (λ l a. by l (once_to l [] ls a))
  where
    by : (l : Location) → IsAmong l [] ⊎ IsAmong l (each_once ls) → IsAmong l (each_once ls)
    by l (inl h) = elim h [ ]
    by l (inr h) = h

pub candidates_of_a_set : CandidatesOfASet
candidates_of_a_set doc ls ms h =
    same-trans (flattened doc ls) (from_each doc flat ls) (flattened doc ms) (each_once_keeps_members (from_each doc flat ls))
    (same-trans (from_each doc flat ls) (from_each doc flat ms) (flattened doc ms) (from_each-same doc flat ls ms h) (same-sym (flattened doc ms) (from_each doc flat ms) (each_once_keeps_members (from_each doc flat ms))))
