-- The longest run of characters that pass a test, one character at a time.
use Rattle.std.proofs.Common.{◌≡◌, ℕ, suc, ◌+◌, Bool, true, false, List, [], ◌∷◌, cond, sym, ◌∙◌, ap, arith, take, add-zero}
use Rattle.std.specs.List.{take_while, prefix_len}
use Rattle.jsonpath_paths.specs.text.TextPlace.{Place, ahead, past}

pub one_more : (n : ℕ) → 1 + n ≡ suc n
one_more n = omega arith

take_while-pass : (test : ℕ → Bool) (c : ℕ) (cs : List ℕ) → test c ≡ true → take_while test (c ∷ cs) ≡ c ∷ take_while test cs
take_while-pass test c cs h = grind arith

take_while-fail : (test : ℕ → Bool) (c : ℕ) (cs : List ℕ) → test c ≡ false → take_while test (c ∷ cs) ≡ []
take_while-fail test c cs h = ap (λ b. take (cond b (1 + prefix_len test cs) 0) (c ∷ cs)) h

pub past_none : (p : Place) → past p [] ≡ p
past_none p = ap (λ n. let q : Place = record { text = p.text; pos = n } in q) (add-zero p.pos)

pub run_more : (test : ℕ → Bool) (p q : Place) (c : ℕ) → ahead p ≡ c ∷ ahead q → q ≡ past p (c ∷ []) → test c ≡ true
    → past q (take_while test (ahead q)) ≡ past p (take_while test (ahead p))
run_more test p q c e f h = grind (arith, take_while-pass)

pub run_stops : (test : ℕ → Bool) (p : Place) (c : ℕ) (cs : List ℕ) → ahead p ≡ c ∷ cs → test c ≡ false → p ≡ past p (take_while test (ahead p))
run_stops test p c cs e h = sym (ap (past p) (ap (take_while test) e ∙ take_while-fail test c cs h) ∙ past_none p)

pub run_ends : (test : ℕ → Bool) (p : Place) → ahead p ≡ [] → p ≡ past p (take_while test (ahead p))
run_ends test p e = sym (ap (λ cs. past p (take_while test cs)) e ∙ past_none p)

-- one character further, where a copy of the place is moved and put back
pub moved_on : (p q r s : Place) (c : ℕ) → q ≡ p → ahead q ≡ c ∷ ahead r → r ≡ past q (c ∷ []) → s ≡ r → (ahead p ≡ c ∷ ahead s) × (s ≡ past p (c ∷ []))
moved_on p q r s c same e f copy = (ap ahead (sym same) ∙ (e ∙ ap (λ x. c ∷ ahead x) (sym copy)), copy ∙ (f ∙ ap (λ x. past x (c ∷ [])) same))
