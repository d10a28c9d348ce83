-- Texts that stand in quotes as they are.
use Rattle.std.proofs.Common.{◌≡◌, ℕ, ◌+◌, ◌<◌, ◌≤◌, List, [], ◌∷◌, ◌++◌, length, drop, get_or, sym, ap, ap₂, ◌∙◌, subst, refl, add-one, drop-cons}
use Rattle.json.specs.Print.{escape}
use Rattle.json.proofs.Printed.Strings.{escape_byte_plain}

pub plain_more : (bs : List ℕ) (i : ℕ) → i < length bs → 32 ≤ get_or bs i 0 → (get_or bs i 0 ≡ 34 → ⊥) → (get_or bs i 0 ≡ 92 → ⊥)
    → escape (drop (i + 1) bs) ≡ drop (i + 1) bs → escape (drop i bs) ≡ drop i bs
plain_more bs i h low quote guard e =
    let cut = drop-cons bs i 0 h in
    let rest = subst (λ n. escape (drop n bs) ≡ drop n bs) (add-one i) e in
    ap escape cut ∙ (ap₂ (λ (xs ys : List ℕ). xs ++ ys) (escape_byte_plain (get_or bs i 0) quote guard low) rest ∙ sym cut)

pub plain_none : (bs : List ℕ) → length bs ≡ 0 → escape bs ≡ bs
plain_none [] h = refl
plain_none (b ∷ bs) h = cc
