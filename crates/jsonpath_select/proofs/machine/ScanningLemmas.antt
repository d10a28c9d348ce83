-- The scan, token by token from the end.
use Rattle.std.proofs.Common.{◌≡◌, ℕ, suc, ◌+◌, ◌-◌, ◌<◌, List, ◌∷◌, length, drop, get_or, sym, ap, ◌∙◌, arith, drop-cons}
use Rattle.jsonpath_select.specs.plan.Code.{Scan, scan, scanned}
use Rattle.jsonpath_paths.specs.declared.token.tokens.ParseToken.{ParseToken}

pub scan_next : (ts : List ParseToken) (i : ℕ) (t : ParseToken) (s s' : Scan) → i < length ts → t ≡ get_or ts (length ts - 1 - i) t → s ≡ scan (drop (length ts - i) ts) → s' ≡ scanned t s
    → s' ≡ scan (drop (length ts - (i + 1)) ts)
scan_next ts i t s s' below is held next =
    let k = length ts - 1 - i in
    let here : length ts - (i + 1) ≡ k = omega arith in
    let there : suc k ≡ length ts - i = omega arith in
    let within : k < length ts = omega arith in
    let front : drop (length ts - (i + 1)) ts ≡ t ∷ drop (length ts - i) ts =
    ap (λ n. drop n ts) here ∙ drop-cons ts k t within ∙ ap (λ (x : ParseToken). x ∷ drop (suc k) ts) (sym is) ∙ ap (λ n. t ∷ drop n ts) there in
    next ∙ ap (scanned t) held ∙ ap (λ (us : List ParseToken). scan us) (sym front)
