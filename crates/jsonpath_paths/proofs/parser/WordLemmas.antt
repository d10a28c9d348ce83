-- A word of digits is not `true` or `false`.
use Rattle.std.proofs.Common.{◌≡◌, ◌<◌, ℕ, Bool, true, false, List, ◌∷◌, Option, Some, None, cond, arith, map}
use Rattle.std.specs.Char.{to_ascii_lowercase}
use Rattle.std.specs.Str.{bytes_eq}
use Rattle.jsonpath_paths.specs.declared.decimal.Decimal.{Decimal}
use Rattle.jsonpath_paths.specs.Numbers.{decimal_of, is_whole}
use Rattle.jsonpath_paths.specs.Literals.{truth_of}

if_some : {A : Type 0} (b : Bool) (x : Option A) (y : A) → cond b x None ≡ Some y → b ≡ true
if_some b x y h = grind arith

decimal_whole : (bs fraction : List ℕ) (x : Decimal) → decimal_of bs fraction ≡ Some x → is_whole bs ≡ true
unfolding decimal_of
decimal_whole bs fraction x h = if_some (is_whole bs) _ x h

first_low : (c : ℕ) (cs : List ℕ) → is_whole (c ∷ cs) ≡ true → c < 65
first_low c cs h = grind arith

no_letter : (c : ℕ) (cs : List ℕ) (l : ℕ) (ls : List ℕ) → c < 65 → 65 < l → bytes_eq (map to_ascii_lowercase (c ∷ cs)) (l ∷ ls) ≡ false
no_letter c cs l ls h less = grind arith

pub digits_no_truth : (bs fraction : List ℕ) (x : Decimal) → decimal_of bs fraction ≡ Some x → truth_of bs ≡ None
unfolding truth_of
digits_no_truth bs fraction x h = grind (arith, decimal_whole, first_low, no_letter)
