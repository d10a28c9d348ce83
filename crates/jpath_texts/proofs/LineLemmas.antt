-- What is written, token by token.
use Rattle.std.proofs.Common.{◌≡◌, ℕ, List, [], ◌++◌, Result, Ok, Err, OnErr, ap, ◌∙◌}
use Rattle.std.proofs.lemmas.List.{append-nil}
use Rattle.json.specs.Token.{Token}
use Rattle.json.specs.Print.{print, print_from}

pub on_err : {T E : Type 0} {P Q : Type 0} (r : Result T E) → (P → Q) → OnErr r P → OnErr r Q
on_err (Ok x) f h = h
on_err (Err e) f h = f h

-- where no token was written
pub none_written : (xs : List ℕ) (ts : List Token) → ts ≡ [] → xs ++ print ts ≡ xs
unfolding print_from
none_written xs ts e = ap (λ t. xs ++ print t) e ∙ append-nil xs
