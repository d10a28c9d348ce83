-- The row of `^` that stands behind the last line end of a message, found byte by byte.
use Rattle.std.proofs.Common.{◌≡◌, ℕ, zero, suc, ◌+◌, ◌-◌, ◌<◌, ◌^◌, ◌≤◌, ◌==◌, ◌%◌, List, [], ◌∷◌, ◌++◌, drop, length, replicate, false, cond, Option, Some, None, IfSome, refl, sym, ap, ◌∙◌, arith, add-suc, suc-add, add-zero, length-append, codes, decimal}
use Rattle.std.specs.List.{AllByRecursion}
use Rattle.std.proofs.lemmas.Bool.Decides.{eqb_tells}
use Rattle.std.proofs.lemmas.Fmt.{decimal_by_steps}
use Rattle.std.proofs.lemmas.List.{drop_all, length-replicate}
use Rattle.std.proofs.lemmas.Option.{same_Some}
use Rattle.jsonpath_select.specs.compile.Faults.{caret_text}

-- where the row begins behind one byte more: behind a line end; else where it began, if the byte is `^`
abbrev pub begin_behind : ℕ → Option ℕ → ℕ → Option ℕ
begin_behind i row b = cond (b == 10) (Some (i + 1)) (cond (b == 94) row None)

-- .. behind all bytes
abbrev pub begin_of : ℕ → Option ℕ → List ℕ → Option ℕ
begin_of i row [] = row
begin_of i row (b ∷ bs) = begin_of (suc i) (begin_behind i row b) bs

begin_of-append : (i : ℕ) (row : Option ℕ) (xs ys : List ℕ) → begin_of i row (xs ++ ys) ≡ begin_of (i + length xs) (begin_of i row xs) ys
begin_of-append i row [] ys = ap (λ n. begin_of n row ys) (sym (add-zero i))
begin_of-append i row (x ∷ xs) ys =
    begin_of-append (suc i) (begin_behind i row x) xs ys ∙ ap (λ n. begin_of n (begin_of (suc i) (begin_behind i row x) xs) ys) (suc-add i (length xs) ∙ sym (add-suc i (length xs)))

row_stays : (i s n : ℕ) → begin_of i (Some s) (replicate n 94) ≡ Some s
row_stays i s zero = refl
row_stays i s (suc n) = row_stays (suc i) s n

pub row_of_carets : (path : List ℕ) (n : ℕ) → begin_of 0 None (caret_text path n) ≡ Some (length path + 1)
row_of_carets path n =
    let place : 0 + length path + 1 ≡ length path + 1 = omega arith in
    begin_of-append 0 None path (10 ∷ replicate n 94) ∙ row_stays (suc (0 + length path)) (0 + length path + 1) n ∙ ap (λ i. Some i) place

pub length_of_carets : (path : List ℕ) (n : ℕ) → length (caret_text path n) ≡ length path + 1 + n
length_of_carets path n = length-append path (10 ∷ replicate n 94) ∙ ap (λ k. length path + suc k) (length-replicate n 94) ∙ omega arith

no_row : (i : ℕ) (bs : List ℕ) → AllByRecursion (λ b. (b == 10) ≡ false) bs → begin_of i None bs ≡ None
no_row i [] h = refl
no_row i (b ∷ bs) h = grind (arith, no_row (suc i) bs h.1, h.0)

-- ---- messages without a line end

other_byte : (b : ℕ) → 11 ≤ b → (b == 10) ≡ false
other_byte b h = grind (arith, eqb_tells b 10)

all_joined : (xs ys : List ℕ) → AllByRecursion (λ b. (b == 10) ≡ false) xs → AllByRecursion (λ b. (b == 10) ≡ false) ys → AllByRecursion (λ b. (b == 10) ≡ false) (xs ++ ys)
all_joined [] ys h k = k
all_joined (x ∷ xs) ys h k = (h.0, all_joined xs ys h.1 k)

no_line_end : (n : ℕ) → n < 2 ^ 64 → AllByRecursion (λ b. (b == 10) ≡ false) (decimal n)
no_line_end n small =
    decimal_by_steps (λ m ds. AllByRecursion (λ b. (b == 10) ≡ false) ds) (λ m h. (other_byte (48 + m) (omega arith), tt))
    (λ m ds h all. all_joined ds ((48 + m % 10) ∷ []) all (other_byte (48 + m % 10) (omega arith), tt)) n small

pub no_row_of_position : (at : ℕ) → at < 2 ^ 64 → begin_of 0 None (codes "Position:" ++ decimal at) ≡ None
no_row_of_position at small =
    no_row 0 (codes "Position:" ++ decimal at) (all_joined (codes "Position:") (decimal at) (refl, (refl, (refl, (refl, (refl, (refl, (refl, (refl, (refl, tt))))))))) (no_line_end at small))

-- ---- the loop

-- as long as bytes are left, they decide where the row begins, and a row has begun within those that were read
abbrev pub IsBegun : List ℕ → ℕ → Option ℕ → Type 0
IsBegun bytes i row = (begin_of i row (drop i bytes) ≡ begin_of 0 None bytes) × IfSome row (λ start. start ≤ i)

-- behind the last byte, the row that has begun is that of all bytes
pub begun_at_end : (bytes : List ℕ) (i : ℕ) (row : Option ℕ) → i ≡ length bytes → IsBegun bytes i row → row ≡ begin_of 0 None bytes
begun_at_end bytes i row end h = sym (ap (λ bs. begin_of i row bs) (drop_all i bytes (omega arith))) ∙ h.0

pub carets_counted : (bytes path : List ℕ) (n start : ℕ) → bytes ≡ caret_text path n → Some start ≡ begin_of 0 None bytes → length bytes - start ≡ n
carets_counted bytes path n start is begun =
    let first : start ≡ length path + 1 = same_Some start (length path + 1) (begun ∙ ap (begin_of 0 None) is ∙ row_of_carets path n) in
    let all : length bytes ≡ length path + 1 + n = ap length is ∙ length_of_carets path n in
    omega arith

pub none_counted : (bytes path : List ℕ) (n : ℕ) (row : Option ℕ) → row ≡ None → row ≡ begin_of 0 None bytes → bytes ≡ caret_text path n → ⊥
none_counted bytes path n row none begun is = let both : Some (length path + 1) ≡ None = sym (row_of_carets path n) ∙ sym (ap (begin_of 0 None) is) ∙ sym begun ∙ none in cc
