use Rattle.std.proofs.Common.{subst, arith}
use Rattle.std.specs.Bool.{MatchBool}
use Rattle.std.specs.Char.{IsAsciiDigit, IsNotAsciiDigit}
use Rattle.json_recognizer.proofs.Rows.{digit_letter}
use Rattle.json_recognizer.proofs.search.stays_in.Goals as goal

pub returns-then-takes_digits : goal.returns-then-takes_digits
returns-then-takes_digits c = λ is_digit.
    let byte = c.args.byte in
    let digit = subst (λ b. MatchBool b (IsAsciiDigit byte) (IsNotAsciiDigit byte)) is_digit c.is_ascii_digit.ensures.cases in
    digit_letter c.args.row byte (c.takes_digits.ensures c.if-takes_digits.true) (omega (arith, digit)) (omega (arith, digit))
