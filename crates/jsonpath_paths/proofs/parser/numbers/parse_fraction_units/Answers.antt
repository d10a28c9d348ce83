use Rattle.std.proofs.Common.{arith, ◌∙◌, ap, Some, ◌*◌, subst, ◌<◌, ◌^◌, sym}
use Rattle.jsonpath_paths.proofs.parser.ParseLemmas.{fraction_none, fraction_long, fraction_some, fraction_small, fraction_refused}
use Rattle.jsonpath_paths.proofs.parser.numbers.parse_fraction_units.Goals as goal

pub returns-then-fraction-eq0-clause-value : goal.returns-then-fraction-eq0-clause-value
returns-then-fraction-eq0-clause-value c = fraction_none c.args.fraction.now (omega arith)

pub returns-then-fraction-gt18-clause-value : goal.returns-then-fraction-gt18-clause-value
returns-then-fraction-gt18-clause-value c = fraction_long c.args.fraction.now (omega arith)

pub overflow_mul-result : goal.overflow_mul-result
overflow_mul-result c =
    let small = fraction_small c.args.fraction.now c.in-Some.n (omega arith) c.in-Some.ensures in
    let less = subst (λ m. c.in-Some.n * m < 10 ^ 18) (sym c.pow.ensures) small in
    search (arith, less)

pub returns-in-Some-clause-value : goal.returns-in-Some-clause-value
returns-in-Some-clause-value c =
    ap (λ m. Some (c.in-Some.n * m)) c.pow.ensures ∙ fraction_some c.args.fraction.now c.in-Some.n (omega arith) (omega arith) c.in-Some.ensures

pub returns-in-Some-clause-small : goal.returns-in-Some-clause-small
returns-in-Some-clause-small c =
    subst (λ m. c.in-Some.n * m < 10 ^ 18) (sym c.pow.ensures) (fraction_small c.args.fraction.now c.in-Some.n (omega arith) c.in-Some.ensures)

pub returns-in-None-clause-value : goal.returns-in-None-clause-value
returns-in-None-clause-value c = fraction_refused c.args.fraction.now (omega arith) (omega arith) c.in-None.ensures
