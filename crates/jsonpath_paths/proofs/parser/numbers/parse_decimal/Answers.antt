use Rattle.std.proofs.Common.{◌∙◌, ap, Some, sym, leb}
use Rattle.jsonpath_paths.specs.Numbers.{digits_of, decimal_from, whole_bound}
use Rattle.jsonpath_paths.proofs.parser.ParseLemmas.{decimal_no_digits, decimal_large, decimal_no_fraction, decimal_some}
use Rattle.jsonpath_paths.proofs.parser.numbers.parse_decimal.Goals as goal

pub returns-in-None : goal.returns-in-None
returns-in-None c = decimal_no_digits c.args.whole.now c.args.fraction.now (c.in-None.ensures ∙ ap digits_of c.split_minus_sign-negative.ensures.digits)

pub returns-then-not-is_whole_part_in_range : goal.returns-then-not-is_whole_part_in_range
returns-then-not-is_whole_part_in_range c =
    decimal_large c.args.whole.now c.args.fraction.now c.in-Some.n (c.in-Some.ensures ∙ ap digits_of c.split_minus_sign-negative.ensures.digits)
    (ap (λ t. leb c.in-Some.n (whole_bound t)) (sym c.split_minus_sign-negative.ensures.negative) ∙ (sym c.is_whole_part_in_range.ensures ∙ c.if-not-is_whole_part_in_range.true))

pub returns-in-Some-parse_fraction_units : goal.returns-in-Some-parse_fraction_units
returns-in-Some-parse_fraction_units c =
    let is = c.in-Some.ensures ∙ ap digits_of c.split_minus_sign-negative.ensures.digits in
    let small = ap (λ t. leb c.in-Some.n (whole_bound t)) (sym c.split_minus_sign-negative.ensures.negative) ∙ (sym c.is_whole_part_in_range.ensures ∙ c.if-not-is_whole_part_in_range.false) in
    ap Some c.decimal_of_parts_in_range.ensures ∙ (ap (λ t. Some (decimal_from t c.in-Some.n c.in-Some-parse_fraction_units.units)) c.split_minus_sign-negative.ensures.negative
    ∙ decimal_some c.args.whole.now c.args.fraction.now c.in-Some.n c.in-Some-parse_fraction_units.units is small c.in-Some-parse_fraction_units.ensures.value)

pub returns-in-None-parse_fraction_units : goal.returns-in-None-parse_fraction_units
returns-in-None-parse_fraction_units c = decimal_no_fraction c.args.whole.now c.args.fraction.now c.in-None-parse_fraction_units.ensures.value
