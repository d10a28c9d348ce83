use Rattle.std.proofs.Common.{None, arith, sym, ap, cond, drop}
use Rattle.std.proofs.lemmas.Str.Pattern.{strip_prefix_char}
use Rattle.jsonpath_paths.proofs.parser.ParseLemmas.{no_first}
use Rattle.jsonpath_paths.proofs.parser.numbers.split_minus_sign.Goals as goal

pub returns-in-None-clause-negative : goal.returns-in-None-clause-negative
returns-in-None-clause-negative c = sym (no_first 45 c.args.word.now (omega arith) (strip_prefix_char 45 c.args.word.now None c.in-None.ensures.cases (omega arith)))

pub returns-in-None-clause-digits : goal.returns-in-None-clause-digits
returns-in-None-clause-digits c =
    sym (ap (λ b. cond b (drop 1 c.args.word.now) c.args.word.now) (no_first 45 c.args.word.now (omega arith) (strip_prefix_char 45 c.args.word.now None c.in-None.ensures.cases (omega arith))))
