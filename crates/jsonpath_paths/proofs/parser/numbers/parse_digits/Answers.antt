use Rattle.std.proofs.Common.{◌∙◌, None, arith}
use Rattle.std.proofs.lemmas.Str.Pattern.{strip_prefix_char}
use Rattle.jsonpath_paths.proofs.parser.ParseLemmas.{parses_digits}
use Rattle.jsonpath_paths.proofs.parser.numbers.parse_digits.Goals as goal

pub returns-in-None : goal.returns-in-None
returns-in-None c =
    c.ok.ensures.value ∙ parses_digits c.args.word.now c.parse.result c.parse.ensures.value.0 (strip_prefix_char 43 c.args.word.now None c.in-None.ensures.cases (omega arith))
