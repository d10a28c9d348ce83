use Rattle.std.proofs.Common.{◌∙◌}
use Rattle.jsonpath_paths.proofs.parser.ParseLemmas.{parses_range_step}
use Rattle.jsonpath_paths.proofs.parser.numbers.parse_range_step.Goals as goal

pub returns : goal.returns
returns c = c.ok.ensures.value ∙ parses_range_step c.args.word.now c.parse.result c.parse.ensures.value.0
