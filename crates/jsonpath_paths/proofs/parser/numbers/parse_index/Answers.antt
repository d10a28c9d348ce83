use Rattle.std.proofs.Common.{◌∙◌}
use Rattle.jsonpath_paths.proofs.parser.ParseLemmas.{parses_index}
use Rattle.jsonpath_paths.proofs.parser.numbers.parse_index.Goals as goal

pub returns : goal.returns
returns c = c.ok.ensures.value ∙ parses_index c.args.word.now c.parse.result c.parse.ensures.value.0
