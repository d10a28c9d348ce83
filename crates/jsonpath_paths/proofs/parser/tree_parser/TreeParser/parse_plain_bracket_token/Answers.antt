use Rattle.std.proofs.Common.{[], ◌∷◌, sym, ◌∙◌}
use Rattle.jsonpath_paths.specs.declared.token.tokens.Kind.TheVariants as k
use Rattle.jsonpath_paths.specs.plan.Wants.{plain, indexes_range_or_names}
use Rattle.jsonpath_paths.proofs.parser.StopLemmas.{stops_past, no_star}
use Rattle.jsonpath_paths.proofs.parser.tree_parser.TreeParser.parse_plain_bracket_token.Goals as goal

pub returns-clause-stops : goal.returns-clause-stops
returns-clause-stops c =
    stops_past _ k.Asterisk c.take_token.result (plain ∷ []) (indexes_range_or_names ∷ []) [] c.args.self.now c.take_token.new.self _ c.take_token.ensures.value c.take_token.ensures.none c.take_token.ensures.text
    (sym c.is_some.ensures ∙ c.if-is_some.false) (no_star c.args.self.now.text) c.parse_indexes_range_or_names.ensures.stops
