use Rattle.std.proofs.Common.{[], ◌∷◌, sym, ◌∙◌}
use Rattle.jsonpath_paths.specs.declared.token.tokens.Kind.TheVariants as k
use Rattle.jsonpath_paths.specs.plan.Wants.{range_or_names, quoted, after_name}
use Rattle.jsonpath_paths.proofs.parser.StopLemmas.{stops_past, no_colon}
use Rattle.jsonpath_paths.proofs.parser.tree_parser.TreeParser.parse_range_or_names.Goals as goal

pub returns-clause-stops : goal.returns-clause-stops
returns-clause-stops c =
    stops_past _ k.Split c.take_token.result (range_or_names ∷ []) (quoted ∷ after_name ∷ []) [] c.args.self.now c.take_token.new.self _ c.take_token.ensures.value c.take_token.ensures.none c.take_token.ensures.text
    (sym c.is_some.ensures ∙ c.if-is_some.false) (no_colon c.args.self.now.text) c.parse_name_or_name_list.ensures.stops
