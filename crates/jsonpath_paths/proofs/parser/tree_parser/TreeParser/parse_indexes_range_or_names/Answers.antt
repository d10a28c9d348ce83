use Rattle.std.proofs.Common.{[], ◌∷◌, refl, sym, ap, ◌∙◌}
use Rattle.std.specs.Prelude.{is_some}
use Rattle.jsonpath_paths.specs.declared.token.tokens.Kind.TheVariants as k
use Rattle.jsonpath_paths.specs.plan.ParsedParts.{take_token}
use Rattle.jsonpath_paths.specs.plan.Wants.{indexes_range_or_names, range_or_names}
use Rattle.jsonpath_paths.proofs.parser.LevelLemmas.{not_taken}
use Rattle.jsonpath_paths.proofs.parser.StopLemmas.{stops_by, no_word}
use Rattle.jsonpath_paths.proofs.parser.tree_parser.TreeParser.parse_indexes_range_or_names.Goals as goal

pub returns-clause-stops : goal.returns-clause-stops
returns-clause-stops c =
    let old = c.args.self.now in
    let missed = ap (λ t. take_token k.Key t.lexemes) (sym c.copy_of_place-behind.ensures) ∙ not_taken c.take_token.result _ _ c.take_token.ensures.value (ap is_some c.in_default.is) in
    stops_by _ (indexes_range_or_names ∷ []) (range_or_names ∷ []) [] old old _ (λ ws. no_word old.text ws old.lexemes missed) refl c.parse_range_or_names.ensures.stops
