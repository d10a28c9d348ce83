use Rattle.std.proofs.Common.{rules, ap, ◌∙◌, ◌++◌}
use Rattle.jsonpath_paths.specs.Spelling.{Spells}
use Rattle.jsonpath_paths.specs.tree.View.{path_of}
use Rattle.jsonpath_paths.specs.tree.Visit.{path_tokens}
use Rattle.jsonpath_paths.proofs.parser.DerivationLemmas.{one_tree_per_text}
use Rattle.jsonpath_paths.proofs.token.TokenizedLemmas.{found_spelled}
use Rattle.jsonpath_paths.proofs.tree.ReadableLemmas.{path_as}
use Rattle.jsonpath_paths.proofs.parser.path_parser.PathParser.parse.Goals as goal

pub visit-requires-clause-may : goal.visit-requires-clause-may
visit-requires-clause-may g c = path_as _ _ (λ s h. search rules) (path_of c.self.inside.tree) c.self.invariant.spans

pub returns-clause-given : goal.returns-clause-given
returns-clause-given g c = λ not_failed p spelled.
    let mine : Spells c.args.self.now (path_of c.self.inside.tree) = search rules in
    let same = one_tree_per_text c.args.self.now _ (path_of c.self.inside.tree) p (found_spelled _ _ mine).1 (found_spelled _ p spelled).1 in
    c.visit.ensures.given not_failed ∙ ap (λ q. g.H.ParserTokenHandler.tokens c.args.handler.now ++ path_tokens q) same
