use Rattle.std.proofs.Common.{rules, sym, ap}
use Rattle.std.specs.Prelude.{option_map, length}
use Rattle.jsonpath_paths.specs.Grammar.{SpellsPath}
use Rattle.jsonpath_paths.specs.tree.View.{path_of}
use Rattle.jsonpath_paths.proofs.parser.RefusedAtLemmas.{spelled_stops}
use Rattle.jsonpath_paths.proofs.parser.expected.tokens_left.Goals as goal

pub returns-in-Ok : goal.returns-in-Ok
returns-in-Ok c =
    let p = path_of c.in-Ok.field-0 in
    let spelled : SpellsPath c.args.text.now p c.args.tokens.now = search rules in
    sym (ap (option_map length) (spelled_stops c.args.text.now c.args.tokens.now p spelled))
