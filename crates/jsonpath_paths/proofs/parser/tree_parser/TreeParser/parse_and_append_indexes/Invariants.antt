use Rattle.std.proofs.Common.{◌≡◌, ◌≤◌, length, List, ◌∷◌}
use Rattle.jsonpath_paths.specs.plan.Wants.{Want, stop, more_indexes}
use Rattle.jsonpath_paths.specs.plan.ParsedParts.{with_more_indexes}
use Rattle.jsonpath_paths.proofs.parser.tree_parser.TreeParser.parse_and_append_indexes.Given as goal

abbrev pub invariant-loop-self : goal.invariant-loop-self
invariant-loop-self l = record {
  text : l.self.text ≡ l.fn.self.text;
  stops : (ws : List Want) → stop l.fn.self.text (more_indexes ∷ ws) l.fn.self.lexemes ≡ stop l.fn.self.text (more_indexes ∷ ws) l.self.lexemes;
  shorter : length l.self.lexemes ≤ length l.fn.self.lexemes;
  read : with_more_indexes l.fn.self.text l.fn.found.items l.fn.self.lexemes ≡ with_more_indexes l.fn.self.text l.found.items l.self.lexemes;
}

abbrev pub decreases-loop-self : goal.decreases-loop-self
decreases-loop-self l = length l.self.lexemes
