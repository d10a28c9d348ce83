use Rattle.std.proofs.Common.{◌≡◌, ◌+◌, ◌*◌, ◌≤◌, length, List, ◌∷◌}
use Rattle.jsonpath_paths.specs.plan.Wants.{Want, stop, steps}
use Rattle.jsonpath_paths.specs.plan.ParsedParts.{steps_at, condition_at}
use Rattle.jsonpath_paths.specs.tree.View.{steps_of_list}
use Rattle.jsonpath_paths.proofs.parser.LevelLemmas.{after_steps}
use Rattle.jsonpath_paths.proofs.parser.tree_parser.TreeParser.+nested.Given as goal

abbrev pub decreases-parse_condition_and_closing_parenthesis : goal.decreases-parse_condition_and_closing_parenthesis
decreases-parse_condition_and_closing_parenthesis l = 20 * l.levels + 10

abbrev pub decreases-parse_first_part_of_condition : goal.decreases-parse_first_part_of_condition
decreases-parse_first_part_of_condition l = 20 * l.levels + 9

abbrev pub decreases-parse_term : goal.decreases-parse_term
decreases-parse_term l = 20 * l.levels + 5

abbrev pub decreases-parse_steps : goal.decreases-parse_steps
decreases-parse_steps l = 20 * l.levels + 4

abbrev pub decreases-parse_step : goal.decreases-parse_step
decreases-parse_step l = 20 * l.levels + 3

abbrev pub decreases-parse_rest_of_brackets : goal.decreases-parse_rest_of_brackets
decreases-parse_rest_of_brackets l = 20 * l.levels + 2

abbrev pub decreases-parse_bracket_content : goal.decreases-parse_bracket_content
decreases-parse_bracket_content l = 20 * l.levels + 1

abbrev pub invariant-parse_steps-loop-found : goal.invariant-parse_steps-loop-found
invariant-parse_steps-loop-found l = record {
  text : l.self.text ≡ l.fn.self.text;
  stops : (ws : List Want) → stop l.fn.self.text (steps l.levels ∷ ws) l.fn.self.lexemes ≡ stop l.fn.self.text (steps l.levels ∷ ws) l.self.lexemes;
  shorter : length l.self.lexemes ≤ length l.fn.self.lexemes;
  read : steps_at l.fn.self.text (condition_at l.fn.self.text l.levels) l.fn.self.lexemes
      ≡ after_steps (steps_of_list l.found.items) (steps_at l.fn.self.text (condition_at l.fn.self.text l.levels) l.self.lexemes);
}

abbrev pub decreases-parse_steps-loop-found : goal.decreases-parse_steps-loop-found
decreases-parse_steps-loop-found l = length l.self.lexemes

abbrev pub decreases-parse_rest_of_comparison : goal.decreases-parse_rest_of_comparison
decreases-parse_rest_of_comparison l = 20 * l.levels + 6

abbrev pub decreases-parse_condition_one_level_deeper : goal.decreases-parse_condition_one_level_deeper
decreases-parse_condition_one_level_deeper l = 20 * l.levels

abbrev pub decreases-parse_candidate_path_condition : goal.decreases-parse_candidate_path_condition
decreases-parse_candidate_path_condition l = 20 * l.levels + 8

abbrev pub decreases-parse_whole_comparison : goal.decreases-parse_whole_comparison
decreases-parse_whole_comparison l = 20 * l.levels + 8

abbrev pub decreases-parse_comparison_or_existence_test : goal.decreases-parse_comparison_or_existence_test
decreases-parse_comparison_or_existence_test l = 20 * l.levels + 7
