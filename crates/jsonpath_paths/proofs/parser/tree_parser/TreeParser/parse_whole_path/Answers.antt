use Rattle.jsonpath_paths.specs.tree.View.{path_of}
use Rattle.jsonpath_paths.proofs.parser.SpelledLemmas.{exact_found, exact_only}
use Rattle.jsonpath_paths.proofs.parser.tree_parser.TreeParser.parse_whole_path.Goals as goal

pub returns-clause-found : goal.returns-clause-found
returns-clause-found c = exact_found path_of c.args.self.now.text c.args.self.now.lexemes _ c.parse_whole_path_by_plan.ensures.answer

pub returns-clause-only : goal.returns-clause-only
returns-clause-only c = exact_only path_of c.args.self.now.text c.args.self.now.lexemes _ c.parse_whole_path_by_plan.ensures.answer
