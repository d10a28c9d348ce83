use Rattle.std.proofs.Common.{◌≡◌, ◌++◌, true, false, drop}
use Rattle.jsonpath_paths.specs.tree.View.{steps_of_list, path_of}
use Rattle.jsonpath_paths.specs.tree.Visit.{path_tokens, step_tokens, MayReadSteps}
use Rattle.jsonpath_paths.specs.declared.text.str_reader.StrRange.{StrRange}
use Rattle.jsonpath_paths.proofs.tree.parser_node_visitor.+visit.Given as goal

abbrev pub invariant-visit_node-loop-step : goal.invariant-visit_node-loop-step
invariant-visit_node-loop-step g l = record {
  may_read : MayReadSteps (λ s. g.R.Fn.pre l.reader (s, tt)) (steps_of_list (drop l.step-index l.step-items));
  stays_failed : g.H.ParserTokenHandler.has_failed l.fn.handler ≡ true → g.H.ParserTokenHandler.has_failed l.handler ≡ true;
  given : g.H.ParserTokenHandler.has_failed l.handler ≡ false → g.H.ParserTokenHandler.tokens l.handler ++ step_tokens (steps_of_list (drop l.step-index l.step-items))
      ≡ g.H.ParserTokenHandler.tokens l.fn.handler ++ path_tokens (path_of l.node);
  still_takes : (s : StrRange) (v : g.row.V.Denot) → g.H.ParserTokenHandler.takes l.fn.handler s v → g.H.ParserTokenHandler.takes l.handler s v;
}
