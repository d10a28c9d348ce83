use Rattle.std.proofs.Common.{◌≡◌, ◌++◌, map, drop, All}
use Rattle.jsonpath_paths.specs.Spelling.{IsInGrammar}
use Rattle.jsonpath_lib.proofs.compiled.path_texts.compile_paths.Given as goal

abbrev pub invariant-loop-text : goal.invariant-loop-text
invariant-loop-text l = record {
  texts : map (λ t. t.now) l.texts ≡ l.paths.items ++ map (λ t. t.now) (drop l.text-index l.texts);
  spelled : All IsInGrammar l.paths.items;
}
