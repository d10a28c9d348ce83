use Rattle.std.proofs.Common.{◌≡◌, ◌∙◌, sym, ap, subst, arith, rules, Some, ◌++◌, ◌∷◌, [], FitsSigned, w64}
use Rattle.std.proofs.lemmas.Int.{to_z-of_z}
use Rattle.jsonpath_paths.specs.plan.ParsedParts.{with_more_indexes, index_at}
use Rattle.jsonpath_paths.specs.plan.Wants.{stop, more_indexes, index, blanks}
use Rattle.jsonpath_paths.proofs.parser.LevelLemmas.{taken}
use Rattle.jsonpath_paths.proofs.parser.SoundLemmas.{take_takes}
use Rattle.jsonpath_paths.specs.declared.token.tokens.Kind.TheVariants as k
use Rattle.jsonpath_paths.proofs.parser.ListLemmas.{indexes_more}
use Rattle.jsonpath_paths.proofs.parser.tree_parser.TreeParser.parse_and_append_indexes.Goals as goal

pub loop-self-preserved : goal.loop-self-preserved
loop-self-preserved c =
    let text = c.args.self.now.text in
    let l = c.loop-self in
    let comma = taken c.take_token.result c.take_token.new.self.lexemes _ c.take_token.ensures.value (sym c.is_some.ensures ∙ c.loop-self-test.true) in
    let same = c.skip_blanks.ensures.text ∙ (c.take_token.ensures.text ∙ l.invariant.text) in
    let found = ap (index_at text) (sym c.skip_blanks.ensures.blanks) ∙ subst (λ x. index_at x c.skip_blanks.new.self.lexemes ≡ Some (c.in-Ok.n, c.take_index.new.self.lexemes)) same c.in-Ok.ensures.reads.0 in
    let fits : FitsSigned w64 c.in-Ok.n = search rules in
    record {
      stops = λ ws. l.invariant.stops ws
          ∙ (ap (stop text (more_indexes ∷ ws)) (take_takes k.Comma l.self.lexemes (comma.0, c.take_token.new.self.lexemes) comma.1)
          ∙ (subst (λ x. stop x (blanks ∷ index ∷ more_indexes ∷ ws) c.take_token.new.self.lexemes ≡ stop x (index ∷ more_indexes ∷ ws) c.skip_blanks.new.self.lexemes) (c.take_token.ensures.text ∙ l.invariant.text) (c.skip_blanks.ensures.stops (index ∷ more_indexes ∷ ws))
          ∙ subst (λ x. stop x (index ∷ more_indexes ∷ ws) c.skip_blanks.new.self.lexemes ≡ stop x (more_indexes ∷ ws) c.take_index.new.self.lexemes) same (c.in-Ok.ensures.stops (more_indexes ∷ ws))));
      text = c.in-Ok.ensures.reads.1 ∙ same;
      shorter = omega (arith, l.invariant.shorter, c.in-Ok.ensures.shorter);
      read = l.invariant.read ∙ (indexes_more text l.found.items l.self.lexemes c.take_token.new.self.lexemes comma.0 _ comma.1 found
          ∙ (ap (λ n. with_more_indexes text (l.found.items ++ n ∷ []) c.take_index.new.self.lexemes) (sym (to_z-of_z w64 c.in-Ok.n fits))
          ∙ ap (λ xs. with_more_indexes text xs c.take_index.new.self.lexemes) (sym c.in_ok-push.ensures.items)));
    }
