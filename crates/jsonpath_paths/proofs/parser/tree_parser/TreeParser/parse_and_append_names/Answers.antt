use Rattle.std.proofs.Common.{◌≡◌, ◌∙◌, sym, ap, subst, arith, ◌++◌, ◌∷◌, []}
use Rattle.jsonpath_paths.specs.plan.ParsedParts.{with_more_names, quoted_at}
use Rattle.jsonpath_paths.specs.plan.Wants.{stop, more_names, quoted, blanks}
use Rattle.jsonpath_paths.proofs.parser.LevelLemmas.{taken}
use Rattle.jsonpath_paths.proofs.parser.SoundLemmas.{take_takes}
use Rattle.jsonpath_paths.specs.declared.token.tokens.Kind.TheVariants as k
use Rattle.jsonpath_paths.proofs.parser.ListLemmas.{names_more}
use Rattle.jsonpath_paths.proofs.parser.tree_parser.TreeParser.parse_and_append_names.Goals as goal

pub loop-self-preserved : goal.loop-self-preserved
loop-self-preserved c =
    let text = c.args.self.now.text in
    let l = c.loop-self in
    let comma = taken c.take_token.result c.take_token.new.self.lexemes _ c.take_token.ensures.value (sym c.is_some.ensures ∙ c.loop-self-test.true) in
    let same = c.skip_blanks.ensures.text ∙ (c.take_token.ensures.text ∙ l.invariant.text) in
    let found = ap quoted_at (sym c.skip_blanks.ensures.blanks) ∙ c.in-Ok.ensures.reads.0 in
    let text_now = c.in-Ok.ensures.reads.1 ∙ same in
    record {
      stops = λ ws. l.invariant.stops ws
          ∙ (ap (stop text (more_names ∷ ws)) (take_takes k.Comma l.self.lexemes (comma.0, c.take_token.new.self.lexemes) comma.1)
          ∙ (subst (λ x. stop x (blanks ∷ quoted ∷ blanks ∷ more_names ∷ ws) c.take_token.new.self.lexemes ≡ stop x (quoted ∷ blanks ∷ more_names ∷ ws) c.skip_blanks.new.self.lexemes) (c.take_token.ensures.text ∙ l.invariant.text) (c.skip_blanks.ensures.stops (quoted ∷ blanks ∷ more_names ∷ ws))
          ∙ (subst (λ x. stop x (quoted ∷ blanks ∷ more_names ∷ ws) c.skip_blanks.new.self.lexemes ≡ stop x (blanks ∷ more_names ∷ ws) c.take_quoted_text.new.self.lexemes) same (c.in-Ok.ensures.stops (blanks ∷ more_names ∷ ws))
          ∙ subst (λ x. stop x (blanks ∷ more_names ∷ ws) c.take_quoted_text.new.self.lexemes ≡ stop x (more_names ∷ ws) c.skip_blanks-in-loop-self.new.self.lexemes) text_now (c.skip_blanks-in-loop-self.ensures.stops (more_names ∷ ws)))));
      text = c.skip_blanks-in-loop-self.ensures.text ∙ (c.in-Ok.ensures.reads.1 ∙ same);
      shorter = omega (arith, l.invariant.shorter, c.in-Ok.ensures.shorter);
      read = l.invariant.read ∙ (names_more text l.found.items l.self.lexemes c.take_token.new.self.lexemes comma.0 _ comma.1 found
          ∙ (ap (λ ps. with_more_names text (l.found.items ++ c.in-Ok.span ∷ []) ps) (sym c.skip_blanks-in-loop-self.ensures.blanks)
          ∙ ap (λ xs. with_more_names text xs c.skip_blanks-in-loop-self.new.self.lexemes) (sym c.in_ok-push.ensures.items)));
    }
