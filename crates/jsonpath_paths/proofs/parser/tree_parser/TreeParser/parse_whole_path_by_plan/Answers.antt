use Rattle.std.proofs.Common.{◌≡◌, ◌∙◌, ◌∷◌, [], sym, ap, subst, Some, rules}
use Rattle.jsonpath_paths.specs.declared.token.tokens.Kind.TheVariants as k
use Rattle.jsonpath_paths.specs.Grammar.{levels}
use Rattle.jsonpath_paths.specs.plan.Wants.{stop, whole_wants, steps, blanks}
use Rattle.jsonpath_paths.proofs.parser.SoundLemmas.{take_takes}
use Rattle.jsonpath_paths.proofs.parser.StopLemmas.{past_blanks, more_left}
use Rattle.jsonpath_paths.specs.plan.ParsedParts.{if_end}
use Rattle.jsonpath_paths.proofs.parser.LevelLemmas.{taken}
use Rattle.jsonpath_paths.proofs.parser.SpelledLemmas.{exact_err, exact_end, end_of_none, end_of_some}
use Rattle.jsonpath_paths.proofs.parser.tree_parser.TreeParser.parse_whole_path_by_plan.Goals as goal

pub returns-in-Err-clause-answer : goal.returns-in-Err-clause-answer
returns-in-Err-clause-answer c =
    let first = taken c.take_token.result c.take_token.new.self.lexemes _ c.take_token.ensures.value (search (rules, c.is_none.ensures, c.if-is_none.false)) in
    exact_err c.args.self.now.text c.args.self.now.lexemes first.0 c.in-Err.fault c.take_token.new.self _ first.1 c.take_token.ensures.text c.in-Err.ensures.reads

pub returns-then-not-is_at_end-clause-answer : goal.returns-then-not-is_at_end-clause-answer
returns-then-not-is_at_end-clause-answer c =
    let text = c.args.self.now.text in
    let first = taken c.take_token.result c.take_token.new.self.lexemes _ c.take_token.ensures.value (search (rules, c.is_none.ensures, c.if-is_none.false)) in
    exact_end text c.args.self.now.lexemes first.0 c.take_token.new.self c.parse_steps.new.self _ first.1 c.take_token.ensures.text c.in-Ok.ensures.reads.0
    ∙ (ap (if_end text _) (sym c.skip_blanks.ensures.blanks) ∙ end_of_some c.is_at_end.result text _ _ c.is_at_end.ensures c.if-not-is_at_end.true)

pub returns-clause-answer : goal.returns-clause-answer
returns-clause-answer c =
    let text = c.args.self.now.text in
    let first = taken c.take_token.result c.take_token.new.self.lexemes _ c.take_token.ensures.value (search (rules, c.is_none.ensures, c.if-is_none.false)) in
    exact_end text c.args.self.now.lexemes first.0 c.take_token.new.self c.parse_steps.new.self _ first.1 c.take_token.ensures.text c.in-Ok.ensures.reads.0
    ∙ (ap (if_end text _) (sym c.skip_blanks.ensures.blanks) ∙ (end_of_none c.is_at_end.result text _ _ c.is_at_end.ensures c.if-not-is_at_end.false ∙ ap Some (sym c.node_of_steps.ensures)))

pub returns-then-not-is_at_end-clause-stops : goal.returns-then-not-is_at_end-clause-stops
returns-then-not-is_at_end-clause-stops c =
    let text = c.args.self.now.text in
    let root = c.take_token.new.self in
    let behind = c.parse_steps.new.self in
    let first = taken c.take_token.result root.lexemes _ c.take_token.ensures.value (search (rules, c.is_none.ensures, c.if-is_none.false)) in
    λ same. ap (stop text whole_wants) (take_takes k.Absolute c.args.self.now.lexemes (first.0, root.lexemes) first.1)
    ∙ (subst (λ x. stop x (steps levels ∷ blanks ∷ []) root.lexemes ≡ stop x (blanks ∷ []) behind.lexemes) c.take_token.ensures.text (c.in-Ok.ensures.stops (blanks ∷ []))
    ∙ (past_blanks text [] behind.lexemes ∙ (ap (stop text []) (sym c.skip_blanks.ensures.blanks) ∙ more_left c.is_at_end.result text c.skip_blanks.new.self.lexemes c.is_at_end.ensures c.if-not-is_at_end.true)))
