use Rattle.std.proofs.Common.{◌≡◌, ◌∙◌, refl, sym, ap, subst, rules, Some, None, true, false}
use Rattle.std.specs.Prelude.{MatchResult}
use Rattle.std.specs.Result.{is_ok}
use Rattle.jsonpath_paths.specs.Numbers.{decimal_of}
use Rattle.jsonpath_paths.specs.text.Characters.{bytes_at}
use Rattle.jsonpath_paths.specs.declared.parser.tree_parser.Refusal.TheVariants.{Refused}
use Rattle.jsonpath_paths.specs.declared.token.tokens.Kind.TheVariants as k
use Rattle.jsonpath_paths.specs.plan.ParsedParts.{take_token}
use Rattle.jsonpath_paths.proofs.parser.LevelLemmas.{taken}
use Rattle.jsonpath_paths.proofs.parser.LiteralStopLemmas.{number_stops}
use Rattle.jsonpath_paths.proofs.parser.tree_parser.TreeParser.parse_rest_of_number.Goals as goal

pub returns-then-is_ok-clause-stops : goal.returns-then-is_ok-clause-stops
returns-then-is_ok-clause-stops c =
    let old = c.args.self.now in
    let w = c.args.word.now in
    let behind = c.take_token.new.self in
    let new = c.take_token-2.new.self in
    let r = c.parse_decimal_or_refuse-found.result in
    let dot = taken c.take_token.result behind.lexemes _ c.take_token.ensures.value (search (rules, c.is_none.ensures, c.if-is_none.false)) in
    let key : take_token k.Key behind.lexemes ≡ Some (c.in-Some.span, new.lexemes) = ap (λ t. take_token k.Key t.lexemes) (sym c.copy_of_place-behind.ensures) ∙ sym c.in-Some.ensures.value in
    let same : c.text_at_span.result.now ≡ bytes_at old.text c.in-Some.span = c.text_at_span.ensures
    ∙ ap (λ x. bytes_at x c.in-Some.span) (c.take_token-2.ensures.text ∙ (ap (λ t. t.text) c.copy_of_place-behind.ensures ∙ c.take_token.ensures.text)) in
    let found = subst (λ x. MatchResult r (λ d. decimal_of w x ≡ Some d) (λ e. (e ≡ Refused) × (decimal_of w x ≡ None))) same c.parse_decimal_or_refuse-found.ensures in
    let is : is_ok r ≡ true = sym c.is_ok.ensures.value ∙ c.if-is_ok.true in
    number_stops w r dot.0 c.in-Some.span old behind new new dot.1 key found (λ _. refl) (λ e. cc (is, e))

pub returns-else-is_ok-clause-stops : goal.returns-else-is_ok-clause-stops
returns-else-is_ok-clause-stops c =
    let old = c.args.self.now in
    let w = c.args.word.now in
    let behind = c.take_token.new.self in
    let new = c.take_token-2.new.self in
    let r = c.parse_decimal_or_refuse-found.result in
    let dot = taken c.take_token.result behind.lexemes _ c.take_token.ensures.value (search (rules, c.is_none.ensures, c.if-is_none.false)) in
    let key : take_token k.Key behind.lexemes ≡ Some (c.in-Some.span, new.lexemes) = ap (λ t. take_token k.Key t.lexemes) (sym c.copy_of_place-behind.ensures) ∙ sym c.in-Some.ensures.value in
    let same : c.text_at_span.result.now ≡ bytes_at old.text c.in-Some.span = c.text_at_span.ensures
    ∙ ap (λ x. bytes_at x c.in-Some.span) (c.take_token-2.ensures.text ∙ (ap (λ t. t.text) c.copy_of_place-behind.ensures ∙ c.take_token.ensures.text)) in
    let found = subst (λ x. MatchResult r (λ d. decimal_of w x ≡ Some d) (λ e. (e ≡ Refused) × (decimal_of w x ≡ None))) same c.parse_decimal_or_refuse-found.ensures in
    let is : is_ok r ≡ false = sym c.is_ok.ensures.value ∙ c.if-is_ok.false in
    number_stops w r dot.0 c.in-Some.span old behind new behind dot.1 key found (λ e. cc (is, e)) (λ _. refl)
