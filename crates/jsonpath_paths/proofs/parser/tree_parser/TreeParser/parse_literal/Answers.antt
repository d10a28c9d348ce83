use Rattle.std.proofs.Common.{◌≡◌, ◌∙◌, ◌∷◌, [], sym, ap, rules, Some, Err, inr}
use Rattle.std.specs.Prelude.{is_some}
use Rattle.jsonpath_paths.specs.declared.token.tokens.Kind.TheVariants as k
use Rattle.jsonpath_paths.specs.text.Characters.{bytes_at}
use Rattle.jsonpath_paths.specs.plan.ParsedParts.{take_token}
use Rattle.jsonpath_paths.specs.plan.Wants.{literal, quoted}
use Rattle.jsonpath_paths.proofs.parser.StopLemmas.{stops_err, stops_result, missed, no_word_literal}
use Rattle.jsonpath_paths.proofs.parser.LiteralStopLemmas.{literal_stops, ok_begins, Begins}
use Rattle.jsonpath_paths.proofs.parser.tree_parser.TreeParser.parse_literal.Goals as goal

pub returns-then-is_ok-clause-stops : goal.returns-then-is_ok-clause-stops
returns-then-is_ok-clause-stops c =
    let old = c.args.self.now in
    let mid = c.take_token.new.self in
    let word = c.text_at_span-word.result.now in
    let key : take_token k.Key old.lexemes ≡ Some (c.in-Some.span, mid.lexemes) = ap (λ t. take_token k.Key t.lexemes) (sym c.copy_of_place-behind.ensures) ∙ sym c.in-Some.ensures.value in
    let same_text : mid.text ≡ old.text = c.take_token.ensures.text ∙ ap (λ t. t.text) c.copy_of_place-behind.ensures in
    let begins : Begins word = elim c.then-is_ok.branch [
      | goal.then-is_ok-via-then-is_ok w ↦ ok_begins c.parse_literal_beginning_with_word-found.result word mid c.parse_literal_beginning_with_word-found.new.self c.parse_literal_beginning_with_word-found.ensures.reads (sym c.is_ok.ensures.value ∙ w.if-is_ok.true)
      | goal.then-is_ok-via-else-is_ok+then-is_some w ↦ inr (ap is_some (sym w.parse_decimal.ensures) ∙ (sym w.is_some.ensures ∙ w.if-is_some.true))
    ] in
    literal_stops word c.parse_literal_beginning_with_word-found.result c.in-Some.span old mid _ key (ap (λ x. bytes_at x c.in-Some.span) (sym same_text) ∙ sym c.text_at_span-word.ensures) same_text begins
    c.parse_literal_beginning_with_word-found.ensures.stops

pub returns-in_err-span-clause-stops : goal.returns-in_err-span-clause-stops
returns-in_err-span-clause-stops c =
    let old = c.args.self.now in
    let f = c.in_err-span.field-0.0 in
    let no_word = ap (λ t. take_token k.Key t.lexemes) (sym c.copy_of_place-behind.ensures) ∙ missed c.take_token.result c.take_token.new.self.lexemes _ c.take_token.ensures.value c.in_default.is in
    let is : c.from_residual.result ≡ Err f = search rules in
    stops_result c.from_residual.result f (literal ∷ []) [] old c.take_quoted_text.new.self is
    (stops_err f (literal ∷ []) (quoted ∷ []) [] old old c.take_quoted_text.new.self (λ ws. no_word_literal old.text ws old.lexemes no_word) c.in_err-span.ensures.stops)
