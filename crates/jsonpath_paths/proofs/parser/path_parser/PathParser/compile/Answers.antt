use Rattle.std.proofs.Common.{◌≡◌, ◌∙◌, [], Some, refl, sym, ap, subst, rules}
use Rattle.std.specs.Prelude.{IsTrue}
use Rattle.jsonpath_paths.specs.text.TextPlace.{ahead}
use Rattle.jsonpath_paths.specs.Grammar.{SpellsPath}
use Rattle.jsonpath_paths.specs.Spelling.{Spells}
use Rattle.jsonpath_paths.proofs.tree.ListedLemmas.{list_of_text}
use Rattle.jsonpath_paths.specs.tree.View.{path_of}
use Rattle.jsonpath_paths.specs.RefusedAt.{RefusedAt}
use Rattle.jsonpath_paths.specs.plan.RefusedPlace.{behind_character}
use Rattle.jsonpath_paths.specs.plan.Wants.{stop, whole_wants}
use Rattle.jsonpath_paths.proofs.parser.RefusedAtLemmas.{refused_there, refused_behind}
use Rattle.jsonpath_paths.proofs.tree.ReadableLemmas.{spans_spelled}
use Rattle.jsonpath_paths.proofs.token.TokenizedLemmas.{spells_found, found_spelled}
use Rattle.jsonpath_paths.proofs.parser.path_parser.PathParser.compile.Goals as goal

pub returns-clause-only : goal.returns-clause-only
returns-clause-only c = λ other spelled.
    let text = c.args.input.now in
    let p = spelled.0 in
    let lexemes = ap (λ i. i.lexemes) c.new-parser.ensures ∙ (c.as_slice.ensures.value ∙ c.in_ok-found.ensures.lexemes) in
    c.in-Err.ensures.only c.in-Refused.is p (subst (λ t. SpellsPath t p c.new-parser.result.lexemes) (sym (ap (λ i. i.text) c.new-parser.ensures)) (subst (SpellsPath text p) (sym lexemes) (found_spelled text p spelled.1).1))

pub invariant_of-result : goal.invariant_of-result
invariant_of-result c =
    let text = c.args.input.now in
    let p = path_of c.in-Ok.tree in
    let found = c.in_ok-found.found.items in
    let spelled : SpellsPath text p found = search rules in
    let whole : Spells text p = spells_found text p found (search rules) (search rules) spelled in
    record { spells = whole; spans = spans_spelled text p found (search rules) spelled; list = list_of_text text p c.in_ok-tokens-in-Ok.tokens.items c.utf8.input whole (sym c.in_ok-tokens-in-Ok.ensures) }

pub returns-then-is_at_end-clause-found : goal.returns-then-is_at_end-clause-found
returns-then-is_at_end-clause-found c =
    let text = c.args.input.now in
    let p = path_of c.in-Ok.tree in
    let found = c.in_ok-found.found.items in
    let spelled : SpellsPath text p found = search rules in
    (refl, (p, spells_found text p found (search rules) (search rules) spelled))

pub returns-in-Ok-clause-only : goal.returns-in-Ok-clause-only
returns-in-Ok-clause-only c = λ other spelled.
    let none_left : ahead c.in_ok-found.stop ≡ [] = sym c.in_ok-found.ensures.rest ∙ (found_spelled c.args.input.now spelled.0 spelled.1).0 in
    let at_end : IsTrue c.is_at_end.result = c.is_at_end.ensures.1 none_left in
    search rules

pub returns-in-Ok-clause-refused : goal.returns-in-Ok-clause-refused
returns-in-Ok-clause-refused c = λ other.
    let text = c.args.input.now in
    let p = path_of c.in-Ok.tree in
    let found = c.in_ok-found.found.items in
    let stop_at = c.in_ok-found.stop in
    let spelled : SpellsPath text p found = search rules in
    subst (RefusedAt text) (sym (c.error_at_refused_character_end.ensures.exact ∙ ap (λ x. behind_character x stop_at.pos (ahead stop_at)) c.in_ok-found.ensures.text))
    (refused_behind text found stop_at c.utf8.input c.in_ok-found.ensures.lexemes c.in_ok-found.ensures.rest c.in_ok-found.ensures.tile p spelled
    (λ e. let at_end : IsTrue c.is_at_end.result = c.is_at_end.ensures.1 e in search rules))

pub returns-clause-refused : goal.returns-clause-refused
returns-clause-refused c = λ other.
    let text = c.args.input.now in
    let found = c.in_ok-found.found.items in
    let here = c.parse_whole_path.new.self.lexemes in
    let lexemes = ap (λ i. i.lexemes) c.new-parser.ensures ∙ c.as_slice.ensures.value in
    let stopped : stop text whole_wants found ≡ Some here = subst (λ x. stop x whole_wants found ≡ Some here) (ap (λ i. i.text) c.new-parser.ensures)
    (subst (λ ps. stop c.new-parser.result.text whole_wants ps ≡ Some here) lexemes (c.in-Err.ensures.stops c.in-Refused.is)) in
    subst (RefusedAt text) (sym c.error_at_refused_token_or_character.ensures.exact)
    (refused_there text found c.in_ok-found.stop c.utf8.input c.in_ok-found.ensures.lexemes c.in_ok-found.ensures.rest c.in_ok-found.ensures.tile here stopped)
