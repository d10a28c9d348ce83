use Rattle.std.proofs.Common.{◌≡◌, List, ℕ, sym, ap, ◌∙◌, rules, refl}
use Rattle.jsonpath_paths.specs.text.Characters.{bytes_at}
use Rattle.jsonpath_paths.specs.text.TextPlace.{Place, ahead}
use Rattle.jsonpath_paths.specs.token.Tokens.{kind_of}
use Rattle.jpath_words.specs.Arguments.{TakesText, ends, next}
use Rattle.jpath_words.proofs.arguments.filled_path.keeps_tokens.Goals as goal

pub loop-init : goal.loop-init
loop-init c = λ h. rw (c.new-typed.ensures, c.new-put.ensures) at h

pub loop-preserved : goal.loop-preserved
loop-preserved c = λ more.
    let from : Place = c.loop.typed.place in
    let to : Place = c.next_token.new.self.place in
    let word : List ℕ = c.read_value-word.result.now in
    let same : to.text ≡ from.text = ap (λ (p : Place). p.text) c.in-Ok.ensures.found.behind in
    let shown : word ≡ bytes_at from.text c.span.result = c.read_value-word.ensures ∙ ap (λ (text : List ℕ). bytes_at text c.span.result) same in
    let taken : TakesText (kind_of c.in-Ok.token) word from to =
    record { next = c.in-Ok.token; taken = c.in-Ok.ensures.found; of_kind = refl; shown = ap (bytes_at from.text) (sym c.span.ensures) ∙ sym shown } in
    c.loop.invariant (next (kind_of c.in-Ok.token) word taken (c.takes_kept_or_put.ensures (search rules)) (rw c.is_dot-is_behind_dot.ensures at more))

pub returns-then-is_at_end : goal.returns-then-is_at_end
returns-then-is_at_end c = λ h.
    c.loop.invariant (ends (ap ahead (sym c.in_default.ensures.none.1) ∙ c.is_at_end.ensures (search rules)) (c.is_at_end-then-is_at_end.ensures h))
