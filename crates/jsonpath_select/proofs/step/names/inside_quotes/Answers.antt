use Rattle.std.proofs.Common.{◌≡◌, ℕ, true, sym, ap, ◌∙◌, ◌++◌, ◌⊎◌, inl, inr, List, refl, encode_utf8}
use Rattle.jsonpath_paths.specs.text.Characters.{is_quote}
use Rattle.jsonpath_select.proofs.step.QuotedLemmas.{name_of-quoted}
use Rattle.jsonpath_select.proofs.step.names.inside_quotes.Goals as goal

either_quote : (q : ℕ) → (q ≡ 34) ⊎ (q ≡ 39) → is_quote q ≡ true
either_quote q (inl h) = rw h refl
either_quote q (inr h) = rw h refl

pub returns-in-Some-eq34 : goal.returns-in-Some-eq34
returns-in-Some-eq34 c = (
  name_of-quoted c.args.text.now c.as_str.result.now c.without_last_character.result.now c.in-Some-eq34.field-0 c.utf8.text
      (sym c.chars-inside.ensures.rest ∙ c.in-Some-eq34.ensures.steps.0 ∙ ap (λ (xs : List ℕ). encode_utf8 c.in-Some-eq34.field-0 ++ xs) (sym c.as_str.ensures))
      (either_quote c.in-Some-eq34.field-0 c.in-Some-eq34.field-0-test) c.without_last_character.ensures,
  c.without_last_character.utf8,
)
