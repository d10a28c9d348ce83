use Rattle.std.proofs.Common.{ℕ, List, sym, ap, ◌∙◌}
use Rattle.std.specs.Str.{encode_utf8_all, chars}
use Rattle.std.proofs.lemmas.Str.{encodes-chars}
use Rattle.jsonpath_paths.specs.text.Characters.{name_of}
use Rattle.jsonpath_select.proofs.step.QuotedLemmas.{unescaped-plain}
use Rattle.jsonpath_select.proofs.step.names.borrowed_name_at.Goals as goal

pub returns-else-has_backslash : goal.returns-else-has_backslash
returns-else-has_backslash c =
    sym (encodes-chars c.in-Some.inner.now c.in-Some.ensures.1)
    ∙ ap encode_utf8_all (sym (unescaped-plain (chars c.in-Some.inner.now) (sym c.if-has_backslash.ensures)) ∙ sym c.in-Some.ensures.0)
    ∙ ap (λ (xs : List ℕ). encode_utf8_all (name_of (chars xs))) c.slice_at-whole.ensures

pub returns-in-None : goal.returns-in-None
returns-in-None c =
    sym (encodes-chars c.slice_at-whole.result.now c.slice_at-whole.utf8) ∙ ap encode_utf8_all (sym c.in-None.ensures)
    ∙ ap (λ (xs : List ℕ). encode_utf8_all (name_of (chars xs))) c.slice_at-whole.ensures
