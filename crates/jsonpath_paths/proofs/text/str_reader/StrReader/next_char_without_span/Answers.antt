use Rattle.std.proofs.Common.{rules, sym, ◌∙◌, subst, ap, ◌≡◌, ◌∷◌, [], ◌+◌, ◌-◌, length}
use Rattle.std.proofs.lemmas.Str.{drop_past_char}
use Rattle.std.specs.Str.{IsUtf8}
use Rattle.jsonpath_paths.specs.text.Reader.{place_of}
use Rattle.jsonpath_paths.specs.text.TextPlace.{Place, ahead, past}
use Rattle.jsonpath_paths.proofs.text.PlaceLemmas.{within_past, width_of, ahead_past, ahead_nil, past_one}
use Rattle.jsonpath_paths.proofs.text.str_reader.StrReader.next_char_without_span.Goals as goal

pub invariant_of-self : goal.invariant_of-self
invariant_of-self c =
    let r = c.self.inside in
    let read = sym c.chars-chars.ensures.rest ∙ c.in-Some.ensures.steps.0 in
    let cut = sym c.self.invariant.rest ∙ read in
    let width = width_of r.rest.now c.as_str-behind.result.now _ c.in-Some.c read c.as_str-behind.ensures in
    record {
      within = rw width (within_past r.text.now _ r.pos c.in-Some.c c.self.invariant.within cut);
      rest = c.as_str-behind.ensures ∙ sym (rw width (drop_past_char r.text.now _ r.pos c.in-Some.c cut));
    }

pub returns-in-Some : goal.returns-in-Some
returns-in-Some c =
    let p = place_of c.self.inside in
    let read = sym c.chars-chars.ensures.rest ∙ c.in-Some.ensures.steps.0 in
    let cut = sym c.self.invariant.rest ∙ read in
    let width = width_of c.self.inside.rest.now c.as_str-behind.result.now _ c.in-Some.c read c.as_str-behind.ensures in
    let moved = past_one p _ c.in-Some.c width in
    let first = ahead_past p _ c.in-Some.c (subst IsUtf8 c.self.invariant.rest c.self.ranges.1.0.1) cut in
    let new : Place = record { text = c.self.inside.text.now; pos = c.self.inside.pos + (length c.self.inside.rest.now - length c.as_str-behind.result.now) } in
    let P : Place → Type 0 = λ old. (ahead old ≡ c.in-Some.c ∷ ahead new) × (new ≡ past old (c.in-Some.c ∷ [])) in
    let facts : P p = (first ∙ ap (λ q. c.in-Some.c ∷ ahead q) (sym moved), moved) in
    record { char = subst P c.self.view_is facts }

pub returns-in-None : goal.returns-in-None
returns-in-None c =
    let empty = ap length (sym c.self.invariant.rest ∙ sym c.chars-chars.ensures.rest) ∙ c.in-None.ensures.steps.0.0 in
    record { char = (subst (λ old. ahead old ≡ []) c.self.view_is (ahead_nil (place_of c.self.inside) empty), search rules) }
