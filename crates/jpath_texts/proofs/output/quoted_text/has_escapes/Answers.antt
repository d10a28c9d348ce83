use Rattle.std.proofs.Common.{◌≡◌, ◌+◌, [], ◌∷◌, ◌++◌, take, get_or, sym, ap, subst, ◌∙◌}
use Rattle.std.proofs.lemmas.Bool.{or_parts}
use Rattle.std.proofs.lemmas.Grind.{flat_map-append}
use Rattle.std.proofs.lemmas.List.{take_more}
use Rattle.json.specs.Print.{escape, escape_byte}
use Rattle.jpath_texts.proofs.output.quoted_text.has_escapes.Goals as goal

pub loop-byte-preserved : goal.loop-byte-preserved
loop-byte-preserved c = λ none.
    let s = c.args.text.now in
    let i = c.loop-byte.byte-index in
    let x = get_or s i 0 in
    let more : take (i + 1) s ≡ take i s ++ x ∷ [] = take_more s i 0 c.loop-byte-test.true in
    let parts = or_parts c.loop-byte.has_escapes c.is_escaped-has_escapes.result none in
    subst (λ ys. escape ys ≡ ys) (sym more)
    (flat_map-append escape_byte (take i s) (x ∷ []) ∙ ap (λ ys. ys ++ (escape_byte x ++ [])) (c.loop-byte.invariant parts.0) ∙ ap (λ ys. take i s ++ (ys ++ [])) (c.is_escaped-has_escapes.ensures parts.1))
