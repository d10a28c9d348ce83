use Rattle.std.proofs.Common.{◌≡◌, ◌∷◌, ◌++◌, [], List, ℕ, ap, sym, ◌∙◌, map-id, append_assoc, append-nil}
use Rattle.std.proofs.lemmas.Iterator.{YieldsList-from_chars}
use Rattle.std.proofs.lemmas.Iterator.Consumers.{YieldsList-end}
use Rattle.std.proofs.lemmas.Str.{encodes-append}
use Rattle.std.specs.Str.{chars, encode_utf8_all}
use Rattle.jpath_core.specs.Printable.{printable_char, printable_chars}
use Rattle.jpath_core.proofs.output.places.printable_text.Goals as goal

chars_more : (cs : List ℕ) (c : ℕ) → printable_chars (cs ++ c ∷ []) ≡ printable_chars cs ++ printable_char c
chars_more [] c = append-nil (printable_char c)
chars_more (d ∷ ds) c = ap (λ x. printable_char d ++ x) (chars_more ds c) ∙ sym (append_assoc (printable_char d) (printable_chars ds) (printable_char c))

text_more : (cs : List ℕ) (c : ℕ) → encode_utf8_all (printable_chars cs) ++ encode_utf8_all (printable_char c) ≡ encode_utf8_all (printable_chars (cs ++ c ∷ []))
text_more cs c = sym (encodes-append (printable_chars cs) (printable_char c)) ∙ ap encode_utf8_all (sym (chars_more cs c))

pub loop-c-preserved : goal.loop-c-preserved
loop-c-preserved c = c.in_ok-add_printable_char.ensures ∙ (ap (λ bs. bs ++ encode_utf8_all (printable_char c.in-Some.c)) c.loop-c.invariant ∙ text_more c.loop-c.yielded c.in-Some.c)

pub returns : goal.returns
returns c =
    let end = YieldsList-end (YieldsList-from_chars c.args.text.now c.utf8.text cc) c.loop-c.yielded _ c.loop-c.yielded_by _ _ c.in-None.is c.next.ensures.steps in
    let all : c.loop-c.yielded ≡ chars c.args.text.now = sym (map-id c.loop-c.yielded) ∙ end.0 in
    c.loop-c.invariant ∙ ap (λ cs. encode_utf8_all (printable_chars cs)) all
