-- A name between quotes, written one character at a time.
use Rattle.std.proofs.Common.{◌≡◌, ℕ, List, [], ◌∷◌, ◌++◌, sym, ap, ◌∙◌, append-nil, append_assoc, ◌<◌, ◌^◌, arith}
use Rattle.std.specs.Str.{encode_utf8_all}
use Rattle.std.proofs.lemmas.Grind.{flat_map-append}
use Rattle.std.proofs.lemmas.Str.{encodes-append, encodes-IsAscii}
use Rattle.std.proofs.lemmas.Fmt.{IsAscii-decimal}
use Rattle.std.specs.Fmt.{decimal}
use lib.Utf8.{encode}
use Rattle.jsonpath_nodes.specs.place.Location.{Step, Location}
use Rattle.jsonpath_nodes.specs.place.LocationText.{guarded_char, guarded, step_chars, steps_chars}

-- a character more
pub guarded_more : (cs : List ℕ) (c : ℕ) → encode_utf8_all (guarded cs) ++ encode_utf8_all (guarded_char c) ≡ encode_utf8_all (guarded (cs ++ c ∷ []))
guarded_more cs c = grind (arith, encodes-append, flat_map-append)

-- ---- steps

digits_same : (n : ℕ) → n < 2 ^ 64 → encode_utf8_all (decimal n) ≡ decimal n
digits_same n h = encodes-IsAscii (decimal n) (IsAscii-decimal n h)

pub name_text : (cs : List ℕ) → (91 ∷ 39 ∷ encode_utf8_all (guarded cs)) ++ 39 ∷ 93 ∷ [] ≡ encode_utf8_all (91 ∷ 39 ∷ guarded cs ++ 39 ∷ 93 ∷ [])
unfolding encode
name_text cs = ap (λ ds. 91 ∷ 39 ∷ ds) (sym (encodes-append (guarded cs) (39 ∷ 93 ∷ [])))

pub index_text : (n : ℕ) → n < 2 ^ 64 → 91 ∷ decimal n ++ 93 ∷ [] ≡ encode_utf8_all (91 ∷ decimal n ++ 93 ∷ [])
unfolding encode
index_text n h = ap (λ ds. 91 ∷ ds ++ 93 ∷ []) (sym (digits_same n h)) ∙ ap (λ ds. 91 ∷ ds) (sym (encodes-append (decimal n) (93 ∷ [])))

-- a step more
pub step_more : (done : List ℕ) (l : Location) (s : Step) → (encode_utf8_all (done ++ steps_chars l)) ++ encode_utf8_all (step_chars s) ≡ encode_utf8_all (done ++ steps_chars (l ++ s ∷ []))
step_more done l s =
    sym (encodes-append (done ++ steps_chars l) (step_chars s))
    ∙ ap encode_utf8_all (append_assoc done (steps_chars l) (step_chars s))
    ∙ ap (λ cs. encode_utf8_all (done ++ (steps_chars l ++ cs))) (sym (append-nil (step_chars s)))
    ∙ ap (λ (cs : List ℕ). encode_utf8_all (done ++ cs)) (sym (flat_map-append step_chars l (s ∷ [])))
