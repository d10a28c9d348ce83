-- The position of a refusal is at most the text's length.
use Rattle.std.proofs.Common.{◌≡◌, ◌≤◌, ◌+◌, ℕ, List, [], ◌∷◌, ◌++◌, length, take, drop, refl, sym, ap, ◌∙◌, subst, arith, append_assoc}
use Rattle.std.proofs.lemmas.List.{take-append-drop}
use Rattle.std.proofs.lemmas.Str.{encodes-chars}
use Rattle.std.specs.Str.{chars, IsUtf8}
use Rattle.jsonpath_paths.specs.Grammar.{Lexemes}
use Rattle.jsonpath_paths.specs.RefusedAt.{RefusedAt, at_token, at_character, at_end, end_of, place_in}
use Rattle.jsonpath_paths.specs.text.Characters.{byte_len, byte_len_is}
use Rattle.jsonpath_paths.specs.token.Refusals.{MatchPlace}
use Rattle.jsonpath_paths.specs.token.Tokens.{TokensAt, no_token, one_token}
use Rattle.jsonpath_paths.specs.declared.token.tokens.TokenError.{TokenError}
use Rattle.jsonpath_paths.proofs.token.FrontKeptLemmas.{reach, reach_on, byte_len_upon, kept}
use Rattle.jsonpath_paths.proofs.parser.RefusedAtLemmas.{reach_end}

place_within : (text : List ℕ) (n : ℕ) → n ≤ length text → MatchPlace (place_in text n) (length text)
place_within text n h = grind arith

-- the tokens and the rest have all bytes between them
all_bytes : (pos : ℕ) (cs rest : List ℕ) (ps : Lexemes) → TokensAt pos cs ps rest → reach pos ps + byte_len rest ≡ pos + byte_len cs
all_bytes pos cs rest [] (no_token none) = refl
all_bytes pos cs rest (p ∷ ps) (one_token n is more) =
    let parts : byte_len cs ≡ byte_len (take n cs) + byte_len (drop n cs) = ap byte_len (sym (take-append-drop n cs)) ∙ byte_len_upon (take n cs) (drop n cs) in
    omega (arith, reach_on p ps, all_bytes (pos + byte_len (take n cs)) (drop n cs) rest ps more, parts)

size : (text : List ℕ) → IsUtf8 text → byte_len (chars text) ≡ length text
size text utf8 = byte_len_is (chars text) ∙ ap length (encodes-chars text utf8)

pub within_text : (text : List ℕ) (error : TokenError) → IsUtf8 text → RefusedAt text error → MatchPlace error (length text)
within_text text error utf8 (at_token front later token rest read begins none) =
    let all = front ++ token ∷ [] in
    let k = kept all later (chars text) rest (subst (λ ps. TokensAt 0 (chars text) ps rest) (sym (append_assoc front (token ∷ []) later)) read) in
    let parts : byte_len (chars text) ≡ byte_len k.characters + byte_len k.tail = ap byte_len k.split ∙ byte_len_upon k.characters k.tail in
    place_within text (end_of all) (omega (arith, reach_end all, k.end, parts, size text utf8))
within_text text error utf8 (at_character front c rest read begins) = grind (arith, all_bytes, place_within, size)
within_text text error utf8 (at_end front read begins none) = tt
