-- Worked rows: where a text is refused that is no path.
use Rattle.std.proofs.Common.{◌≡◌, ℕ, List, [], ◌∷◌, Some, refl, codes}
use Rattle.std.specs.Prelude.{map}
use Rattle.std.specs.Str.{chars}
use Rattle.jsonpath_paths.specs.Literals.{truth_of}
use Rattle.jsonpath_paths.specs.Numbers.{index_of, range_step_of, decimal_of, fraction_of}
use Rattle.jsonpath_paths.specs.WholeText.{place_of_text}
use Rattle.jsonpath_paths.specs.declared.token.tokens.TokenError.{TokenError}
use Rattle.jsonpath_paths.specs.declared.token.tokens.TokenError.TheVariants.{Eof, Position}

abbrev rows : List (List ℕ × TokenError)
rows =
    (codes "$['a", Eof) ∷ (codes "$[\"", Eof) ∷ (codes "$['a\\']", Eof) ∷ (codes "$[?(@.a == 'x)]", Eof) ∷ (codes "$=", Eof) ∷ (codes "$.a&", Eof) ∷
    (codes "$.$", Eof) ∷ (codes "$a", Eof) ∷ (codes "$$", Eof) ∷ (codes "$.a b", Eof) ∷ (codes " $", Position 1) ∷ (codes "$=1", Position 2) ∷
    (codes "$a.b", Position 2) ∷ (codes "$$.a", Position 2) ∷ (codes "$[+]", Position 3) ∷ (codes "$[-]", Position 3) ∷ (codes "$.a&b", Position 4) ∷
    (codes "$.a b.c", Position 5) ∷ (codes "$.a&&b", Position 5) ∷ (codes "$.'a'.b", Position 5) ∷ (codes "$[?(@ == 1e5)]", Position 12) ∷
    (codes "$[?(@ == -inf)]", Position 13) ∷ (codes "$[?(@ == truely)]", Position 15) ∷ (codes "$[-9223372036854775809]", Position 22) ∷
    (codes "$[::18446744073709551616]", Position 24) ∷ (codes "$[?(@ < 0.1234567890123456789)]", Position 29) ∷ (codes "", Eof) ∷ (codes "$[", Eof) ∷
    (codes "$[]", Eof) ∷ (codes "$.a]", Eof) ∷ (codes "@.", Position 1) ∷ (codes "$[a]", Position 3) ∷ (codes "$ .a", Position 3) ∷
    (codes "$.[ 0]", Position 4) ∷ (codes "$[1.1]", Position 4) ∷ (codes "$[1,,]", Position 5) ∷ (codes "$[::a]", Position 5) ∷
    (codes "$[?(1 = 1)]", Position 7) ∷ (codes "$[0,1 ,2]", Position 7) ∷ (codes "$['a', b]", Position 8) ∷ (codes "$[?($.a)]", Position 8) ∷
    (codes "$[?(1.1<2.)]", Position 11) ∷ (codes "$['a' ,'b']", Position 7) ∷ (codes "$[-12:13 ]..[::2] .a", Position 19) ∷
    (codes "$[?(@.a > @.b]", Eof) ∷ (codes "$[?(@.a < @.b&&(@.c < @.d)]", Eof) ∷ (codes "$[?]", Eof) ∷ (codes "$.", Eof) ∷ (codes "$..", Eof) ∷
    (codes "$[?((@.a)]", Eof) ∷ (codes "$>", Eof) ∷ (codes "$[99999999999999999999", Eof) ∷ (codes "$[9223372036854775808]", Position 21) ∷
    (codes "$[?(@.a == 18446744073709551616)]", Position 31) ∷ (codes "$[?(@ < 0.1111111111111111111)]", Position 29) ∷
    (codes "$..[?(a <= @.a)]", Position 7) ∷ (codes "$[0, >=]", Position 7) ∷ (codes "$[a:]", Position 3) ∷ (codes "$[:a]", Position 4) ∷
    (codes "$[:>]", Position 4) ∷ (codes "$[1:>]", Position 5) ∷ (codes "$[?(1 = >)]", Position 7) ∷ (codes "$. a", Position 3) ∷
    (codes "$[?(1.1<.2)]", Position 9) ∷ (codes "$[?(1.1<2.a)]", Position 11) ∷ (codes "$[?(@ == 1.x)]", Position 12) ∷
    (codes "$[?(@.a)x]", Position 9) ∷ (codes "$[?(@.a == )]", Position 12) ∷ (codes "$[1:2:3:4]", Position 8) ∷
    (codes "$[?(@ == 9.5e1)]", Position 14) ∷ (codes "$[?(1)]", Position 6) ∷ (codes "$[?(true)]", Position 9) ∷ (codes "$[?('a' )]", Position 9) ∷
    (codes "$[?(@ & 1)]", Position 7) ∷ (codes "$[*,1]", Position 4) ∷ (codes "$[1 2]", Position 5) ∷ (codes "$['a'x]", Position 6) ∷
    (codes "$[?x]", Position 4) ∷ (codes "$[?(@==1 1)]", Position 10) ∷ (codes "$[?(@ == -0.5.1)]", Position 14) ∷
    (codes "$[99999999999999999999]", Position 22) ∷ (codes "$[::-0]", Position 6) ∷ (codes "$[? (@)]", Position 4) ∷
    (codes "$[?(@ < 1e309)]", Position 13) ∷ []

-- by the law `error_position`
refused_there : map (λ r. place_of_text r.0) rows ≡ map (λ r. Some r.1) rows
unfolding index_of range_step_of decimal_of fraction_of truth_of chars
refused_there = refl
