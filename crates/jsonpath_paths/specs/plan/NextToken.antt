-- What reading a token changes.
use Rattle.std.specs.Prelude.{ℕ, ◌-◌, Option, Some, None, option_map, take, Result, Ok, Err, List, []}
use Rattle.jsonpath_paths.specs.text.TextPlace.{Place, ahead, past, span_to}
use Rattle.jsonpath_paths.specs.declared.token.tokens.Kind.{Kind}
use Rattle.jsonpath_paths.specs.declared.token.tokens.Lexeme.{Lexeme}
use Rattle.jsonpath_paths.specs.declared.token.tokens.Token.{Token}
use Rattle.jsonpath_paths.specs.declared.token.tokens.TokenError.{TokenError}
use Rattle.jsonpath_paths.specs.token.Reading.{Reading, reading_from, first, closing}
use Rattle.jsonpath_paths.specs.token.Refusals.{fault}
use Rattle.jsonpath_paths.specs.token.Tokens.{token}

-- the kind of a lexeme, and the place behind it; its first character has been read already
abbrev pub ends_at : Option (Kind × ℕ) → Place → Option (Kind × Place)
ends_at None p = None
ends_at (Some f) p = Some (f.0, past p (take (f.1 - 1) (ahead p)))

-- the place behind the quote that closes a text
abbrev pub closes_at : ℕ → Place → Option Place
closes_at quote p = option_map (λ n. past p (take n (ahead p))) (closing quote (ahead p))

-- the kind of the lexeme at the front, and the place behind it
abbrev pub first_at : Place → Option (Kind × Place)
first_at p = option_map (λ f. (f.0, past p (take f.1 (ahead p)))) (first (ahead p))

-- the lexeme at the front, and the place behind it; or why there is none, and the same place
abbrev pub next_by : Option (Kind × Place) → Place → Result Lexeme TokenError × Place
next_by None p = (Err (fault p.pos (ahead p)), p)
next_by (Some f) p = (Ok (record { kind = f.0; span = span_to p f.1 }), f.1)

abbrev pub next_at : Place → Result Lexeme TokenError × Place
next_at p = next_by (first_at p) p

abbrev pub token_of : Result Lexeme TokenError × Place → Result Token TokenError × Place
token_of (Ok p, after) = (Ok (token p.kind p.span), after)
token_of (Err e, after) = (Err e, after)

-- the lexemes from the place on
abbrev pub reading : Place → Reading
reading p = reading_from 0 p.pos (ahead p)

-- no lexeme, and these characters are left
abbrev pub nothing_but : List ℕ → Reading
nothing_but cs = record { lexemes = []; rest = cs }
