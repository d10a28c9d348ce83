-- What the refusals of a path text print.
use Rattle.std.specs.Prelude.{ℕ, List, ◌++◌, codes, decimal}
use Rattle.jsonpath_paths.specs.declared.text.str_reader.ReaderError.{ReaderError}
use Rattle.jsonpath_paths.specs.declared.token.tokens.TokenError.{TokenError}
use Rattle.jsonpath_paths.specs.declared.token.tokens.TokenError.TheVariants.{Eof, Position, OutOfMemory}

-- why a text is no path, or why no token follows
abbrev pub token_error_text : TokenError → List ℕ
token_error_text Eof = codes "Eof"
token_error_text (Position at) = codes "Position:" ++ decimal at
token_error_text OutOfMemory = codes "out of memory"

-- why no character is read: there is one reason alone
abbrev pub reader_error_text : ReaderError → List ℕ
reader_error_text error = codes "Eof"
