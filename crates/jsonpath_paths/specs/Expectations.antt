-- What could have stood where a text is refused, by what the grammar spells alone.
use Rattle.std.specs.Prelude.{◌≡◌, ℕ, Bool, true, ◌&&◌, ◌||◌, is_some, IsTrue, ◌↔◌, List, [], ◌∷◌, ◌++◌, take, All}
use Rattle.std.specs.List.{list_any}
use Rattle.std.specs.Str.{chars, IsUtf8}
use Rattle.jsonpath_paths.specs.Grammar.{Lexemes, SpellsPath}
use Rattle.jsonpath_paths.specs.Literals.{truth_of}
use Rattle.jsonpath_paths.specs.Numbers.{index_of, range_step_of, decimal_of, fraction_of}
use Rattle.jsonpath_paths.specs.RefusedAt.{end_of, BeginsPath}
use Rattle.jsonpath_paths.specs.text.Characters.{bytes_at}
use Rattle.jsonpath_paths.specs.token.Kinds.{same_kind}
use Rattle.jsonpath_paths.specs.token.Tokens.{TokensAt}
use Rattle.jsonpath_paths.specs.tree.Tree.{Path}
use Rattle.jsonpath_paths.specs.declared.parser.expected.Expected.{Expected}
use Rattle.jsonpath_paths.specs.declared.parser.expected.Expected.TheVariants.{Token, Index, RangeStep, Literal, Fraction}
use Rattle.jsonpath_paths.specs.declared.token.tokens.Kind.{Kind}
use Rattle.jsonpath_paths.specs.declared.token.tokens.Kind.TheVariants as k
use Rattle.jsonpath_paths.specs.declared.token.tokens.Lexeme.{Lexeme}

-- the tokens that are meant, by their kind and their bytes
abbrev pub is_meant : Expected → Kind → List ℕ → Bool
is_meant (Token kind) other word = same_kind other kind
is_meant Index kind word = same_kind kind k.Key && is_some (index_of word)
is_meant RangeStep kind word = same_kind kind k.Key && is_some (range_step_of word)
is_meant Literal kind word = same_kind kind k.Key && (is_some (truth_of word) || is_some (decimal_of word []))
is_meant Fraction kind word = same_kind kind k.Key && is_some (fraction_of word)

-- the tokens of a text up to the first one such that no path begins with the tokens up to it
pub record IsLongestFront (text : List ℕ) (front : Lexemes) : Type 0 where
  pub later : Lexemes
  pub rest : List ℕ
  pub read : TokensAt 0 (chars text) (front ++ later) rest
  pub begins : BeginsPath text front
  pub longest : (t : Lexeme) (ts : Lexemes) → later ≡ t ∷ ts → ¬ BeginsPath text (front ++ t ∷ [])

-- some path begins with the front and goes on with a token that is meant
pub record GoesOnWith (text : List ℕ) (front : Lexemes) (e : Expected) : Type 0 where
  pub other : List ℕ
  pub token : Lexeme
  pub same : take (end_of front) other ≡ take (end_of front) text
  pub begins : BeginsPath other (front ++ token ∷ [])
  pub meant : is_meant e token.kind (bytes_at other token.span) ≡ true

-- Behind that front another text may have another token: a path begins with it if and only if it is among those that are
-- meant, and each of them goes on so.
pub record AreExpected (text : List ℕ) (expected : List Expected) (may_end : Bool) : Type 0 where
  pub front : Lexemes
  pub longest : IsLongestFront text front
  pub tokens : (other : List ℕ) (t : Lexeme) (later : Lexemes) (rest : List ℕ) → IsUtf8 other → take (end_of front) other ≡ take (end_of front) text
      → TokensAt 0 (chars other) (front ++ t ∷ later) rest → BeginsPath other (front ++ t ∷ []) ↔ (list_any (λ e. is_meant e t.kind (bytes_at other t.span)) expected ≡ true)
  pub each : All (λ e. GoesOnWith text front e) expected
  pub ends : IsTrue may_end ↔ ((p : Path) × SpellsPath text p front)
