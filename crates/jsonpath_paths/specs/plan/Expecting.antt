-- Which tokens are tried behind others, and what is told of those that may come next.
use Rattle.std.specs.Prelude.{List, [], ◌∷◌, ◌++◌, Option, Some, None, is_some, if◌then◌else◌, codes}
use Rattle.std.specs.Option.{option_to_list}
use Rattle.jsonpath_paths.specs.declared.parser.expected.Expected.{Expected}
use Rattle.jsonpath_paths.specs.declared.parser.expected.Expected.TheVariants.{Token, Index, RangeStep, Literal, Fraction}
use Rattle.jsonpath_paths.specs.declared.token.tokens.Kind.{Kind}
use Rattle.jsonpath_paths.specs.declared.token.tokens.Kind.TheVariants as k
use Rattle.jsonpath_paths.specs.plan.Wants.{Want, feed}

-- those of these kinds that may come next
abbrev pub kinds_fed : List Want → List Kind → List Expected
kinds_fed us [] = []
kinds_fed us (kind ∷ kinds) = if is_some (feed us kind []) then Token kind ∷ kinds_fed us kinds else kinds_fed us kinds

-- the words that may
abbrev pub word_fed : List Want → Option Expected
word_fed us =
    if is_some (feed us k.Key (codes "a")) then Some (Token k.Key)
    else (if is_some (feed us k.Key (codes "true")) then Some Literal
    else (if is_some (feed us k.Key (codes "-1")) then Some Index
    else (if is_some (feed us k.Key (codes "+1")) then Some RangeStep
    else (if is_some (feed us k.Key (codes "1")) then Some Fraction else None))))

abbrev pub all_fed : List Want → List Kind → List Expected
all_fed us kinds = kinds_fed us kinds ++ option_to_list (word_fed us)
