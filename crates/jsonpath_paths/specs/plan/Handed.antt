-- What handing tokens over does to a receiver.
use Rattle.std.specs.Prelude.{◌≡◌, ◌++◌, List, Bool, true, false}
use Rattle.jsonpath_paths.specs.declared.text.str_reader.StrRange.{StrRange}
use Rattle.jsonpath_paths.specs.declared.token.tokens.ParseToken.{ParseToken}

-- A receiver that failed has failed still. If it has not, it was given these tokens. What it took as a reading it takes still.
abbrev pub Handed : {H V : Type 0} → (H → Bool) → (H → List ParseToken) → (H → StrRange → V → Type 0) → H → H → List ParseToken → Type 0
Handed failed tokens takes old new given =
    (failed old ≡ true → failed new ≡ true)
    × (failed new ≡ false → tokens new ≡ tokens old ++ given)
    × ((s : StrRange) (v : _) → takes old s v → takes new s v)
