-- What a `StrReader` shows, and what it keeps.
use Rattle.std.specs.Prelude.{◌≡◌, ◌≤◌, length, drop}
use Rattle.jsonpath_paths.specs.text.TextPlace.{Place}
use Rattle.jsonpath_paths.specs.declared.text.str_reader.StrReader.TheInside.{Inside}

abbrev pub place_of : Inside → Place
place_of r = record { text = r.text.now; pos = r.pos }

pub record IsAt (r : Inside) : Type 0 where
  pub within : r.pos ≤ length r.text.now
  pub rest : r.rest.now ≡ drop r.pos r.text.now
