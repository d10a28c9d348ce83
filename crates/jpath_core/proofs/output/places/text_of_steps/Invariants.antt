use Rattle.std.proofs.Common.{◌≡◌, ◌++◌, codes, map, take, string_bytes}
use Rattle.std.specs.Str.{encode_utf8_all}
use Rattle.jsonpath_nodes.specs.place.LocationText.{steps_chars}
use Rattle.jsonpath_nodes.specs.place.SpotPlace.{step_of}
use Rattle.jpath_core.proofs.output.places.text_of_steps.Given as goal

abbrev pub invariant-loop-step : goal.invariant-loop-step
invariant-loop-step l = string_bytes l.text ≡ encode_utf8_all (codes "$" ++ steps_chars (map step_of (take l.step-index l.steps)))
