use Rattle.std.specs.Fmt.{HasWritten, IsPlainFormatter}
use Rattle.std.specs.Str.{encode_utf8_all}
use Rattle.jsonpath_nodes.specs.place.LocationText.{guarded}
use Rattle.jsonpath_nodes.proofs.place.location.print.write_guarded.Given as goal

abbrev pub invariant-loop-c : goal.invariant-loop-c
invariant-loop-c g l = IsPlainFormatter l.fn.f → HasWritten g.W.Write.write_str_gives l.fn.f (encode_utf8_all (guarded l.yielded)) l.f
