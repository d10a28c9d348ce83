use Rattle.std.proofs.Common.{sym, ap, ◌∙◌, map-id, rules}
use Rattle.std.proofs.Output.{has_written_append, has_written_of_eq}
use Rattle.std.proofs.lemmas.Iterator.{YieldsList-from_chars}
use Rattle.std.proofs.lemmas.Iterator.Consumers.{YieldsList-end}
use Rattle.std.specs.Str.{encode_utf8_all}
use Rattle.jsonpath_nodes.specs.place.LocationText.{guarded}
use Rattle.jsonpath_nodes.proofs.place.GuardedNameLemmas.{guarded_more}
use Rattle.jsonpath_nodes.proofs.place.location.print.write_guarded.Goals as goal

pub loop-c-preserved : goal.loop-c-preserved
loop-c-preserved g c = λ plain.
    has_written_of_eq _ _ _ _ _ (guarded_more c.loop-c.yielded c.in-Some.c) (has_written_append _ _ _ _ _ _ (c.loop-c.invariant plain) (c.write_guarded_char.ensures (c.loop-c.invariant plain).plain (search rules)))

pub returns : goal.returns
returns g c = λ plain _.
    let end = YieldsList-end (YieldsList-from_chars c.args.name.now c.utf8.name cc) c.loop-c.yielded _ c.loop-c.yielded_by _ _ c.in-None.is c.next.ensures.steps in
    has_written_of_eq _ _ _ _ _ (ap (λ cs. encode_utf8_all (guarded cs)) (sym (map-id c.loop-c.yielded) ∙ end.0)) (c.loop-c.invariant plain)
