use Rattle.std.proofs.Common.{rules, ◌∙◌, refl}
use Rattle.std.proofs.Output.{has_written_append, has_written_of_eq}
use Rattle.std.specs.Str.{chars}
use Rattle.jsonpath_nodes.proofs.place.GuardedNameLemmas.{name_text, index_text}
use Rattle.jsonpath_nodes.proofs.place.location.print.LocStepDisplay.fmt.Goals as goal

pub returns-in_ok-write_guarded-in-Name-clause-writes : goal.returns-in_ok-write_guarded-in-Name-clause-writes
returns-in_ok-write_guarded-in-Name-clause-writes g c = λ plain ok.
    let open_ = c.write_str.ensures.writes plain (search rules) in
    let inner = c.write_guarded.ensures open_.plain (search rules) in
    let close = c.write_str-in-Name.ensures.writes inner.plain ok in
    has_written_of_eq _ _ _ _ _ (name_text (chars c.as_str.result.now) ∙ rw (c.in-Name.is, ← c.as_str.ensures.value) refl) (has_written_append _ _ _ _ _ _ (has_written_append _ _ _ _ _ _ open_ inner) close)

pub returns-in-Index-clause-writes : goal.returns-in-Index-clause-writes
returns-in-Index-clause-writes g c = λ plain ok. has_written_of_eq _ _ _ _ _ (index_text c.in-Index.index (search rules) ∙ rw c.in-Index.is refl) (c.write.ensures.writes plain ok)
