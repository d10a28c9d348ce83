use Rattle.std.proofs.Common.{Ok, Err}
use Rattle.jsonpath_nodes.specs.document.OfData.{value_document}
use Rattle.jsonpath_select.proofs.answer.TryingLemmas.{tried_at}
use Rattle.jsonpath_select.proofs.answer.try_replace.try_replace_at_targets.Goals as goal

pub returns-in-Ok-try_replace_at-clause-ok : goal.returns-in-Ok-try_replace_at-clause-ok
returns-in-Ok-try_replace_at-clause-ok g c =
    tried_at g.F.FnMut c.args.path.text.now (value_document c.args.value.now) c.args.fun.now c.try_replace_at.new.f (value_document c.try_replace_at.new.value) c.in-Ok.locations.items c.as_slice.result.now (Ok tt)
    c.as_slice.ensures.value c.in-Ok.ensures.ok c.in-Ok-try_replace_at.ensures.trial

pub returns-clause-refused : goal.returns-clause-refused
returns-clause-refused g c =
    tried_at g.F.FnMut c.args.path.text.now (value_document c.args.value.now) c.args.fun.now c.try_replace_at.new.f (value_document c.try_replace_at.new.value) c.in-Ok.locations.items c.as_slice.result.now (Err c.in-Err-try_replace_at.error)
    c.as_slice.ensures.value c.in-Ok.ensures.ok c.in-Err-try_replace_at.ensures.trial
