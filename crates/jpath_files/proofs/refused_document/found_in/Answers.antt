use Rattle.std.proofs.Common.{sym, ◌∙◌}
use Rattle.jpath_files.proofs.RefusalLemmas.{ends_there, goes_on, found_there}
use Rattle.jpath_files.proofs.refused_document.found_in.Goals as goal

pub returns-then-is_final-clause-found : goal.returns-then-is_final-clause-found
returns-then-is_final-clause-found c =
    ends_there c.args.bytes.now c.start-state.result c.find_end.new.state c.start-state.ensures.begins c.in-GoesOn.ensures.found (sym c.is_final.ensures ∙ c.if-is_final.true)

pub returns-else-is_final-clause-found : goal.returns-else-is_final-clause-found
returns-else-is_final-clause-found c =
    goes_on c.args.bytes.now c.start-state.result c.find_end.new.state c.start-state.ensures.begins c.in-GoesOn.ensures.found (sym c.is_final.ensures ∙ c.if-is_final.false)

pub returns-in_default : goal.returns-in_default
returns-in_default c = record {
  found = found_there c.args.bytes.now c.start-state.result c.find_end.new.state c.start-state.ensures.begins c.find_end.result c.find_end.ensures.found c.in_default.not-GoesOn;
  within = c.find_end.ensures.within;
}
