use Rattle.std.proofs.Common.{arith, sym, ◌∙◌}
use Rattle.json_recognizer.proofs.Leads.{has_lead}
use Rattle.json_recognizer.proofs.text.are_two.Goals as goal

pub returns-then-matches : goal.returns-then-matches
returns-then-matches c = λ h. has_lead c.args.first c.args.second (omega arith) (omega arith) (sym c.is_tail.ensures ∙ h)
