use Rattle.std.proofs.Common.{sym, ◌∙◌}
use Rattle.json_recognizer.proofs.Leads.{high}
use Rattle.json_recognizer.proofs.text.begins_high.Goals as goal

pub returns-then-is_any_d : goal.returns-then-is_any_d
returns-then-is_any_d c = λ h. high c.args.first c.args.second (c.is_any_d.ensures.0 c.if-is_any_d.true) (sym c.is_high.ensures ∙ h)
