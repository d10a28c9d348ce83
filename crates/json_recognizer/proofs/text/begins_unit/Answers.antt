use Rattle.std.proofs.Common.{arith, ap, sym, ◌∙◌}
use Rattle.json_recognizer.specs.Classes.{class_of}
use Rattle.json_recognizer.proofs.Leads.{d_unit, unit}
use Rattle.json_recognizer.proofs.text.begins_unit.Goals as goal

pub returns-in-48-to-55 : goal.returns-in-48-to-55
returns-in-48-to-55 c = λ _. d_unit c.args.first c.args.second (ap class_of c.in-100.is) (omega arith) (omega arith)

pub returns-in-48-to-55-matches : goal.returns-in-48-to-55-matches
returns-in-48-to-55-matches c = λ _. d_unit c.args.first c.args.second (ap class_of c.in-68.is) (omega arith) (omega arith)

pub returns-then-is_hex : goal.returns-then-is_hex
returns-then-is_hex c = λ h. unit c.args.first c.args.second (omega arith) (omega arith) (sym c.is_hex.ensures ∙ c.if-is_hex.true) (sym c.is_hex-then-is_hex.ensures ∙ h)
