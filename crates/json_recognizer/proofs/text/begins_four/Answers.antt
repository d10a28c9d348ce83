use Rattle.std.proofs.Common.{arith}
use Rattle.json_recognizer.proofs.Leads.{four}
use Rattle.json_recognizer.proofs.text.begins_four.Goals as goal

pub returns-in-144-to-191 : goal.returns-in-144-to-191
returns-in-144-to-191 c = λ _. four c.args.first c.args.second c.if-first-eq240.true (omega arith) (omega arith)
