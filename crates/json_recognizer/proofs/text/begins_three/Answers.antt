use Rattle.std.proofs.Common.{arith, sym, ◌∙◌}
use Rattle.json_recognizer.proofs.Leads.{three, three_e0, three_ed}
use Rattle.json_recognizer.proofs.text.begins_three.Goals as goal

pub returns-in-160-to-191 : goal.returns-in-160-to-191
returns-in-160-to-191 c = λ _. three_e0 c.args.first c.args.second c.in-224.is (omega arith) (omega arith)

pub returns-in-128-to-159 : goal.returns-in-128-to-159
returns-in-128-to-159 c = λ _. three_ed c.args.first c.args.second c.in-237.is (omega arith) (omega arith)

pub returns-in-225-to-239 : goal.returns-in-225-to-239
returns-in-225-to-239 c = λ h. three c.args.first c.args.second (omega arith) (omega arith) (omega arith) (sym c.is_tail.ensures ∙ h)
