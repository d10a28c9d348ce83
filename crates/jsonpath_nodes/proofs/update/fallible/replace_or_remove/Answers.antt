use Rattle.std.proofs.Common.{rules}
use Rattle.jsonpath_nodes.proofs.update.TrialLemmas.{puts_answer}
use Rattle.jsonpath_nodes.proofs.update.fallible.replace_or_remove.Goals as goal

pub returns : goal.returns
returns c = puts_answer _ _ _ _ _ _ c.args.answer c.update_at_steps_unreported.ensures (λ x r h q. search rules)
