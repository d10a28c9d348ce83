use Rattle.jsonpath_nodes.proofs.update.ApartLemmas.{at_here, at_update}
use Rattle.jsonpath_nodes.proofs.update.EditLemmas.{update_nowhere}
use Rattle.jsonpath_nodes.proofs.laws.putting_at_one_location.Goals as goal

pub returns-clause-there : goal.returns-clause-there
returns-clause-there c = λ d e l doc stands. at_here d l doc e stands

pub returns-clause-nothing_else : goal.returns-clause-nothing_else
returns-clause-nothing_else c = λ d m l doc beside. at_update d m l doc beside

pub returns-clause-nowhere : goal.returns-clause-nowhere
returns-clause-nowhere c = update_nowhere
