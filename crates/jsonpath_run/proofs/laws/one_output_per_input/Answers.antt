use Rattle.jsonpath_run.proofs.OneOutputLemmas.{one_output}
use Rattle.jsonpath_run.proofs.laws.one_output_per_input.Goals as goal

pub returns : goal.returns
returns c = one_output c.one_tree_per_text.ensures c.documents_keep_data_apart.ensures
