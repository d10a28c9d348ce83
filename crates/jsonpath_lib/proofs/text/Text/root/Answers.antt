use Rattle.std.proofs.Common.{ap, ◌∙◌}
use Rattle.json.specs.Value.{value_view}
use Rattle.json_trees.specs.AsRead.{document_as_read}
use Rattle.jsonpath_lib.proofs.text.Text.root.Goals as goal

pub returns : goal.returns
returns c document tree = ap (λ v. document_as_read (value_view v)) c.text_root.ensures ∙ tree
