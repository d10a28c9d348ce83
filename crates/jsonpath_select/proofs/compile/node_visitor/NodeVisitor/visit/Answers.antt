use Rattle.std.proofs.Common.{◌++◌, ◌∙◌, ap}
use Rattle.jsonpath_paths.specs.tree.Visit.{path_tokens}
use Rattle.jsonpath_select.proofs.compile.node_visitor.NodeVisitor.visit.Goals as goal

pub returns-clause-given : goal.returns-clause-given
returns-clause-given g c = λ not_failed p spelled.
    let same = c.one_tree_per_text.ensures c.args.node.now _ p c.tree.ensures spelled in
    c.visit_path.ensures.given not_failed ∙ ap (λ q. g.Self.NodeVisitor.tokens c.args.self.now ++ path_tokens q) same
