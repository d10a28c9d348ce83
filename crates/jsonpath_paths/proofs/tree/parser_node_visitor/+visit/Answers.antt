use Rattle.std.proofs.Common.{rules, arith}
use Rattle.std.proofs.lemmas.Grind.{common_steps}
use Rattle.jsonpath_paths.specs.tree.View.{path_of_out}
use Rattle.jsonpath_paths.proofs.tree.ViewLemmas.{may_read_steps}
use Rattle.jsonpath_paths.proofs.tree.parser_node_visitor.+visit.Goals as goal

pub visit_node-loop-step-init : goal.visit_node-loop-step-init
visit_node-loop-step-init g t c =
    let may_read = may_read_steps (λ s. g.R.Fn.pre c.args.reader.now (s, tt)) c.args.node.now c.requires.may in
    record {
      may_read = search (rules, may_read);
      stays_failed = search rules;
      still_takes = λ s v h. search rules;
      given = rw (path_of_out c.args.node.now) (grind (arith, common_steps));
    }
