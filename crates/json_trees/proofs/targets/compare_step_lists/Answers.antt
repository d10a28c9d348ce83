use Rattle.std.proofs.Common.{map, sym, arith}
use Rattle.std.proofs.lemmas.List.{length-map}
use Rattle.jsonpath_nodes.specs.place.SpotPlace.{step_of}
use Rattle.json_trees.proofs.TargetsLemmas.{goes_on, is_before, is_behind, is_same, is_shorter, reaches}
use Rattle.json_trees.proofs.targets.compare_step_lists.Goals as goal

pub returns-in-Less : goal.returns-in-Less
returns-in-Less c = is_behind c.args.left.now c.args.right.now c.loop-i.i _ c.loop-i-test.true c.loop-i.invariant.same (sym c.in-Less.ensures.order)

pub returns-in-Greater : goal.returns-in-Greater
returns-in-Greater c = is_before c.args.left.now c.args.right.now c.loop-i.i _ c.loop-i-test.true c.loop-i.invariant.same (sym c.in-Greater.ensures.order)

pub loop-i-preserved : goal.loop-i-preserved
loop-i-preserved c = record {
  same = goes_on c.args.left.now c.args.right.now c.loop-i.i _ c.loop-i-test.true c.loop-i.invariant.same (sym c.in-Equal.ensures.order);
  within = omega (arith, reaches c.loop-i.i (map step_of c.args.right.now) _ (sym c.in-Equal.ensures.order), length-map c.args.right.now step_of);
}

pub returns-then-left-right : goal.returns-then-left-right
returns-then-left-right c = is_shorter c.args.left.now c.args.right.now c.loop-i.i c.loop-i-test.false c.loop-i.invariant.same (omega arith)

pub returns-else-left-right : goal.returns-else-left-right
returns-else-left-right c = is_same c.args.left.now c.args.right.now c.loop-i.i c.loop-i-test.false c.loop-i.invariant.same (omega arith)
