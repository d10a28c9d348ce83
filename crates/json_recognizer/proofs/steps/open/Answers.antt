use Rattle.std.proofs.Common.{◌-◌, ◌+◌, ap, ◌∙◌, arith, slice_set}
use Rattle.json_recognizer.specs.Grammar.{max_depth}
use Rattle.json_recognizer.specs.Machine.{goes, first_in}
use Rattle.json_recognizer.specs.State.{frames}
use Rattle.json_recognizer.proofs.Frames.{opens_one}
use Rattle.json_recognizer.proofs.steps.open.Goals as goal

pub returns-then-is_object-clause-goes : goal.returns-then-is_object-clause-goes
returns-then-is_object-clause-goes c = λ _.
    let s = c.args.state.now in
    opens_one s.depth s.kinds c.args.is_object (omega arith) c.requires c.if-state-eq127.false
    ∙ ap (λ k. goes (first_in k) (frames (s.depth + 1) (slice_set s.kinds s.depth c.args.is_object)) (max_depth - (s.depth + 1))) c.if-is_object.true

pub returns-else-is_object-clause-goes : goal.returns-else-is_object-clause-goes
returns-else-is_object-clause-goes c = λ _.
    let s = c.args.state.now in
    opens_one s.depth s.kinds c.args.is_object (omega arith) c.requires c.if-state-eq127.false
    ∙ ap (λ k. goes (first_in k) (frames (s.depth + 1) (slice_set s.kinds s.depth c.args.is_object)) (max_depth - (s.depth + 1))) c.if-is_object.false
