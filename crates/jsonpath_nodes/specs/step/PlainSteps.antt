-- The plain step that the program's own one stands for.
use Rattle.std.specs.Prelude.{map}
use Rattle.jsonpath_nodes.specs.step.Steps.{Plain, every, named, listed, nth, union, range}
use Rattle.jsonpath_nodes.specs.declared.step.plain_step.PlainStep.{PlainStep}
use Rattle.jsonpath_nodes.specs.declared.step.plain_step.PlainStep.TheVariants.{Every, Named, Listed, Nth, Union, Range}

abbrev pub plain_step_of : PlainStep → Plain
plain_step_of Every = every
plain_step_of (Named k) = named k.now
plain_step_of (Listed ks) = listed (map (λ k. k.now) ks.now)
plain_step_of (Nth n) = nth n
plain_step_of (Union ns) = union ns.now
plain_step_of (Range from to step) = range from to step
