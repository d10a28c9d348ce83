use Rattle.std.proofs.Common.{◌≡◌, suc, ◌+◌, ◌++◌, List, ◌∷◌, take, drop, sym, ap, ◌∙◌, arith}
use Rattle.std.proofs.lemmas.List.{take_rest}
use Rattle.jsonpath_select.specs.declared.machine.instruction.Instruction.{Instruction}
use Rattle.jsonpath_select.specs.declared.machine.instruction.Instruction.TheVariants.{Enter}
use Rattle.jsonpath_select.proofs.walk.StandApartLemmas.{up_to}
use Rattle.jsonpath_select.proofs.filters.NextFilterLemmas.{no_other, step_next}
use Rattle.jsonpath_select.proofs.filters.next_filter.next_filter.Goals as goal

pub returns-in-Enter-clause-some : goal.returns-in-Enter-clause-some
returns-in-Enter-clause-some c =
    let left = c.args.left.now in
    let end = c.loop-end.end in
    let begins = Enter c.in-Enter.leaves c.in-Enter.deep in
    let next : suc end ≡ end + 1 = omega arith in (
      up_to left end c.index-left-end.result begins c.loop-end-test.true c.index-left-end.is c.in-Enter.is
          ∙ ap (λ (rest : List Instruction). take end left ++ begins ∷ rest) (ap (λ n. drop n left) next ∙ sym (take_rest left (end + 1))),
      c.loop-end.invariant,
    )

pub unreachable-requires : goal.unreachable-requires
unreachable-requires c =
    no_other c.index-left-end.result (step_next c.args.left.now c.loop-end.end c.index-left-end.result c.requires.0 c.requires.1 c.loop-end.invariant c.loop-end-test.true c.index-left-end.is)
    c.in_default.not-Step c.in_default.not-Enter
