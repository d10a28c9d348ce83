use Rattle.std.proofs.Common.{[], ◌∷◌, sym, ◌∙◌, arith, false}
use Rattle.std.proofs.lemmas.List.{take_rest}
use Rattle.jsonpath_select.specs.plan.Code as code
use Rattle.jsonpath_select.specs.plan.Ordered.{instruction_of}
use Rattle.jsonpath_select.specs.declared.machine.instruction.Instruction.TheVariants.{Start}
use Rattle.jsonpath_select.proofs.machine.OrderedLemmas.{one_taken, two_taken, first_there, by_name, alone}
use Rattle.jsonpath_select.proofs.machine.StepLemmas.{inside_frames}
use Rattle.jsonpath_select.proofs.machine.machine.Machine.execute_next.Goals as goal

pub start_at_member-requires : goal.start_at_member-requires
start_at_member-requires g c =
    let can = c.requires.can in
    let begins = c.in-Some.ensures in
    let text = c.args.self.now.text.now in
    let doc = g.M.Mark.content c.args.self.now.root.now in
    let first = first_there text doc _ (Start false) (begins.0 ∷ begins.1) can.0 can.1 (sym (take_rest c.args.code.now c.args.at) ∙ begins.2) can.3 in
    (inside_frames g.M.Mark.located g.M.Mark.stand g.M.Mark.content text doc (code.start false) can.0.frames can.0.operands first.0 c.args.stacks.now.frames.items can.2.0 first.1)

pub returns-in-Some : goal.returns-in-Some
returns-in-Some g c =
    let begins = c.in-Some.ensures in
    let doc = g.M.Mark.content c.args.self.now.root.now in (
      omega arith,
      Start false ∷ begins.0 ∷ [],
      two_taken c.args.code.now c.args.at (Start false) begins.0 begins.1 (sym (take_rest c.args.code.now c.args.at) ∙ begins.2),
      λ s u h e.
          let named = by_name c.args.self.now.text.now doc begins.0 c.in-Some.span s u begins.3 e in
          c.in_ok-start_at_member.ensures doc s named.0 u h named.1 named.2,
    )

pub execute_instruction-requires : goal.execute_instruction-requires
execute_instruction-requires g c =
    let can = c.requires.can in
    let doc = g.M.Mark.content c.args.self.now.root.now in
    let first = first_there c.args.self.now.text.now doc _ c.index-code-at.result _ can.0 can.1 (one_taken c.args.code.now c.args.at c.index-code-at.result c.index-code-at.is c.requires.some) can.3 in
    (doc, can.0, first.0, can.2, first.1)

pub returns : goal.returns
returns g c =
    let doc = g.M.Mark.content c.args.self.now.root.now in (
      omega arith,
      c.index-code-at.result ∷ [],
      one_taken c.args.code.now c.args.at c.index-code-at.result c.index-code-at.is c.requires.some,
      λ s t h e. c.in_ok-execute_instruction.ensures s t h (alone c.args.self.now.text.now doc (instruction_of c.index-code-at.result) s t e),
    )
