use Rattle.std.proofs.Common.{◌≡◌, suc, ◌+◌, ◌-◌, ◌/◌, ◌<◌, drop, length, sym, ap, ◌∙◌, arith}
use Rattle.json.specs.Value.{value_view, members_view}
use Rattle.json_trees.specs.OrderedTree.{places}
use Rattle.json_trees.proofs.MemberSearchLemmas.{all_behind_here, here_it_is, none_from_here, one_is_taken}
use Rattle.json_trees.proofs.PlacesLemmas.{found, found_is_last, same_name}
use Rattle.json_trees.proofs.ordered_tree.handle.OrderedMembers.member.Goals as goal

pub returns-in_err-member-clause-value : goal.returns-in_err-member-clause-value
returns-in_err-member-clause-value c =
    let ms = members_view c.args.self.members.now.items in
    let i = c.loop-low.low + (c.loop-low.high - c.loop-low.low) / 2 in
    let within : i < length (places ms) = omega (arith, c.loop-low.invariant.2, c.loop-low.invariant.3, c.loop-low-test.true) in
    absurd (one_is_taken ms i within c.in_err-member.ensures)

pub loop-low-preserved-in-Less : goal.loop-low-preserved-in-Less
loop-low-preserved-in-Less c =
    let ms = members_view c.args.self.members.now.items in
    let l = c.loop-low in
    let i = l.low + (l.high - l.low) / 2 in
    let m = c.in_ok-member.member in
    let within : i < length (places ms) = omega (arith, l.invariant.3, c.loop-low-test.true) in
    (l.invariant.0, none_from_here ms c.args.name.now i (m.0.now, value_view m.1.value.now) within c.in_ok-member.ensures (sym c.cmp.ensures ∙ c.in-Less.is), omega (arith, l.invariant.2), omega (arith, l.invariant.3, c.loop-low-test.true))

pub returns-in-Equal-clause-key : goal.returns-in-Equal-clause-key
returns-in-Equal-clause-key c = sym (same_name c.args.name.now c.in_ok-member.member.0.now (sym c.cmp.ensures ∙ c.in-Equal.is))

pub returns-in-Equal-clause-value : goal.returns-in-Equal-clause-value
returns-in-Equal-clause-value c =
    let ms = members_view c.args.self.members.now.items in
    let l = c.loop-low in
    let i = l.low + (l.high - l.low) / 2 in
    let m = c.in_ok-member.member in
    let within : i < length (places ms) = omega (arith, l.invariant.3, c.loop-low-test.true) in
    sym (here_it_is ms c.args.name.now i (m.0.now, value_view m.1.value.now) within c.in_ok-member.ensures (sym c.cmp.ensures ∙ c.in-Equal.is)) ∙ found_is_last ms c.args.name.now

pub loop-low-preserved : goal.loop-low-preserved
loop-low-preserved c =
    let ms = members_view c.args.self.members.now.items in
    let l = c.loop-low in
    let i = l.low + (l.high - l.low) / 2 in
    let m = c.in_ok-member.member in
    let within : i < length (places ms) = omega (arith, l.invariant.3, c.loop-low-test.true) in
    let next : i + 1 ≡ suc i = omega arith in (
      ap (λ k. found ms c.args.name.now (drop k (places ms))) next ∙ all_behind_here ms c.args.name.now i (m.0.now, value_view m.1.value.now) within c.in_ok-member.ensures (sym c.cmp.ensures ∙ c.in-Greater.is),
      l.invariant.1,
      omega (arith, c.loop-low-test.true),
      l.invariant.3,
    )

pub returns-clause-value : goal.returns-clause-value
returns-clause-value c =
    let ms = members_view c.args.self.members.now.items in
    let l = c.loop-low in
    let same : l.high ≡ l.low = omega (arith, l.invariant.2, c.loop-low-test.false) in
    sym (sym (found_is_last ms c.args.name.now) ∙ sym l.invariant.0 ∙ ap (λ k. found ms c.args.name.now (drop k (places ms))) (sym same) ∙ l.invariant.1)
