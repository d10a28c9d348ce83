use Rattle.std.proofs.Common.{◌≡◌, ◌++◌, ◌-◌, ◌≤◌, ◌==◌, true, List, [], take, drop, length, map, refl, sym, ap, ◌∙◌, drop_of_length-le, arith}
use Rattle.jsonpath_nodes.specs.place.Location.{Location}
use Rattle.jsonpath_nodes.specs.place.Mark.{shown}
use Rattle.jsonpath_select.specs.Meaning.{follow}
use Rattle.jsonpath_select.specs.plan.First.{kept_by}
use Rattle.jsonpath_select.proofs.filters.SliceLemmas.{slice_stands}
use Rattle.jsonpath_select.proofs.machine.StandingLemmas.{slice_standing}
use Rattle.jsonpath_select.proofs.walk.MarkLemmas.{length-marks}
use Rattle.jsonpath_select.proofs.walk.PieceLemmas.{first_here, kept-append, none_here, none_kept, none_stands, some_stands}
use Rattle.jsonpath_select.proofs.machine.machine.Machine.first_in_slices.Goals as goal

pub loop-from-init : goal.loop-from-init
loop-from-init g c = (omega arith, λ f ss ls is are there standing. refl)

pub lead_slice_to_end-requires : goal.lead_slice_to_end-requires
lead_slice_to_end-requires g c =
    let from = c.loop-from.from in
    let size = c.slice_end-end.result - from in
    let ls = c.requires.there.0 in
    let stand = c.in_ok-marks.ensures ∙ slice_stands g.M.Mark.located g.M.Mark.stand g.M.Mark.content (g.M.Mark.content c.args.self.now.root.now) ls c.args.starts.now from size c.requires.there.1 in
    record { is = c.requires.is; steps = c.requires.steps; there = (take size (drop from ls), (stand, slice_standing c.args.standing from size ls c.requires.there.2)) }

pub loop-from-preserved : goal.loop-from-preserved
loop-from-preserved g c = (
  omega (arith, c.slice_end-end.ensures.within),
  λ f ss ls is are there standing.
      let text = c.args.self.now.text.now in
      let doc = g.M.Mark.content c.args.self.now.root.now in
      let lead : List Location → List Location = λ ks. follow text doc ss (kept_by text doc f ks) in
      let from = c.loop-from.from in
      let end = c.slice_end-end.result in
      let pieces : (xs ys : List Location) → take 1 (lead (xs ++ ys)) ≡ take 1 (lead xs ++ lead ys) =
      λ xs ys. ap (λ (ks : List Location). take 1 (follow text doc ss ks)) (kept-append text doc f xs ys) ∙ c.first_is_of_first_piece.ensures text doc ss (kept_by text doc f xs) (kept_by text doc f ys) in
      let stand = c.in_ok-marks.ensures ∙ slice_stands g.M.Mark.located g.M.Mark.stand g.M.Mark.content doc ls c.args.starts.now from (end - from) there in
      let led = c.in_ok-found.ensures f ss (take (end - from) (drop from ls)) is are (stand, slice_standing c.args.standing from (end - from) ls standing) in
      let none : (length c.in_ok-found.found.items == 0) ≡ true = ap (λ ms. length ms == 0) (sym c.as_slice.ensures.value) ∙ sym c.is_empty.ensures ∙ c.if-not-is_empty.false in
      c.loop-from.invariant.1 f ss ls is are there standing ∙ none_here lead pieces ls from (end - from) end (omega (arith, c.slice_end-end.ensures.after)) (none_stands g.M.Mark.located g.M.Mark.stand g.M.Mark.content doc _ c.in_ok-found.found.items led none),
)

pub returns-then-not-is_empty : goal.returns-then-not-is_empty
returns-then-not-is_empty g c = λ f ss ls is are there standing.
    let text = c.args.self.now.text.now in
    let doc = g.M.Mark.content c.args.self.now.root.now in
    let lead : List Location → List Location = λ ks. follow text doc ss (kept_by text doc f ks) in
    let from = c.loop-from.from in
    let size = c.slice_end-end.result - from in
    let pieces : (xs ys : List Location) → take 1 (lead (xs ++ ys)) ≡ take 1 (lead xs ++ lead ys) =
    λ xs ys. ap (λ (ks : List Location). take 1 (follow text doc ss ks)) (kept-append text doc f xs ys) ∙ c.first_is_of_first_piece.ensures text doc ss (kept_by text doc f xs) (kept_by text doc f ys) in
    let stand = c.in_ok-marks.ensures ∙ slice_stands g.M.Mark.located g.M.Mark.stand g.M.Mark.content doc ls c.args.starts.now from size there in
    let led = c.in_ok-found.ensures f ss (take size (drop from ls)) is are (stand, slice_standing c.args.standing from size ls standing) in
    (lead (take size (drop from ls)), led, c.loop-from.invariant.1 f ss ls is are there standing ∙ first_here lead pieces ls from size (some_stands g.M.Mark.located g.M.Mark.stand g.M.Mark.content doc _ c.in_ok-found.found.items led (ap (λ ms. length ms == 0) (sym c.as_slice.ensures.value) ∙ sym c.is_empty.ensures ∙ c.if-not-is_empty.true)))

pub returns : goal.returns
returns g c = λ f ss ls is are there standing.
    let text = c.args.self.now.text.now in
    let doc = g.M.Mark.content c.args.self.now.root.now in
    let same = length-marks g.M.Mark.located g.M.Mark.stand g.M.Mark.content doc ls c.args.starts.now there in
    let past : length ls ≤ c.loop-from.from = omega (arith, same) in
    ([], ap (map (shown g.M.Mark.stand g.M.Mark.content)) c.new.ensures.items, c.loop-from.invariant.1 f ss ls is are there standing ∙ ap (λ (ks : List Location). take 1 (follow text doc ss (kept_by text doc f ks))) (drop_of_length-le ls {i = c.loop-from.from} past) ∙ ap (take 1) (none_kept text doc f ss))
