use Rattle.std.proofs.Common.{◌≡◌, ◌+◌, suc, Less, Greater, get_or, length, set, take, sym, ap, ◌∙◌, arith}
use Rattle.std.proofs.lemmas.List.{get_or-take, length-take-le}
use Rattle.std.specs.List.{insert, remove}
use Rattle.json_trees.specs.TreeOrder.{by_names, put_from}
use Rattle.json_trees.proofs.PlacesLemmas.{compare, put}
use Rattle.json_trees.proofs.SortLemmas.{back, moved_among, passed_more, put_at_end, put_before_one, put_in_place, put_over, same_there, some_there}
use Rattle.json_trees.proofs.ordered_tree.sort_by_name.put_among.Goals as goal
use Rattle.json_trees.proofs.ordered_tree.sort_by_name.put_among.Goals.{else-loop-at-test, then-loop-at-test+in-Less}

pub loop-at-preserved : goal.loop-at-preserved
loop-at-preserved g c =
    let l = c.loop-at in
    let xs = c.args.named.now.items in
    let n = c.args.sorted in
    let x = c.index-in-loop-at.result.now in
    let y = c.index.result.now in
    let long : length (take n xs) ≡ n = length-take-le n xs (omega (arith, c.requires)) in
    let here : x ≡ get_or (take n xs) l.at x = c.index-in-loop-at.ensures ∙ ap (λ zs. get_or zs l.at x) l.invariant.0 ∙ sym (get_or-take n xs l.at x c.loop-at-test.true) in
    let there : y ≡ get_or xs n y = c.index.ensures ∙ ap (λ zs. get_or zs n y) l.invariant.0 in
    let above : compare y.0.now x.0.now ≡ Greater = sym c.cmp.ensures ∙ c.in-Greater.is in (
      l.invariant.0,
      omega (arith, c.loop-at-test.true),
      λ z is. passed_more (take n xs) l.at x z.0.now z.1 (omega (arith, long, c.loop-at-test.true)) here (ap (λ w. compare w.0.now x.0.now) (same_there xs n z y c.requires is there) ∙ above) (l.invariant.2 z is),
    )

pub returns-in-Equal-clause-put : goal.returns-in-Equal-clause-put
returns-in-Equal-clause-put g c =
    let l = c.loop-at in
    let xs = c.args.named.now.items in
    let n = c.args.sorted in
    let x = c.index-in-loop-at.result.now in
    let y = c.index.result.now in
    let long : length (take n xs) ≡ n = length-take-le n xs (omega (arith, c.requires)) in
    let here : x ≡ get_or (take n xs) l.at x = c.index-in-loop-at.ensures ∙ ap (λ zs. get_or zs l.at x) l.invariant.0 ∙ sym (get_or-take n xs l.at x c.loop-at-test.true) in
    let there : y ≡ get_or xs n y = c.index.ensures ∙ ap (λ zs. get_or zs n y) l.invariant.0 in
    ap (put_from n) c.remove.ensures.items
    ∙ put_over xs n l.at y (get_or l.named.items l.at y) c.swap.new.self.items c.requires c.loop-at-test.true there
    (c.swap.ensures.by_index.3 y ∙ ap (λ v. set (set l.named.items l.at v) n (get_or l.named.items l.at y)) (sym c.index.ensures) ∙ ap (λ zs. set (set zs l.at y) n (get_or l.named.items l.at y)) l.invariant.0)
    (put_in_place (take n xs) l.at x y (omega (arith, long, c.loop-at-test.true)) here (sym c.cmp.ensures ∙ c.in-Equal.is) (l.invariant.2 y there))

pub returns-clause-put : goal.returns-clause-put
returns-clause-put g c =
    let l = c.loop-at in
    let xs = c.args.named.now.items in
    let n = c.args.sorted in
    let moved = c.move_down.new.named in
    let some = some_there xs n c.requires in
    let y = some.0 in
    let long : length (take n xs) ≡ n = length-take-le n xs (omega (arith, c.requires)) in
    let slice : c.as_mut_slice.result.now ≡ xs = c.as_mut_slice.ensures.value ∙ l.invariant.0 in
    let kept : length moved ≡ length l.named.items = omega (arith, c.move_down.auto.named, ap length c.as_mut_slice.ensures.value) in
    let is : moved ≡ insert (remove xs n) l.at y = c.move_down.ensures y ∙ ap (λ zs. insert (remove zs n) l.at (get_or zs n y)) slice ∙ ap (insert (remove xs n) l.at) (sym some.1) in
    let next : n + 1 ≡ suc n = omega arith in
    let put_there : by_names (insert (take n xs) l.at y) ≡ put (by_names (take n xs)) y.0.now y.1 = elim c.loop-at-test.branch [
      | else-loop-at-test w ↦ put_at_end (take n xs) l.at y.0 y.1 (omega (arith, long, w.loop-at-test)) (l.invariant.2 y some.1)
      | then-loop-at-test+in-Less w ↦
          let x = w.index-in-loop-at.result.now in
          let here : x ≡ get_or (take n xs) l.at x = w.index-in-loop-at.ensures ∙ ap (λ zs. get_or zs l.at x) l.invariant.0 ∙ sym (get_or-take n xs l.at x w.loop-at-test.true) in
          let there : w.index.result.now ≡ get_or xs n w.index.result.now = w.index.ensures ∙ ap (λ zs. get_or zs n w.index.result.now) l.invariant.0 in
          let below : compare y.0.now x.0.now ≡ Less = ap (λ z. compare z.0.now x.0.now) (same_there xs n y w.index.result.now c.requires some.1 there) ∙ sym w.cmp.ensures ∙ w.in-Less.is in
          put_before_one (take n xs) l.at x y.0 y.1 (omega (arith, long, w.loop-at-test.true)) here below (l.invariant.2 y some.1)
    ] in
    ap (put_from (n + 1)) (back l.named.len moved l.named.items kept l.named.ok.0 ∙ is) ∙ ap (λ m. put_from m (insert (remove xs n) l.at y)) next ∙ moved_among xs n l.at y c.requires l.invariant.1 some.1 put_there
