use Rattle.std.proofs.Common.{List, map, refl, ap, ◌∙◌, sym, subst}
use Rattle.jsonpath_nodes.specs.compare.Atoms.{seen_with}
use Rattle.jsonpath_select.specs.Parts.{is_pair}
use Rattle.jsonpath_select.specs.plan.Deciders.{kind, seen_kept, some_right, IsOfKindAt}
use Rattle.jsonpath_select.specs.declared.comparison.pairs.KeptAtom.{KeptAtom}
use Rattle.jsonpath_select.proofs.comparison.FarthestLemmas.{farther_end, nearer_end, pushed}
use Rattle.jsonpath_select.proofs.comparison.extremes.add_atom.Goals as goal

pub returns-then-is_satisfying_pair : goal.returns-then-is_satisfying_pair
returns-then-is_satisfying_pair g c = λ x.
    let f = g.N.Fraction.fraction in
    let there : IsOfKindAt f c.in-Some.index c.args.few.now.items (kind (seen_with f c.args.atom.now)) = subst (λ (ks : List (KeptAtom g.row.N.Denot)). IsOfKindAt f c.in-Some.index ks (kind (seen_with f c.args.atom.now))) c.as_slice.ensures.value c.in-Some.ensures in
    ap (λ (ks : List (KeptAtom g.row.N.Denot)). some_right c.args.op x (map (seen_kept f) ks)) c.put_at.ensures
    ∙ farther_end (seen_kept f) c.args.op c.requires c.args.few.now.items c.in-Some.index c.index.result.now _ c.index.ensures there.0 (there.1 _) x (sym c.if-is_satisfying_pair.ensures)

pub returns-else-is_satisfying_pair : goal.returns-else-is_satisfying_pair
returns-else-is_satisfying_pair g c = λ x.
    let f = g.N.Fraction.fraction in
    let there : IsOfKindAt f c.in-Some.index c.args.few.now.items (kind (seen_with f c.args.atom.now)) = subst (λ (ks : List (KeptAtom g.row.N.Denot)). IsOfKindAt f c.in-Some.index ks (kind (seen_with f c.args.atom.now))) c.as_slice.ensures.value c.in-Some.ensures in
    nearer_end (seen_kept f) c.args.op c.requires c.args.few.now.items c.in-Some.index c.index.result.now (record { atom = c.args.atom }) c.index.ensures there.0 (there.1 _) x (sym c.if-is_satisfying_pair.ensures)

pub returns-in_ok-push-in-None : goal.returns-in_ok-push-in-None
returns-in_ok-push-in-None g c = λ x. pushed (seen_kept g.N.Fraction.fraction) (is_pair c.args.op x) c.args.few.now.items c.push.new.self.items _ _ c.in_ok-push-in-None.ensures.items refl
