use Rattle.std.proofs.Common.{◌≡◌, ◌<◌, ◌-◌, ◌∷◌, List, length, map, take, drop, ap, ap₂, sym, ◌∙◌, drop-cons, arith}
use Rattle.std.proofs.lemmas.List.{take_rest}
use Rattle.jsonpath_paths.specs.declared.token.tokens.FilterToken.TheVariants.{NotEqual}
use Rattle.jsonpath_nodes.specs.compare.Atoms.{seen_with}
use Rattle.jsonpath_nodes.specs.declared.compare.atom.Atom.{Atom}
use Rattle.jsonpath_select.specs.Parts.{is_pair}
use Rattle.jsonpath_select.specs.plan.Deciders.{seen_kept, some_right}
use Rattle.jsonpath_select.specs.declared.comparison.pairs.KeptAtom.{KeptAtom}
use Rattle.jsonpath_select.proofs.comparison.FarthestLemmas.{pushed}
use Rattle.jsonpath_select.proofs.comparison.TwoValueLemmas.{first_decides, two_decide}
use Rattle.jsonpath_select.proofs.comparison.unequal_atoms.two_unequal.Goals as goal

pub returns-in_ok-push-in-Some : goal.returns-in_ok-push-in-Some
returns-in_ok-push-in-Some g c = λ x.
    let f = g.N.Fraction.fraction in
    let atoms = c.args.atoms.now in
    let first = c.first-item.result in
    let some : 0 < length atoms = omega (arith, c.in-len1-up.len_at_least) in
    let all : first ∷ take (length atoms - 1) (drop 1 atoms) ≡ atoms = ap₂ (λ (a : Atom g.row.N.Denot) (rest : List (Atom g.row.N.Denot)). a ∷ rest) c.first-item.is (take_rest atoms 1) ∙ sym (drop-cons atoms 0 first some) in
    pushed (seen_kept f) (is_pair NotEqual x) _ _ _ _ c.in_ok-push-in-Some.ensures.items
    (pushed (seen_kept f) (is_pair NotEqual x) _ _ _ _ c.in_ok-push.ensures.items (ap (λ (ks : List (KeptAtom g.row.N.Denot)). some_right NotEqual x (map (seen_kept f) ks)) c.in_ok-two.ensures.items))
    ∙ two_decide (seen_with f first) (seen_with f c.in-Some.atom.now) (map (seen_with f) (take (length atoms - 1) (drop 1 atoms))) c.in-Some.ensures.0 c.in-Some.ensures.1 x
    ∙ ap (λ (ys : List (Atom g.row.N.Denot)). some_right NotEqual x (map (seen_with f) ys)) all

pub returns-in-None : goal.returns-in-None
returns-in-None g c = λ x.
    let f = g.N.Fraction.fraction in
    let atoms = c.args.atoms.now in
    let first = c.first-item.result in
    let some : 0 < length atoms = omega (arith, c.in-len1-up.len_at_least) in
    let all : first ∷ take (length atoms - 1) (drop 1 atoms) ≡ atoms = ap₂ (λ (a : Atom g.row.N.Denot) (rest : List (Atom g.row.N.Denot)). a ∷ rest) c.first-item.is (take_rest atoms 1) ∙ sym (drop-cons atoms 0 first some) in
    pushed (seen_kept f) (is_pair NotEqual x) _ _ _ _ c.in_ok-push.ensures.items (ap (λ (ks : List (KeptAtom g.row.N.Denot)). some_right NotEqual x (map (seen_kept f) ks)) c.in_ok-two.ensures.items)
    ∙ first_decides (seen_with f first) (map (seen_with f) (take (length atoms - 1) (drop 1 atoms))) c.in-None.ensures x ∙ ap (λ (ys : List (Atom g.row.N.Denot)). some_right NotEqual x (map (seen_with f) ys)) all
