-- `replace_with` gives itself back where `replace_in_place` answers `Ok`, and lends the closure on. Assumes `Logic`.
use mathlib.Core.Path.{refl}
use mathlib.Core.List.{[], ◌∷◌}
use mir.Syntax.{Args, Dict, Fn, a_type, dcons, dnil, named}
use mir.MapTy.{inst_fn}
use contract.BorrowLft.{◌⊑◌}
use contract.Lifetimes.{Lfts}
use contract.Running.{tables, tables_of}
use prog.Wp.{Tables}
use denote.Memory.{lone}
use denote.Param.{bounded, param}
use denote.RattleType.{RattleType}
use denote.Ref.{MutRef}
use denote.Triple.Spec.{triple_of}
use denote.Triple.Table.{entered, framed}
use Rattle.jsonpath_select.specs.declared.compile.any_path.AnyPath as any_path
use Rattle.jsonpath_select.specs.contracts.selectors.chained_updates.HeldPair+P+Value.replace_with as F
use Rattle.jsonpath_select.specs.contracts.selectors.chained_updates.HeldPair+P+Value.replace_with.F-FnMut as called
use Rattle.jsonpath_select.specs.contracts.selectors.chained_updates.HeldPair+P+Value.replace_with.Key.{name as #self}
use Rattle.jsonpath_select.specs.contracts.selectors.updates_in_place.HeldPair+P+Value.replace_in_place as g
use Rattle.jsonpath_select.specs.contracts.selectors.updates_in_place.HeldPair+P+Value.replace_in_place.Key.{name as #in_place}
use Rattle.jsonpath_select.specs.selectors.PairLends.{updated_row}
use Rattle.jsonpath_select.specs.plan.lending.ChainedCalls.{Alloc, passed_on_called, refused_on_called, still_outlives}
use Rattle.jsonpath_select.specs.plan.lending.ChainedCode.{runs_lent}
use Rattle.jsonpath_select.specs.plan.lending.ChainedWithMore.{as_lent, with_one_more}
use Rattle.jsonpath_select.proofs.selectors.PairCallLemmas.{E, typed}
use Rattle.jsonpath_select.proofs.selectors.updates_in_place.HeldPair+P+Value.replace_in_place.Met.{met}
use Rattle.jsonpath_select.proofs.selectors.chained_updates.HeldPair+P+Value.replace_with.Statement as stated
use Rattle.jsonpath_select.proofs.selectors.chained_updates.HeldPair+P+Value.replace_with.Code as code

-- the path's type, the closure's type, and what the caller knows of its calls
module _ (P X : RattleType) (any : any_path.Ghosts P.Denot) (p : Dict) (asks : called.Ghosts P X) (d d' d'' : Dict) where
  abbrev args : Args
  args = bounded (a_type ∷ a_type ∷ []) (P, (X, tt)) (dcons p (dcons d (dcons d' (dcons d'' dnil))))

  abbrev function : Fn
  function = inst_fn args code.function

  abbrev Fun : Lfts 3 → RattleType
  Fun κs = MutRef (named 1) κs.0 (param 1 X)

pub replace_with_spec : {M : Type 1} → stated.statement M
unfolding tables_of
replace_with_spec 𝓤 𝓛 𝓜 𝓡 wired P X laws laws' any p asks d d' d'' met_any asked once drops =
    let 𝓣 : Tables 𝓤 𝓛.H = tables_of 𝓤 𝓛.H 𝓜 (tables 𝓤 𝓛.H 𝓜 𝓡 𝓡.env) in
    let fm = framed 𝓤 𝓛.H 𝓜 (tables 𝓤 𝓛.H 𝓜 𝓡 𝓡.env) in
    let key = #in_place (args P X any p asks d d' d'') in
    let S : RattleType = updated_row (param 0 P) any in
    let os = (F.signature P X any p asks d d' d'').outlives in
    entered 𝓤 𝓛.H (triple_of 𝓛 (F.signature P X any p asks d d' d'') (F.spec P X any p asks d d' d'' 𝓛 𝓜.mem 𝓡.returns)) 𝓣.C 𝓣.Λ (#self (args P X any p asks d d' d'')) (function P X any p asks d d' d'') (code.unfolded 𝓤 𝓛.H 𝓜 𝓡 wired (P, (X, tt)) p d d' d'')
    (with_one_more 3 os (λ κs. S) E (Fun P X any p asks d d' d'') 𝓛 (typed 𝓛) (as_lent 𝓛 3 1 (λ κs. κs.0) (param 1 X) (λ κs. κs.1.0 ⊑ P.lives) (λ κs. κs.1.1.0 ⊑ X.lives) (F.F-IsAlwaysCallable P X any p asks d d' d'')) (λ κs α bd. (still_outlives κs.0 κs.1.1.0 α bd.0, bd.1))
    (λ κs a. (F.clauses P X any p asks d d' d'' 𝓛 𝓜.mem 𝓡.returns κs a).ensures tt) (λ κs a. (g.clauses P X any p asks d d' d'' 𝓛 𝓜.mem 𝓡.returns κs a).ensures tt)
    (λ κs place heap x l y w. passed_on_called 𝓛 S place E.Denot y refl) (λ κs place heap x l e y w. refused_on_called 𝓛 S place E.Denot e y (λ still. still)) key (function P X any p asks d d' d'') 𝓣 fm
    (met 𝓤 𝓛 𝓜 𝓡 (code.calls-jsonpath_select::selectors::updates_in_place::HeldPair+P+Value::replace_in_place 𝓡.env wired) P X laws laws' any p asks d d' d'' met_any asked once drops)
    (runs_lent code.function.lifetimes code.function.outlives key S S (lone Alloc.mir) (lone E.mir) 𝓛 𝓣.C 𝓣.Λ fm (named 1) (param 1 X)))
