-- `remove` gives itself back where `remove_in_place` answers `Ok`. Assumes `Logic`.
use mathlib.Core.Path.{refl}
use mir.Syntax.{Dict, Fn}
use mir.MapTy.{inst_fn}
use contract.BorrowLft.{◌⊑◌}
use contract.Running.{tables, tables_of}
use prog.Wp.{Tables}
use denote.Param.{param}
use denote.RattleType.{RattleType}
use denote.Triple.Spec.{triple_of}
use denote.Triple.Table.{entered, framed}
use Rattle.jsonpath_select.specs.contracts.selectors.chained_updates.HeldPair+P+Value.remove as F
use Rattle.jsonpath_select.specs.contracts.selectors.chained_updates.HeldPair+P+Value.remove.Key.{name as #self}
use Rattle.jsonpath_select.specs.contracts.selectors.updates_in_place.HeldPair+P+Value.remove_in_place as g
use Rattle.jsonpath_select.specs.contracts.selectors.updates_in_place.HeldPair+P+Value.remove_in_place.Key.{name as #in_place}
use Rattle.jsonpath_select.specs.selectors.PairLends.{updated_row}
use Rattle.jsonpath_select.specs.plan.lending.ChainedCalls.{passed_on, refused_on, with_alloc, still_outlives}
use Rattle.jsonpath_select.proofs.selectors.PairCallLemmas.{E, typed, args}
use Rattle.jsonpath_select.proofs.selectors.updates_in_place.HeldPair+P+Value.remove_in_place.Met.{met}
use Rattle.jsonpath_select.proofs.selectors.chained_updates.HeldPair+P+Value.remove.Statement as stated
use Rattle.jsonpath_select.proofs.selectors.chained_updates.HeldPair+P+Value.remove.Code as code

abbrev function : RattleType → Dict → Fn
function P p = inst_fn (args P p) code.function

pub remove_spec : {M : Type 1} → stated.statement M
unfolding tables_of
remove_spec 𝓤 𝓛 𝓜 𝓡 wired P laws any p met_any =
    let 𝓣 : Tables 𝓤 𝓛.H = tables_of 𝓤 𝓛.H 𝓜 (tables 𝓤 𝓛.H 𝓜 𝓡 𝓡.env) in
    let S : RattleType = updated_row (param 0 P) any in
    entered 𝓤 𝓛.H (triple_of 𝓛 (F.signature P any p) (F.spec P any p 𝓛 𝓜.mem 𝓡.returns)) 𝓣.C 𝓣.Λ (#self (args P p)) (function P p) (code.unfolded 𝓤 𝓛.H 𝓜 𝓡 wired (P, tt) p)
    (with_alloc 1 (F.signature P any p).outlives (λ κs. S) E 𝓛 (typed 𝓛) (λ κs. κs.0 ⊑ P.lives) (λ κs α bd. (still_outlives κs.0 κs.1.0 α bd.0, tt)) (λ κs a. (F.clauses P any p 𝓛 𝓜.mem 𝓡.returns κs a).ensures tt) (λ κs a. (g.clauses P any p 𝓛 𝓜.mem 𝓡.returns κs a).ensures tt)
    (λ κs place heap l y w. passed_on 𝓛 S place E.Denot y refl) (λ κs place heap l e y w. refused_on 𝓛 S place E.Denot e y (λ still. still)) code.function.lifetimes code.function.outlives (#in_place (args P p)) S S
    𝓣 (framed 𝓤 𝓛.H 𝓜 (tables 𝓤 𝓛.H 𝓜 𝓡 𝓡.env)) (met 𝓤 𝓛 𝓜 𝓡 (code.calls-jsonpath_select::selectors::updates_in_place::HeldPair+P+Value::remove_in_place 𝓡.env wired) P laws any p met_any))
