-- `str_path` gives itself back where `set_path` answers `Ok`. Assumes `Logic`.
use mathlib.Core.Path.{refl}
use mathlib.Core.List.{[], ◌∷◌}
use mir.Syntax.{Args, Dict, Fn, a_type, dcons, dnil, named}
use mir.MapTy.{inst_fn}
use contract.BorrowLft.{◌⊑◌}
use contract.Lifetimes.{Lfts}
use contract.Running.{tables, tables_of}
use prog.Wp.{Tables}
use denote.Memory.{lone}
use denote.Param.{bounded, param}
use denote.RattleType.{RattleType}
use denote.Text.{StrRefOf, str-laws}
use denote.Triple.Spec.{triple_of}
use denote.Triple.Table.{entered, framed}
use Rattle.jsonpath_select.specs.contracts.selectors.held_pair.HeldPair as pair
use Rattle.jsonpath_select.specs.contracts.selectors.held_pair.HeldPair.str_path as F
use Rattle.jsonpath_select.specs.contracts.selectors.held_pair.HeldPair.str_path.Key.{name as #self}
use Rattle.jsonpath_select.specs.contracts.selectors.held_pair.HeldPair.set_path as g
use Rattle.jsonpath_select.specs.contracts.selectors.held_pair.HeldPair.set_path.Key.{name as #in_place}
use Rattle.jsonpath_select.specs.plan.lending.ChainedCalls.{Alloc, passed_on, refused_on, still_outlives}
use Rattle.jsonpath_select.specs.plan.lending.ChainedCode.{runs_two}
use Rattle.jsonpath_select.specs.plan.lending.ChainedWithMore.{as_typed, with_one_more}
use Rattle.jsonpath_select.proofs.selectors.PairCallLemmas.{E, typed}
use Rattle.jsonpath_select.proofs.selectors.held_pair.HeldPair.set_path.Met.{met}
use Rattle.jsonpath_select.proofs.selectors.held_pair.HeldPair.str_path.Statement as stated
use Rattle.jsonpath_select.proofs.selectors.held_pair.HeldPair.str_path.Code as code

-- the types of the path and of the value, with their calls
abbrev args : RattleType → RattleType → Dict → Dict → Dict → Dict → Args
args P V d d' d'' d''' = bounded (a_type ∷ a_type ∷ []) (P, (V, tt)) (dcons d (dcons d' (dcons d'' (dcons d''' dnil))))

abbrev Text : Lfts 3 → RattleType
Text κs = (StrRefOf {n = 4} (1 ∷ []) tt).row ([], κs)

abbrev none : Lfts 3
none = ([], ([], ([], tt)))

pub str_path_spec : {M : Type 1} → stated.statement M
unfolding tables_of
str_path_spec 𝓤 𝓛 𝓜 𝓡 wired P V laws laws' own d any d' held d'' d''' met_own met_any met_held drops =
    let 𝓣 : Tables 𝓤 𝓛.H = tables_of 𝓤 𝓛.H 𝓜 (tables 𝓤 𝓛.H 𝓜 𝓡 𝓡.env) in
    let fm = framed 𝓤 𝓛.H 𝓜 (tables 𝓤 𝓛.H 𝓜 𝓡 𝓡.env) in
    let S : RattleType = pair.the_row (param 0 P) (param 1 V) any held in
    let key = #in_place (args P V d d' d'' d''') in
    let fn : Fn = inst_fn (args P V d d' d'' d''') code.function in
    let os = (F.signature P V own d any d' held d'' d''').outlives in
    entered 𝓤 𝓛.H (triple_of 𝓛 (F.signature P V own d any d' held d'' d''') (F.spec P V own d any d' held d'' d''' 𝓛 𝓜.mem 𝓡.returns)) 𝓣.C 𝓣.Λ (#self (args P V d d' d'' d''')) fn (code.unfolded 𝓤 𝓛.H 𝓜 𝓡 wired (P, (V, tt)) d d' d'' d''')
    (with_one_more 3 os (λ κs. S) E Text 𝓛 (typed 𝓛) (as_typed 𝓛 3 Text (lone (Text none).mir) (λ κs x vs. ((str-laws (record { mir = named 1; lft = κs.0 })).lawful 𝓛).typed x vs) (λ κs. (κs.1.0 ⊑ P.lives) ∷ (κs.1.1.0 ⊑ V.lives) ∷ [])) (λ κs α bd. (still_outlives κs.0 κs.1.1.0 α bd.0, (still_outlives κs.0 κs.1.1.1.0 α bd.1.0, tt)))
    (λ κs a. (F.clauses P V own d any d' held d'' d''' 𝓛 𝓜.mem 𝓡.returns κs a).ensures tt) (λ κs a. (g.clauses P V own d any d' held d'' d''' 𝓛 𝓜.mem 𝓡.returns κs a).ensures tt)
    (λ κs place heap x l y w. passed_on 𝓛 S place E.Denot y refl) (λ κs place heap x l e y w. refused_on 𝓛 S place E.Denot e y (λ still. still)) key fn 𝓣 fm
    (met 𝓤 𝓛 𝓜 𝓡 (code.calls-jsonpath_select::selectors::held_pair::HeldPair::set_path 𝓡.env wired) P V laws laws' own d any d' held d'' d''' met_own met_any met_held drops)
    (runs_two code.function.lifetimes code.function.outlives key S S (lone Alloc.mir) (lone E.mir) 𝓛 𝓣.C 𝓣.Λ fm (lone (Text none).mir)))
