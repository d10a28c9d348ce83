-- `reset_parser` gives itself back where `set_parser` answers `Ok`. Assumes `Logic`.
use mathlib.Core.Path.{refl}
use mathlib.Core.List.{[], ◌∷◌}
use mir.Syntax.{Fn, named, erased}
use mir.MapTy.{inst_fn}
use contract.BorrowLft.{◌⊑◌}
use contract.Lifetimes.{Lfts}
use contract.Running.{tables, tables_of}
use prog.Wp.{Tables}
use denote.Memory.{lone}
use denote.Param.{param}
use denote.RattleType.{RattleType}
use denote.Triple.Spec.{triple_of}
use denote.Triple.Table.{entered, framed}
use Rattle.jsonpath_paths.specs.contracts.parser.path_parser.PathParser as path_parser
use Rattle.jsonpath_paths.proofs.parser.path_parser.PathParser.TheLaws as path_parser_laws
use Rattle.jsonpath_select.specs.selectors.PairLends.{json_pair_row}
use Rattle.jsonpath_select.specs.contracts.selectors.json_selector.HeldPair+Rc+PathParser+V.reset_parser as F
use Rattle.jsonpath_select.specs.contracts.selectors.json_selector.HeldPair+Rc+PathParser+V.reset_parser.Key.{name as #self}
use Rattle.jsonpath_select.specs.contracts.selectors.json_selector.HeldPair+Rc+PathParser+V.set_parser as g
use Rattle.jsonpath_select.specs.contracts.selectors.json_selector.HeldPair+Rc+PathParser+V.set_parser.Key.{name as #in_place}
use Rattle.jsonpath_select.specs.plan.lending.ChainedCalls.{Alloc, passed_on_two, refused_on_two, still_outlives}
use Rattle.jsonpath_select.specs.plan.lending.ChainedCode.{runs_moved}
use Rattle.jsonpath_select.specs.plan.lending.ChainedWithMore.{as_typed, with_one_more}
use Rattle.jsonpath_select.proofs.selectors.PairCallLemmas.{E, typed, args}
use Rattle.jsonpath_select.proofs.selectors.json_selector.HeldPair+Rc+PathParser+V.set_parser.Met.{met}
use Rattle.jsonpath_select.proofs.selectors.json_selector.HeldPair+Rc+PathParser+V.reset_parser.Statement as stated
use Rattle.jsonpath_select.proofs.selectors.json_selector.HeldPair+Rc+PathParser+V.reset_parser.Code as code

abbrev Parser : Lfts 2 → RattleType
Parser κs = path_parser.the_row (record { mir = named 1; lft = κs.0 })

abbrev none : Lfts 2
none = ([], ([], tt))

pub reset_parser_spec : {M : Type 1} → stated.statement M
unfolding tables_of
reset_parser_spec 𝓤 𝓛 𝓜 𝓡 wired V laws held v met_held =
    let 𝓣 : Tables 𝓤 𝓛.H = tables_of 𝓤 𝓛.H 𝓜 (tables 𝓤 𝓛.H 𝓜 𝓡 𝓡.env) in
    let fm = framed 𝓤 𝓛.H 𝓜 (tables 𝓤 𝓛.H 𝓜 𝓡 𝓡.env) in
    let key = #in_place (args V v) in
    let fn : Fn = inst_fn (args V v) code.function in
    entered 𝓤 𝓛.H (triple_of 𝓛 (F.signature V held v) (F.spec V held v 𝓛 𝓜.mem 𝓡.returns)) 𝓣.C 𝓣.Λ (#self (args V v)) fn (code.unfolded 𝓤 𝓛.H 𝓜 𝓡 wired (V, tt) v)
    (with_one_more 2 (F.signature V held v).outlives (λ κs. json_pair_row (named 1) κs.0 (param 0 V) held) E Parser 𝓛 (typed 𝓛) (as_typed 𝓛 2 Parser (lone (Parser none).mir) (λ κs x vs. ((path_parser_laws.the_field_loose (record { mir = named 1; lft = κs.0 })).lawful 𝓛).typed x vs) (λ κs. (κs.1.0 ⊑ V.lives) ∷ []))
    (λ κs α bd. (still_outlives κs.0 κs.1.0 α bd.0, (still_outlives κs.0 κs.1.1.0 α bd.1.0, tt)))
    (λ κs a. (F.clauses V held v 𝓛 𝓜.mem 𝓡.returns κs a).ensures tt) (λ κs a. (g.clauses V held v 𝓛 𝓜.mem 𝓡.returns κs a).ensures tt)
    (λ κs place heap x l y w. passed_on_two 𝓛 (json_pair_row (named 1) κs.1.0 (param 0 V) held) place E.Denot y refl) (λ κs place heap x l e y w. refused_on_two 𝓛 (json_pair_row (named 1) κs.1.0 (param 0 V) held) place E.Denot e y (λ still. still)) key fn 𝓣 fm
    (met 𝓤 𝓛 𝓜 𝓡 (code.calls-jsonpath_select::selectors::json_selector::HeldPair+Rc+PathParser+V::set_parser 𝓡.env wired) V laws held v met_held)
    (runs_moved code.function.lifetimes code.function.outlives key (json_pair_row (named 1) [] (param 0 V) held) (json_pair_row erased [] (param 0 V) held) (lone Alloc.mir) (lone E.mir) 𝓛 𝓣.C 𝓣.Λ fm (lone (Parser none).mir) (lone (path_parser.the_row (record { mir = erased; lft = [] })).mir) (λ p is. is)))
