-- What a held pair ends as after a call that may be refused: as the caller leaves it at `Ok`, and as it was at `Err`.
use Rattle.std.specs.Prelude.{[], Result}
use Rattle.std.specs.Borrow.{Fml, RattleType, MutBor, LendsIfOk}
use Rattle.std.specs.contracts.alloc.Global as global
use Rattle.std.specs.contracts.impls.GlobalAllocator.TheImpl as of_global
use Rattle.std.specs.contracts.rc.Rc as rc
use mir.Syntax.{Lifetime, named}
use base.Fml.{Lft}
use Rattle.serde_json.specs.contracts.value.Value as value
use Rattle.jsonpath_paths.specs.contracts.parser.path_parser.PathParser as path_parser
use Rattle.jsonpath_select.specs.contracts.compile.any_path.PathParserAnyPath.TheImpl as of_parser
use Rattle.jsonpath_select.specs.contracts.compile.any_path.RcAnyPath.TheImpl as of_shared
use Rattle.jsonpath_select.specs.contracts.selectors.held_pair.HeldPair as pair
use Rattle.jsonpath_select.specs.contracts.selectors.held_pair.ValueHeldValue.TheImpl as of_value
use Rattle.jsonpath_select.specs.declared.compile.any_path.AnyPath as any_path
use Rattle.jsonpath_select.specs.declared.selectors.held_pair.HeldValue as held_value

-- a value that a call gives back at `Ok`
abbrev pub lends_itself : (R : RattleType) → MutBor R.Denot → {E : Type 0} → Result (MutBor R.Denot) E → Fml
lends_itself R s r = LendsIfOk R R s r (λ w. w) s.now

-- a pair of a path and a value of these types
abbrev pub pair_lends : (P : RattleType) (path : any_path.Ghosts P.Denot) (V : RattleType) (held : held_value.Ghosts V.Denot) → MutBor (pair.the_row P V path held).Denot → {E : Type 0} → Result (MutBor (pair.the_row P V path held).Denot) E → Fml
pair_lends P path V held = lends_itself (pair.the_row P V path held)

-- a pair of a path of this type and a document of its own
abbrev pub updated_row : (P : RattleType) → any_path.Ghosts P.Denot → RattleType
updated_row P path = pair.the_row P value.the_row path of_value.ghosts

abbrev pub held_lends : (P : RattleType) (path : any_path.Ghosts P.Denot) → MutBor (updated_row P path).Denot → {E : Type 0} → Result (MutBor (updated_row P path).Denot) E → Fml
held_lends P path = lends_itself (updated_row P path)

-- a pair of a shared path, whose text has this lifetime, and a value of this type
abbrev pub json_pair_row : Lifetime → Lft → (V : RattleType) → held_value.Ghosts V.Denot → RattleType
json_pair_row ℓ κ V held =
    let parser : RattleType = path_parser.the_row (record { mir = ℓ; lft = κ }) in
    pair.the_row (rc.the_row parser global.the_row of_global.ghosts) V (of_shared.ghosts parser of_parser.ghosts of_shared.no_dict) held

abbrev pub json_pair_lends : (V : RattleType) (held : held_value.Ghosts V.Denot) → MutBor (json_pair_row (named 1) [] V held).Denot → {E : Type 0} → Result (MutBor (json_pair_row (named 1) [] V held).Denot) E → Fml
json_pair_lends V held = lends_itself (json_pair_row (named 1) [] V held)
