-- What the proofs share of the calls of a held pair that chain: the error's row, and the calls' type arguments. Assumes `Logic`.
use mathlib.Core.List.{List, [], ◌∷◌}
use seplogic.Ra.Ura.{Ura}
use mir.Syntax.{Args, Dict, a_type, dcons, dnil}
use mir.Val.{Val}
use types.Logic.{Logic}
use denote.Laws.{Typed, Is}
use denote.Memory.{lone}
use denote.Param.{bounded}
use denote.RattleType.{RattleType}
use Rattle.jsonpath_select.specs.contracts.error.JsonPathError as error
use Rattle.jsonpath_select.proofs.error.JsonPathError.TheLaws as error_laws

abbrev pub E : RattleType
E = error.the_row

pub typed : {M : Type 1} {𝓤 : Ura M} → Logic 𝓤 → (e : E.Denot) (vs : List Val) → Is E e vs → Typed (lone E.mir ∷ []) vs
typed 𝓛 = ((error_laws.the_row_laws).lawful 𝓛).typed

-- one type argument, the path or the value that is held, with its calls
abbrev pub args : RattleType → Dict → Args
args P p = bounded (a_type ∷ []) (P, tt) (dcons p dnil)
