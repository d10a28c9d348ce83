-- The instructions of a path's token list are those of its steps, behind that of its root.
use Rattle.std.proofs.Common.{◌≡◌, ℕ, ◌≤◌, ◌-◌, true, false, List, [], ◌∷◌, map, take, drop, length, refl, sym, ap, ◌∙◌, subst, arith}
use Rattle.std.proofs.lemmas.List.{take_rest}
use Rattle.jsonpath_nodes.specs.document.Document.{Document}
use Rattle.jsonpath_paths.specs.tree.Tree.{Path, path, PathSteps}
use Rattle.jsonpath_paths.specs.declared.token.tokens.ParseToken.{ParseToken}
use Rattle.jsonpath_paths.specs.Listed.{IsListOf}
use Rattle.jsonpath_select.specs.Meaning.{sel, follow}
use Rattle.jsonpath_select.specs.plan.Code.{scan}
use Rattle.jsonpath_select.specs.plan.NextFilter.{CodesPath, CodesSteps}
use Rattle.jsonpath_select.specs.plan.Ordered.{instruction_of}
use Rattle.jsonpath_select.specs.declared.machine.instruction.Instruction.{Instruction}
use Rattle.jsonpath_select.proofs.machine.ScanLemmas.{scan_whole}

-- behind the first instruction stand those of the steps, and what the path selects is where they lead from the root
abbrev pub BeginsAtRoot : List ℕ → Document → Path → List Instruction → Type 0
BeginsAtRoot text doc p is = (ss : PathSteps) × CodesSteps (take (length is - 1) (drop 1 is)) ss × (follow text doc ss ([] ∷ []) ≡ sel text doc p) × (1 ≤ length is)

pub begins : (text : List ℕ) (doc : Document) (p : Path) (is : List Instruction) → CodesPath is p → BeginsAtRoot text doc p is
begins text doc (path true ss) [] h = cc
begins text doc (path true ss) (i ∷ is) h = let later : CodesSteps is ss = cc in (ss, subst (λ (js : List Instruction). CodesSteps js ss) (sym (take_rest (i ∷ is) 1)) later, refl, omega arith)
begins text doc (path false ss) is h = let never : false ≡ true = h.0.0 in cc

pub list_codes : (text : List ℕ) (p : Path) (tokens : List ParseToken) (held found : List Instruction) → IsListOf text p tokens → held ≡ found → map instruction_of found ≡ (scan tokens).code → CodesPath held p
list_codes text p tokens held found h same is =
    (h.path, ap (λ (js : List Instruction). map instruction_of js) same ∙ is ∙ ap (λ (ts : List ParseToken). (scan ts).code) (sym h.list) ∙ scan_whole p h.path)
