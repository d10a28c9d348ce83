-- Plain steps, one after the other.
use Rattle.std.proofs.Common.{◌≡◌, ℕ, suc, ◌+◌, ◌<◌, Bool, List, [], ◌∷◌, ◌++◌, length, take, drop, get_or, Bor, refl, sym, ap, ◌∙◌, drop-cons}
use Rattle.std.proofs.lemmas.List.{take_more, take-append-drop}
use Rattle.jsonpath_nodes.specs.document.Document.{Document}
use Rattle.jsonpath_paths.specs.declared.token.tokens.ParseToken.{ParseToken}
use Rattle.jsonpath_nodes.specs.place.Location.{Location}
use Rattle.jsonpath_select.specs.plan.Machine.{stepped}
use Rattle.jsonpath_select.specs.plan.Standing.{along}
use Rattle.jsonpath_select.specs.declared.machine.instruction.Instruction.{Instruction}
use Rattle.jsonpath_select.specs.declared.machine.instruction.Instruction.TheVariants.{Step}

-- ---- steps one after the other

along_joined : (text : List ℕ) (doc : Document) (is js : List Instruction) (ls : List Location) → along text doc (is ++ js) ls ≡ along text doc js (along text doc is ls)
along_joined text doc [] js ls = refl
along_joined text doc (Step leaves token ∷ is) js ls = along_joined text doc is js (stepped text doc leaves token.now ls)
along_joined text doc (_ ∷ is) js ls = along_joined text doc is js ls

-- one more of the steps
taken : (steps : List Instruction) (k : ℕ) (i : Instruction) (leaves : Bool) (token : Bor ParseToken) → k < length steps → i ≡ get_or steps k i → i ≡ Step leaves token → take (k + 1) steps ≡ take k steps ++ Step leaves token ∷ []
taken steps k i leaves token below same plain = take_more steps k i below ∙ ap (λ (j : Instruction). take k steps ++ j ∷ []) (sym same ∙ plain)

pub along_next : (text : List ℕ) (doc : Document) (steps : List Instruction) (k : ℕ) (i : Instruction) (leaves : Bool) (token : Bor ParseToken) (ls : List Location) → k < length steps → i ≡ get_or steps k i → i ≡ Step leaves token
    → along text doc (take (k + 1) steps) ls ≡ stepped text doc leaves token.now (along text doc (take k steps) ls)
along_next text doc steps k i leaves token ls below same plain =
    ap (λ (is : List Instruction). along text doc is ls) (taken steps k i leaves token below same plain) ∙ along_joined text doc (take k steps) (Step leaves token ∷ []) ls

-- the steps up to a filter
pub up_to : (steps : List Instruction) (k : ℕ) (i j : Instruction) → k < length steps → i ≡ get_or steps k i → i ≡ j → steps ≡ take k steps ++ j ∷ drop (suc k) steps
up_to steps k i j below same is =
    sym (take-append-drop k steps) ∙ ap (λ (more : List Instruction). take k steps ++ more) (drop-cons steps k i below ∙ ap (λ (x : Instruction). x ∷ drop (suc k) steps) (sym same ∙ is))
