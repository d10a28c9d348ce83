-- How the code holds the machine's state: the top of each stack is the last of a vector.
use Rattle.std.specs.Prelude.{◌≡◌, ◌<◌, ℕ, Bool, false, List, [], ◌∷◌, ◌++◌, map, drop, Some}
use Rattle.jsonpath_nodes.specs.document.Document.{Document}
use denote.Ref.{Bor}
use Rattle.jsonpath_paths.specs.declared.text.str_reader.StrRange.{StrRange}
use Rattle.jsonpath_paths.specs.declared.token.tokens.ParseToken.{ParseToken}
use Rattle.jsonpath_paths.specs.declared.token.tokens.ParseToken.TheVariants.{Key}
use Rattle.jsonpath_nodes.specs.place.Location.{Location}
use Rattle.jsonpath_select.specs.plan.Code as code
use Rattle.jsonpath_select.specs.plan.Machine.{State, one, run_all, top_led}
use Rattle.jsonpath_select.specs.plan.Machine as machine
use Rattle.jsonpath_select.specs.Parts.{literals, quoted_text}
use Rattle.jsonpath_select.specs.plan.Ordered.{instruction_of}
use Rattle.jsonpath_select.specs.plan.Shown.{Shows}
use Rattle.jsonpath_select.specs.declared.tagged.marks.Found.{Found}
use Rattle.jsonpath_select.specs.declared.tagged.operand.Operand.{Operand}
use Rattle.jsonpath_select.specs.declared.tagged.operand.Operand.TheVariants as operand
use Rattle.jsonpath_select.specs.declared.machine.stacks.Stacks.{Stacks}
use Rattle.jsonpath_select.specs.declared.machine.instruction.Instruction.{Instruction}
use Rattle.jsonpath_select.specs.declared.machine.instruction.Instruction.TheVariants.{Start, Step}

abbrev pub found_on : {M : Type 0} → Found M → Operand M
found_on f = operand.Marks f

abbrev pub EndsInMarks : {M : Type 0} → List (Operand M) → Type 0
EndsInMarks {M} xs = (below : List (Operand M)) × (f : Found M) × (xs ≡ below ++ found_on f ∷ [])

abbrev pub EndsInOne : {X : Type 0} → List X → Type 0
EndsInOne {X} xs = (below : List X) × (x : X) × (xs ≡ below ++ x ∷ [])

-- what a condition leaves, and what a term leaves
abbrev pub IsOfCondition : {M : Type 0} → Operand M → Type 0
IsOfCondition (operand.Marks f) = Unit {0}
IsOfCondition (operand.Tags ts) = Unit {0}
IsOfCondition (operand.Literal token) = ⊥

abbrev pub IsOfTerm : {M : Type 0} → Operand M → Type 0
IsOfTerm (operand.Marks f) = Unit {0}
IsOfTerm (operand.Tags ts) = ⊥
IsOfTerm (operand.Literal token) = Unit {0}

-- the text of a literal that is quoted
abbrev pub quoted_text_of_operand : {M : Type 0} → List ℕ → Operand M → List ℕ
quoted_text_of_operand text (operand.Marks f) = []
quoted_text_of_operand text (operand.Tags ts) = []
quoted_text_of_operand text (operand.Literal token) = quoted_text text token.now

-- shared or not as the machine has it, with the same pairs
abbrev pub ShowsFound : {M : Type 0} → Bool → (M → Location) → (M → Document) → Document → machine.Found → Found M → Type 0
ShowsFound b stand content doc g f = (f.is_shared ≡ g.shared) × Shows b stand content doc g.pairs f.pairs

abbrev pub ShowsOperand : {M : Type 0} → Bool → (M → Location) → (M → Document) → List ℕ → Document → machine.Operand → Operand M → Type 0
ShowsOperand b stand content text doc (machine.of_path g) (operand.Marks f) = ShowsFound b stand content doc g f
ShowsOperand b stand content text doc (machine.tags ts) (operand.Tags v) = v.items ≡ ts
ShowsOperand b stand content text doc (machine.literal vs) (operand.Literal token) = literals text token.now ≡ vs
ShowsOperand b stand content text doc _ _ = ⊥

abbrev pub ShowsOperands : {M : Type 0} → Bool → (M → Location) → (M → Document) → List ℕ → Document → List machine.Operand → List (Operand M) → Type 0
ShowsOperands b stand content text doc [] xs = xs ≡ []
ShowsOperands {M} b stand content text doc (o ∷ os) xs = (below : List (Operand M)) × (top : Operand M) × (xs ≡ below ++ top ∷ []) × ShowsOperand b stand content text doc o top × ShowsOperands b stand content text doc os below

abbrev pub ShowsFrames : {M : Type 0} → Bool → (M → Location) → (M → Document) → Document → List machine.Found → List (Found M) → Type 0
ShowsFrames b stand content doc [] xs = xs ≡ []
ShowsFrames {M} b stand content doc (g ∷ fs) xs = (below : List (Found M)) × (top : Found M) × (xs ≡ below ++ top ∷ []) × ShowsFound b stand content doc g top × ShowsFrames b stand content doc fs below

abbrev pub ShowsState : {M : Type 0} → Bool → (M → Location) → (M → Document) → List ℕ → Document → State → List (Found M) → List (Operand M) → Type 0
ShowsState b stand content text doc s frames operands = ShowsFrames b stand content doc s.frames frames × ShowsOperands b stand content text doc s.operands operands

-- ---- steps

-- the state as the two stacks hold it
abbrev pub ShowsStacks : {M : Type 0} → Bool → (M → Location) → (M → Document) → List ℕ → Document → State → Stacks M → Type 0
ShowsStacks b stand content text doc s stacks = ShowsState b stand content text doc s stacks.frames.items stacks.operands.items

-- there is an answer to the instruction
abbrev pub CanExecute : {M : Type 0} → Bool → (M → Location) → (M → Document) → List ℕ → code.Instruction → Stacks M → Type 0
CanExecute b stand content text i stacks = (doc : Document) × (s : State) × (t : State) × ShowsStacks b stand content text doc s stacks × (one text doc i s ≡ Some t)

-- what is shown afterwards is the answer to the instruction
abbrev pub Executes : {M : Type 0} → Bool → (M → Location) → (M → Document) → List ℕ → Document → code.Instruction → Stacks M → Stacks M → Type 0
Executes b stand content text doc i stacks stacks' = (s t : State) → ShowsStacks b stand content text doc s stacks → one text doc i s ≡ Some t → ShowsStacks b stand content text doc t stacks'

-- f can lead the locations on top
abbrev pub CanLeadTop : {M : Type 0} → Bool → (M → Location) → (M → Document) → List ℕ → Stacks M → Type 0
CanLeadTop b stand content text stacks = (doc : Document) × (f : List Location → List Location) × (cand : machine.Found) × (fs : List machine.Found) × (os more : List machine.Operand)
    × ShowsStacks b stand content text doc (record { frames = cand ∷ fs; operands = os }) stacks × (top_led f cand os ≡ Some more)

-- what is shown afterwards is where f leads the locations on top
abbrev pub LeadsTop : {M : Type 0} → Bool → (M → Location) → (M → Document) → List ℕ → Document → (List Location → List Location) → Stacks M → Stacks M → Type 0
LeadsTop b stand content text doc f stacks stacks' = (cand : machine.Found) (fs : List machine.Found) (os more : List machine.Operand)
    → ShowsStacks b stand content text doc (record { frames = cand ∷ fs; operands = os }) stacks → top_led f cand os ≡ Some more → ShowsStacks b stand content text doc (record { frames = cand ∷ fs; operands = more }) stacks'

-- the instructions that are left lead from what is shown to some state
abbrev pub CanGoOn : {M : Type 0} → Bool → (M → Location) → (M → Document) → List ℕ → Document → List Instruction → Stacks M → Type 0
CanGoOn b stand content text doc left stacks = (s : State) × (t : State) × ShowsStacks b stand content text doc s stacks × (run_all text doc (map instruction_of left) s ≡ Some t)

-- the instructions from one place up to another are taken, and what is shown afterwards is their answer
abbrev pub Advances : {M : Type 0} → Bool → (M → Location) → (M → Document) → List ℕ → Document → List Instruction → ℕ → Stacks M → ℕ → Stacks M → Type 0
Advances b stand content text doc all at stacks next stacks' =
    (at < next) × (taken : List Instruction) × (drop at all ≡ taken ++ drop next all)
    × ((s t : State) → ShowsStacks b stand content text doc s stacks → run_all text doc (map instruction_of taken) s ≡ Some t → ShowsStacks b stand content text doc t stacks')

-- the instruction is a step by the name at this span
abbrev pub IsStepByName : Instruction → StrRange → Type 0
IsStepByName i span = (token : Bor ParseToken) × (i ≡ Step false token) × (token.now ≡ Key span)

-- a path begins at the candidates with the name at this span
abbrev pub BeginsWithName : List Instruction → StrRange → Type 0
BeginsWithName left span = (second : Instruction) × (rest : List Instruction) × (left ≡ Start false ∷ second ∷ rest) × IsStepByName second span

-- a path's beginning at the candidates and its step by the name at this span are answered
abbrev pub Reaches : {M : Type 0} → Bool → (M → Location) → (M → Document) → List ℕ → Document → StrRange → Stacks M → Stacks M → Type 0
Reaches b stand content text doc span stacks stacks' =
    (s t u : State) → ShowsStacks b stand content text doc s stacks → one text doc (code.start false) s ≡ Some t → one text doc (code.plain_step false (Key span)) t ≡ Some u → ShowsStacks b stand content text doc u stacks'

-- what is shown afterwards is the answer to all instructions
abbrev pub ExecutesAll : {M : Type 0} → Bool → (M → Location) → (M → Document) → List ℕ → Document → List Instruction → Stacks M → Stacks M → Type 0
ExecutesAll b stand content text doc all stacks stacks' =
    (s t : State) → ShowsStacks b stand content text doc s stacks → run_all text doc (map instruction_of all) s ≡ Some t → ShowsStacks b stand content text doc t stacks'
