-- The loop over the instructions, and its answer.
use Rattle.std.proofs.Common.{◌≡◌, ℕ, suc, ◌+◌, ◌<◌, Bool, false, List, [], ◌∷◌, ◌++◌, map, length, drop, get_or, Some, refl, sym, ap, ◌∙◌, arith, drop-cons, option_and_then}
use Rattle.std.proofs.lemmas.List.{map-append, drop-drop}
use Rattle.jsonpath_nodes.specs.document.Document.{Document}
use Rattle.jsonpath_paths.specs.declared.text.str_reader.StrRange.{StrRange}
use Rattle.jsonpath_paths.specs.declared.token.tokens.ParseToken.{ParseToken}
use Rattle.jsonpath_paths.specs.declared.token.tokens.ParseToken.TheVariants.{Key}
use Rattle.jsonpath_nodes.specs.place.Location.{Location}
use Rattle.jsonpath_select.specs.plan.Code as code
use Rattle.jsonpath_select.specs.plan.Machine as machine
use Rattle.jsonpath_select.specs.plan.Machine.{State, of_path, one, run_all}
use Rattle.jsonpath_select.specs.plan.Stack.{found_on, EndsInMarks, ShowsFound, ShowsOperand, ShowsOperands, IsStepByName}
use Rattle.jsonpath_select.specs.plan.Ordered.{instruction_of}
use Rattle.jsonpath_select.specs.declared.tagged.marks.Found.{Found}
use Rattle.jsonpath_select.specs.declared.tagged.operand.Operand.{Operand}
use Rattle.jsonpath_select.specs.declared.tagged.operand.Operand.TheVariants as operand
use Rattle.jsonpath_select.specs.declared.machine.instruction.Instruction.{Instruction}
use Rattle.jsonpath_select.specs.declared.machine.instruction.Instruction.TheVariants.{Start}
use Rattle.jsonpath_select.proofs.machine.StepLemmas.{chained, top_operand}

pub one_taken : (all : List Instruction) (at : ℕ) (i : Instruction) → i ≡ get_or all at i → at < length all → drop at all ≡ (i ∷ []) ++ drop (at + 1) all
one_taken all at i same below =
    let next : suc at ≡ at + 1 = omega arith in
    drop-cons all at i below ∙ ap (λ (j : Instruction). j ∷ drop (suc at) all) (sym same) ∙ ap (λ m. i ∷ drop m all) next

pub two_taken : (all : List Instruction) (at : ℕ) (i j : Instruction) (rest : List Instruction) → drop at all ≡ i ∷ j ∷ rest → drop at all ≡ (i ∷ j ∷ []) ++ drop (at + 2) all
two_taken all at i j rest is =
    is ∙ ap (λ (is : List Instruction). i ∷ j ∷ is) (sym (ap (drop 2) is) ∙ drop-drop 2 at all)

module _ (text : List ℕ) (doc : Document) where
  pub run_on : (is js : List code.Instruction) (s : State) → run_all text doc (is ++ js) s ≡ option_and_then (run_all text doc js) (run_all text doc is s)
  run_on [] js s = refl
  run_on (i ∷ is) js s = grind (arith, run_on is js)

  split : (left taken rest : List Instruction) (s : State) → left ≡ taken ++ rest
      → run_all text doc (map instruction_of left) s ≡ option_and_then (run_all text doc (map instruction_of rest)) (run_all text doc (map instruction_of taken) s)
  split left taken rest s is =
      ap (λ (js : List Instruction). run_all text doc (map instruction_of js) s) is ∙ ap (λ (js : List code.Instruction). run_all text doc js s) (map-append instruction_of taken rest)
      ∙ run_on (map instruction_of taken) (map instruction_of rest) s

  -- the state after the first instructions, where all have an answer
  pub between : (left taken rest : List Instruction) (s u : State) → left ≡ taken ++ rest → run_all text doc (map instruction_of left) s ≡ Some u
      → (t : State) × (run_all text doc (map instruction_of taken) s ≡ Some t) × (run_all text doc (map instruction_of rest) t ≡ Some u)
  between left taken rest s u is e =
      chained (run_all text doc (map instruction_of rest)) (run_all text doc (map instruction_of taken) s) u (sym (split left taken rest s is) ∙ e)

  -- one instruction alone
  pub alone : (i : code.Instruction) (s t : State) → run_all text doc (i ∷ []) s ≡ Some t → one text doc i s ≡ Some t
  alone i s t e = let x = chained (λ (u : State). Some u) (one text doc i s) t e in x.1 ∙ x.2

  -- the first, where all have an answer
  pub first_there : (left : List Instruction) (first : Instruction) (rest : List Instruction) (s u : State) → left ≡ first ∷ rest → run_all text doc (map instruction_of left) s ≡ Some u
      → (t : State) × (one text doc (instruction_of first) s ≡ Some t)
  first_there left first rest s u is e =
      let b = between left (first ∷ []) rest s u is e in
      (b.0, alone (instruction_of first) s b.0 b.1)

  -- a path's beginning at the candidates with a name
  pub by_name : (second : Instruction) (span : StrRange) (s u : State) → IsStepByName second span → run_all text doc (map instruction_of (Start false ∷ second ∷ [])) s ≡ Some u
      → (t : State) × (one text doc (code.start false) s ≡ Some t) × (one text doc (code.plain_step false (Key span)) t ≡ Some u)
  by_name second span s u is e =
      let b = between (Start false ∷ second ∷ []) (Start false ∷ []) (second ∷ []) s u refl e in (
        b.0,
        alone (code.start false) s b.0 b.1,
        ap (λ (token : ParseToken). one text doc (code.plain_step false token) b.0) (sym is.2) ∙ ap (λ (i : Instruction). one text doc (instruction_of i) b.0) (sym is.1) ∙ alone (instruction_of second) b.0 u b.2,
      )

-- ---- for marks of either kind: whether they keep their locations, where they stand, what they hold

module _ {M : Type 0} (located : Bool) (stand_of : M → Location) (content_of : M → Document) where
  pub found_there : (text : List ℕ) (doc : Document) (g : machine.Found) (operands : List (Operand M)) → ShowsOperands located stand_of content_of text doc (of_path g ∷ []) operands → EndsInMarks operands
  found_there text doc g operands h = by h.1 h.2 h.3
    where
      by : (top : Operand M) → operands ≡ h.0 ++ top ∷ [] → ShowsOperand located stand_of content_of text doc (of_path g) top → EndsInMarks operands
      by (operand.Marks n) e s = (h.0, n, e)
      by (operand.Tags v) e s = absurd s
      by (operand.Literal token) e s = absurd s

  pub found_is : (text : List ℕ) (doc : Document) (g : machine.Found) (operands below : List (Operand M)) (n : Found M) → ShowsOperands located stand_of content_of text doc (of_path g ∷ []) operands → operands ≡ below ++ found_on n ∷ [] → ShowsFound located stand_of content_of doc g n
  found_is text doc g operands below n h e = (top_operand located stand_of content_of text doc (of_path g) [] operands below (found_on n) h e).0
