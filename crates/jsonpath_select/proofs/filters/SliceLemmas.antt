-- Marks that are copied, slices of marks, and the condition that decides them.
use Rattle.std.proofs.Common.{◌≡◌, ℕ, ◌+◌, ◌<◌, Bool, Bor, Option, Some, None, refl, subst, List, [], ◌∷◌, ◌++◌, map, length, take, drop, get_or, sym, ap, ap₂, ◌∙◌}
use Rattle.std.proofs.lemmas.List.{map-append, take-map, drop-map, take_more}
use Rattle.jsonpath_nodes.specs.document.Document.{Document}
use Rattle.jsonpath_paths.specs.tree.Tree.{Condition}
use Rattle.jsonpath_nodes.specs.place.Location.{Location}
use Rattle.jsonpath_nodes.specs.place.Mark.{shown, look_kept, MarksStandAt}
use Rattle.jsonpath_select.specs.plan.First.{CodesOptionalCondition}
use Rattle.jsonpath_select.specs.plan.NextFilter.{CodesCondition}
use Rattle.jsonpath_select.specs.declared.machine.instruction.Instruction.{Instruction}

pub one_copied : {A B : Type 0} (f : A → B) (marks found found' : List A) (i : ℕ) (mark copy : A) → i < length marks → mark ≡ get_or marks i mark → found' ≡ found ++ copy ∷ [] → f copy ≡ f mark
    → map f found ≡ map f (take i marks) → map f found' ≡ map f (take (i + 1) marks)
one_copied f marks found found' i mark copy below is more same held =
    ap (map f) more ∙ map-append f found (copy ∷ []) ∙ ap₂ (λ xs x. xs ++ x ∷ []) held same ∙ sym (map-append f (take i marks) (mark ∷ []))
    ∙ ap (map f) (ap (λ m. take i marks ++ m ∷ []) is ∙ sym (take_more marks i mark below))

pub slice_stands : {M : Type 0} (located : Bool) (stand : M → Location) (content : M → Document) (doc : Document) (cs : List Location) (marks : List M) (k n : ℕ) → MarksStandAt located stand content doc cs marks
    → MarksStandAt located stand content doc (take n (drop k cs)) (take n (drop k marks))
slice_stands located stand content doc cs marks k n h =
    sym (take-map (shown stand content) n (drop k marks)) ∙ ap (take n) (sym (drop-map (shown stand content) k marks) ∙ ap (drop k) h ∙ drop-map (look_kept located doc) k cs)
    ∙ take-map (look_kept located doc) n (drop k cs)

-- ---- the condition of a filter, where there is one

pub some_condition : (o : Option (Bor (List Instruction))) (is : Bor (List Instruction)) (f : Option Condition) → o ≡ Some is → CodesOptionalCondition o f → (h : Condition) × (f ≡ Some h) × CodesCondition is.now h
some_condition o is (Some h) e decides = (h, refl, subst (λ (p : Option (Bor (List Instruction))). CodesOptionalCondition p (Some h)) e decides)
some_condition o is None e decides = absurd (subst (λ (p : Option (Bor (List Instruction))). CodesOptionalCondition p None) e decides)
