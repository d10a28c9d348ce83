-- Instructions that lead what is on top of the operands, and those by which each location is decided once.
use Rattle.std.proofs.Common.{◌≡◌, ℕ, Bool, List, [], ◌∷◌, ◌++◌, Some, refl, sym, ◌∙◌, subst}
use Rattle.jsonpath_nodes.specs.document.Document.{Document}
use Rattle.jsonpath_nodes.specs.place.Location.{Location}
use Rattle.jsonpath_nodes.specs.place.Mark.{MarksStandAt}
use Rattle.jsonpath_nodes.specs.place.Order.{once_in_order}
use Rattle.jsonpath_select.specs.plan.Code.{Instruction, put_back}
use Rattle.jsonpath_select.specs.plan.Machine.{State, of_path, places, one, inside, on_operands, top_led, put_aside, kept_among}
use Rattle.jsonpath_select.specs.plan.Machine as machine
use Rattle.jsonpath_select.specs.plan.Shown.{Shows}
use Rattle.jsonpath_select.specs.plan.Stack.{found_on, CanExecute, CanLeadTop, EndsInMarks, EndsInOne, Executes, LeadsTop, ShowsFound, ShowsOperands, ShowsFrames, ShowsState, ShowsStacks}
use Rattle.jsonpath_select.specs.plan.Standing.{for_all}
use Rattle.jsonpath_select.specs.declared.machine.stacks.Stacks.{Stacks}
use Rattle.jsonpath_select.specs.declared.tagged.marks.TaggedMarks.{TaggedMarks}
use Rattle.jsonpath_select.specs.declared.tagged.marks.Found.{Found}
use Rattle.jsonpath_select.specs.declared.tagged.operand.Operand.{Operand}
use Rattle.jsonpath_select.proofs.machine.StepLemmas.{mapped, of_path_end, push_operand, top_frame, top_operand}

-- the instruction leads what is on top as f does
abbrev pub IsLead : List ℕ → Document → Instruction → (List Location → List Location) → Type 0
IsLead text doc i f = ((cand : machine.Found) (os : List machine.Operand) → on_operands text doc i cand os ≡ top_led f cand os) × ((s : State) → one text doc i s ≡ inside text doc i s.frames s.operands)

abbrev Led : (List Location → List Location) → List machine.Found → List machine.Operand → State → Type 0
Led f frames os t = (cand : machine.Found) × (fs : List machine.Found) × (more : List machine.Operand) × (frames ≡ cand ∷ fs) × (top_led f cand os ≡ Some more) × (record { frames = cand ∷ fs; operands = more } ≡ t)

module _ (text : List ℕ) (doc : Document) (i : Instruction) (f : List Location → List Location) (lead : IsLead text doc i f) where
  led_inside : (frames : List machine.Found) (os : List machine.Operand) (t : State) → inside text doc i frames os ≡ Some t → Led f frames os t
  led_inside [] os t e = cc
  led_inside (cand ∷ fs) os t e =
      let m = mapped (λ more. let s : State = record { frames = cand ∷ fs; operands = more } in s) (on_operands text doc i cand os) t e in
      (cand, fs, m.0, refl, sym (lead.0 cand os) ∙ m.1, m.2)

  pub led_one : (s t : State) → one text doc i s ≡ Some t → Led f s.frames s.operands t
  led_one s t e = led_inside s.frames s.operands t (sym (lead.1 s) ∙ e)

module _ {M : Type 0} (located : Bool) (stand_of : M → Location) (content_of : M → Document) where
  pub can_lead : (text : List ℕ) (i : Instruction) (f : Document → List Location → List Location) (stacks : Stacks M) → ((doc : Document) → IsLead text doc i (f doc)) → CanExecute located stand_of content_of text i stacks → CanLeadTop located stand_of content_of text stacks
  can_lead text i f stacks lead h =
      let m = led_one text h.0 i (f h.0) (lead h.0) h.1 h.2 h.4 in
      (h.0, f h.0, m.0, m.1, h.1.operands, m.2, (subst (λ (fs : List machine.Found). ShowsFrames located stand_of content_of h.0 fs stacks.frames.items) m.3 h.3.0, h.3.1), m.4)

  pub leads : (text : List ℕ) (doc : Document) (i : Instruction) (f : List Location → List Location) (stacks stacks' : Stacks M) → IsLead text doc i f → LeadsTop located stand_of content_of text doc f stacks stacks' → Executes located stand_of content_of text doc i stacks stacks'
  leads text doc i f stacks stacks' lead led = λ s t shows e.
      let m = led_one text doc i f lead s t e in
      subst (λ (u : State). ShowsStacks located stand_of content_of text doc u stacks') m.5
      (led m.0 m.1 s.operands m.2 (subst (λ (fs : List machine.Found). ShowsFrames located stand_of content_of doc fs stacks.frames.items) m.3 shows.0, shows.1) m.4)

  -- ---- candidates put aside

  pub aside_frames : (doc : Document) (fs : List machine.Found) (os : List machine.Operand) (t : State) (frames : List (Found M)) → ShowsFrames located stand_of content_of doc fs frames → put_aside fs os ≡ Some t → EndsInOne frames
  aside_frames doc [] os t frames h e = cc
  aside_frames doc (cand ∷ fs) os t frames h e = (h.0, h.1, h.2)

  pub aside_done : (text : List ℕ) (doc : Document) (fs : List machine.Found) (os : List machine.Operand) (t : State) (frames below frames' : List (Found M)) (frame ones : Found M) (old new : List (Operand M))
      → ShowsFrames located stand_of content_of doc fs frames → ShowsOperands located stand_of content_of text doc os old → put_aside fs os ≡ Some t → frames ≡ below ++ frame ∷ []
      → ((ls : List Location) → MarksStandAt located stand_of content_of doc ls frame.pairs.marks.items → ShowsFound located stand_of content_of doc (for_all (once_in_order ls)) ones)
      → frames' ≡ below ++ ones ∷ [] → new ≡ old ++ found_on frame ∷ [] → ShowsState located stand_of content_of text doc t frames' new
  aside_done text doc [] os t frames below frames' frame ones old new hf ho e is decides stacked more = cc
  aside_done text doc (cand ∷ fs) os t frames below frames' frame ones old new hf ho e is decides stacked more =
      let place = top_frame located stand_of content_of doc cand fs frames below frame hf is in
      let after : record { frames = for_all (once_in_order (places cand.pairs)) ∷ fs; operands = of_path cand ∷ os } ≡ t = cc in
      subst (λ (s : State). ShowsState located stand_of content_of text doc s frames' new) after
      ((below, ones, stacked, decides (places cand.pairs) place.0.1.1, place.1), push_operand located stand_of content_of text doc (of_path cand) os old new (found_on frame) ho place.0 more)

  -- ---- those put aside, put back

  module _ (text : List ℕ) (doc : Document) where
    pub back_first : (fs : List machine.Found) (os : List machine.Operand) (t : State) (old : List (Operand M)) → ShowsOperands located stand_of content_of text doc os old → inside text doc put_back fs os ≡ Some t → EndsInMarks old
    back_first (cand ∷ fs) (of_path passed ∷ of_path g ∷ os) t old h e = of_path_end located stand_of content_of text doc passed (of_path g ∷ os) old h.0 h.1 h.2 h.3
    back_first _ _ t old h e = cc

    pub back_second : (fs : List machine.Found) (os : List machine.Operand) (t : State) (old mid : List (Operand M)) (n : Found M) → ShowsOperands located stand_of content_of text doc os old → inside text doc put_back fs os ≡ Some t → old ≡ mid ++ found_on n ∷ [] → EndsInMarks mid
    back_second (cand ∷ fs) (of_path passed ∷ of_path g ∷ os) t old mid n h e is =
        let below = (top_operand located stand_of content_of text doc (of_path passed) (of_path g ∷ os) old mid (found_on n) h is).1 in
        of_path_end located stand_of content_of text doc g os mid below.0 below.1 below.2 below.3
    back_second _ _ t old mid n h e is = cc

    pub back_done : (fs : List machine.Found) (os : List machine.Operand) (t : State) (frames : List (Found M)) (passed n : Found M) (found : TaggedMarks M) (old mid low new : List (Operand M))
        → ShowsFrames located stand_of content_of doc fs frames → ShowsOperands located stand_of content_of text doc os old → inside text doc put_back fs os ≡ Some t → old ≡ mid ++ found_on passed ∷ [] → mid ≡ low ++ found_on n ∷ []
        → ((ms : List Location) (ps : List machine.Tagged) → MarksStandAt located stand_of content_of doc ms passed.pairs.marks.items → Shows located stand_of content_of doc ps n.pairs → Shows located stand_of content_of doc (kept_among ms ps) found)
        → new ≡ low ++ found_on (record n { pairs = found }) ∷ [] → ShowsState located stand_of content_of text doc t frames new
    back_done (cand ∷ fs) (of_path passing ∷ of_path g ∷ os) t frames passed n found old mid low new hf ho e first second keeps more =
        let one = top_operand located stand_of content_of text doc (of_path passing) (of_path g ∷ os) old mid (found_on passed) ho first in
        let two = top_operand located stand_of content_of text doc (of_path g) os mid low (found_on n) one.1 second in
        let to : machine.Found = record g { pairs = kept_among (places passing.pairs) g.pairs } in
        let after : record { frames = cand ∷ fs; operands = of_path to ∷ os } ≡ t = cc in
        subst (λ (s : State). ShowsState located stand_of content_of text doc s frames new) after
        (hf, push_operand located stand_of content_of text doc (of_path to) os low new (found_on (record n { pairs = found })) two.1 (two.0.0, keeps (places passing.pairs) g.pairs one.0.1.1 two.0.1) more)
    back_done _ _ t frames passed n found old mid low new hf ho e first second keeps more = cc
