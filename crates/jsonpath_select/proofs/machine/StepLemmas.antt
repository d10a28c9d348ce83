-- The code's steps beside the machine's.
use Rattle.std.proofs.Common.{◌≡◌, ℕ, ◌+◌, ◌<◌, ◌&&◌, Bool, true, false, List, [], ◌∷◌, ◌++◌, map, length, get_or, cond, Option, Some, None, refl, sym, ap, ap₂, ◌∙◌, subst, length-append, option_map, option_and_then}
use Rattle.std.proofs.lemmas.Bool.{and_parts}
use Rattle.std.proofs.lemmas.List.{map-append, same_from_push}
use Rattle.std.proofs.lemmas.Option.{cond_some}
use Rattle.jsonpath_nodes.specs.document.Document.{Document}
use Rattle.jsonpath_paths.specs.declared.token.tokens.FilterToken.{FilterToken}
use Rattle.jsonpath_paths.specs.declared.token.tokens.ParseToken.{ParseToken}
use Rattle.jsonpath_nodes.specs.place.Location.{Location}
use Rattle.jsonpath_nodes.specs.step.Steps.{Plain, named, step}
use Rattle.jsonpath_select.specs.Parts.{plain_of}
use Rattle.jsonpath_select.specs.plan.Code.{Instruction, start, plain_step, compares, joins}
use Rattle.jsonpath_select.specs.plan.Machine.{Tagged, places, spread, itself, start_of_path, list_count_for_candidates, State, of_path, tags, literal, stepped, each_tag, entered, kept_by_number, compared, joined_tags, as_tags, is_side, one, inside, opened, filter_closed, top_led}
use Rattle.jsonpath_select.specs.plan.Machine as machine
use Rattle.jsonpath_select.specs.plan.Shown.{Shows, LeadsPairs}
use Rattle.jsonpath_select.specs.plan.Stack.{found_on, EndsInMarks, EndsInOne, IsOfCondition, IsOfTerm, ShowsFound, ShowsOperand, ShowsOperands, ShowsFrames, ShowsState}
use Rattle.jsonpath_select.specs.declared.tagged.marks.TaggedMarks.{TaggedMarks}
use Rattle.jsonpath_select.specs.declared.tagged.marks.Found.{Found}
use Rattle.jsonpath_select.specs.declared.tagged.operand.Operand.{Operand}
use Rattle.jsonpath_select.specs.declared.tagged.operand.Operand.TheVariants as operand
use Rattle.jsonpath_nodes.specs.place.Mark.{shown, MarksStandAt}
use Rattle.jsonpath_select.proofs.tagged.GroupLemmas.{Spread, spread_next}
use Rattle.jsonpath_select.proofs.walk.MarkLemmas.{length-marks}
use Rattle.jsonpath_select.proofs.tagged.TagLemmas.{each_tag-spread}

-- what an answer is made of
pub mapped : {A B : Type 0} (f : A → B) (o : Option A) (y : B) → option_map f o ≡ Some y → (x : A) × (o ≡ Some x) × (f x ≡ y)
mapped f None y e = cc
mapped f (Some x) y e = (x, refl, cc)

pub chained : {A B : Type 0} (f : A → Option B) (o : Option A) (y : B) → option_and_then f o ≡ Some y → (x : A) × (o ≡ Some x) × (f x ≡ Some y)
chained f None y e = cc
chained f (Some x) y e = (x, refl, e)

-- ---- for marks of either kind: whether they keep their locations, where they stand, what they hold

module _ {M : Type 0} (located : Bool) (stand_of : M → Location) (content_of : M → Document) where
  -- ---- where a path begins

  pub copied_next : (doc : Document) (ps : List Tagged) (i : ℕ) (marks : List M) (out : List ℕ) (held : List M) (s copy : M) {out' : List ℕ} {held' : List M} → out' ≡ out ++ i ∷ [] → held' ≡ held ++ copy ∷ []
      → s ≡ get_or marks i s → i < length marks → MarksStandAt located stand_of content_of doc (places ps) marks
      → shown stand_of content_of copy ≡ shown stand_of content_of s
      → Spread located stand_of content_of doc itself (places ps) i out held → Spread located stand_of content_of doc itself (places ps) (i + 1) out' held'
  copied_next doc ps i marks out held s copy {out'} {held'} e g is below stand same begun =
      spread_next located stand_of content_of doc itself (places ps) i 1 marks s out out' held held' stand is below (ap length g ∙ length-append held (copy ∷ [])) e
      (λ l here. ap (map (shown stand_of content_of)) g ∙ map-append (shown stand_of content_of) held (copy ∷ []) ∙ ap (λ (x : Location × Option Document). map (shown stand_of content_of) held ++ x ∷ []) (same ∙ here)) begun

  -- ---- the top of a stack

  pub top_frame : (doc : Document) (cand : machine.Found) (fs : List machine.Found) (frames below : List (Found M)) (frame : Found M) → ShowsFrames located stand_of content_of doc (cand ∷ fs) frames → frames ≡ below ++ frame ∷ []
      → ShowsFound located stand_of content_of doc cand frame × ShowsFrames located stand_of content_of doc fs below
  top_frame doc cand fs frames below frame h e =
      let both = same_from_push h.0 below h.1 frame (sym h.2 ∙ e) in
      (subst (ShowsFound located stand_of content_of doc cand) both.1 h.3, subst (ShowsFrames located stand_of content_of doc fs) both.0 h.4)

  size : (doc : Document) (cand : machine.Found) (frame : Found M) → ShowsFound located stand_of content_of doc cand frame → length frame.pairs.marks.items ≡ length (places cand.pairs)
  size doc cand frame h = length-marks located stand_of content_of doc (places cand.pairs) frame.pairs.marks.items h.1.1

  -- how many candidates there are
  number : (doc : Document) (cand : machine.Found) (fs : List machine.Found) (frames below : List (Found M)) (frame : Found M) (count : ℕ) → ShowsFrames located stand_of content_of doc (cand ∷ fs) frames → frames ≡ below ++ frame ∷ []
      → count ≡ length frame.pairs.marks.items → count ≡ length (places cand.pairs)
  number doc cand fs frames below frame count h e many = many ∙ size doc cand frame (top_frame doc cand fs frames below frame h e).0

  module _ (text : List ℕ) (doc : Document) where
    pub top_operand : (o : machine.Operand) (os : List machine.Operand) (old below : List (Operand M)) (x : Operand M) → ShowsOperands located stand_of content_of text doc (o ∷ os) old → old ≡ below ++ x ∷ []
        → ShowsOperand located stand_of content_of text doc o x × ShowsOperands located stand_of content_of text doc os below
    top_operand o os old below x h e =
        let both = same_from_push h.0 below h.1 x (sym h.2 ∙ e) in
        (subst (ShowsOperand located stand_of content_of text doc o) both.1 h.3, subst (ShowsOperands located stand_of content_of text doc os) both.0 h.4)

    pub push_operand : (o : machine.Operand) (os : List machine.Operand) (old new : List (Operand M)) (top : Operand M) → ShowsOperands located stand_of content_of text doc os old → ShowsOperand located stand_of content_of text doc o top → new ≡ old ++ top ∷ [] → ShowsOperands located stand_of content_of text doc (o ∷ os) new
    push_operand o os old new top h s e = (old, top, e, s, h)

    one_there : (o : machine.Operand) (os : List machine.Operand) (old : List (Operand M)) → ShowsOperands located stand_of content_of text doc (o ∷ os) old → EndsInOne old
    one_there o os old h = (h.0, h.1, h.2)

    of_term : (o : machine.Operand) (x : Operand M) → is_side o ≡ true → ShowsOperand located stand_of content_of text doc o x → IsOfTerm x
    of_term (of_path g) (operand.Tags ts) e h = h
    of_term (tags ts) x e h = cc
    of_term (literal vs) (operand.Tags ts) e h = h
    of_term _ _ e h = tt

    of_condition : (k : ℕ) (o : machine.Operand) (ts : List ℕ) (x : Operand M) → as_tags k o ≡ Some ts → ShowsOperand located stand_of content_of text doc o x → IsOfCondition x
    of_condition k (of_path g) ts (operand.Literal token) e h = h
    of_condition k (tags us) ts (operand.Literal token) e h = h
    of_condition k (literal vs) ts x e h = cc
    of_condition k _ ts _ e h = tt

    -- ---- what a step asks for

    pub inside_frames : (i : Instruction) (fs : List machine.Found) (os : List machine.Operand) (t : State) (frames : List (Found M)) → ShowsFrames located stand_of content_of doc fs frames → inside text doc i fs os ≡ Some t → EndsInOne frames
    inside_frames i [] os t frames h e = cc
    inside_frames i (cand ∷ fs) os t frames h e = (h.0, h.1, h.2)

    pub of_path_end : (g : machine.Found) (os : List machine.Operand) (old below : List (Operand M)) (top : Operand M) → old ≡ below ++ top ∷ [] → ShowsOperand located stand_of content_of text doc (of_path g) top → EndsInMarks old
    of_path_end g os old below (operand.Marks n) e h = (below, n, e)
    of_path_end g os old below _ e h = absurd h

    pub lead_top_operands : (f : List Location → List Location) (cand : machine.Found) (os more : List machine.Operand) (old : List (Operand M)) → ShowsOperands located stand_of content_of text doc os old → top_led f cand os ≡ Some more → EndsInMarks old
    lead_top_operands f cand (of_path g ∷ os) more old h e = of_path_end g os old h.0 h.1 h.2 h.3
    lead_top_operands f cand _ more old h e = cc

    pub enter_frames : (leaves deep : Bool) (fs : List machine.Found) (os : List machine.Operand) (t : State) (frames : List (Found M)) → ShowsFrames located stand_of content_of doc fs frames → opened doc leaves deep fs os ≡ Some t → EndsInOne frames
    enter_frames leaves deep [] os t frames h e = cc
    enter_frames leaves deep (cand ∷ fs) os t frames h e = (h.0, h.1, h.2)

    pub enter_operands : (leaves deep : Bool) (fs : List machine.Found) (os : List machine.Operand) (t : State) (old : List (Operand M)) → ShowsOperands located stand_of content_of text doc os old → opened doc leaves deep fs os ≡ Some t → EndsInMarks old
    enter_operands leaves deep (cand ∷ fs) (of_path g ∷ os) t old h e = of_path_end g os old h.0 h.1 h.2 h.3
    enter_operands leaves deep _ _ t old h e = cc

    pub leave_frames : (fs : List machine.Found) (os : List machine.Operand) (t : State) (frames : List (Found M)) → ShowsFrames located stand_of content_of doc fs frames → filter_closed fs os ≡ Some t → EndsInOne frames
    leave_frames [] os t frames h e = cc
    leave_frames (cand ∷ fs) os t frames h e = (h.0, h.1, h.2)

    pub leave_operand : (fs : List machine.Found) (os : List machine.Operand) (t : State) (old : List (Operand M)) → ShowsOperands located stand_of content_of text doc os old → filter_closed fs os ≡ Some t → EndsInOne old
    leave_operand [] os t old h e = cc
    leave_operand (cand ∷ fs) [] t old h e = cc
    leave_operand (cand ∷ fs) (o ∷ os) t old h e = one_there o os old h

    pub leave_condition : (fs : List machine.Found) (os : List machine.Operand) (t : State) (old below : List (Operand M)) (x : Operand M) → ShowsOperands located stand_of content_of text doc os old → filter_closed fs os ≡ Some t → old ≡ below ++ x ∷ [] → IsOfCondition x
    leave_condition [] os t old below x h e is = cc
    leave_condition (cand ∷ fs) [] t old below x h e is = cc
    leave_condition (cand ∷ fs) (o ∷ os) t old below x h e is =
        let m = mapped (λ ts. let s : State = record { frames = fs; operands = of_path (record cand { pairs = kept_by_number 0 ts cand.pairs }) ∷ os } in s) (as_tags (length (places cand.pairs)) o) t e in
        of_condition (length (places cand.pairs)) o m.0 x m.1 (top_operand o os old below x h is).0

    -- the two on top
    abbrev Two : List (Operand M) → Type 0
    Two old = (b : machine.Operand) × (a : machine.Operand) × (os : List machine.Operand) × ShowsOperands located stand_of content_of text doc (b ∷ a ∷ os) old

    pub two_first : (old : List (Operand M)) → Two old → EndsInOne old
    two_first old h = one_there h.0 (h.1 ∷ h.2) old h.3

    pub two_second : (old mid : List (Operand M)) (x : Operand M) → Two old → old ≡ mid ++ x ∷ [] → EndsInOne mid
    two_second old mid x h is = one_there h.1 h.2 mid (top_operand h.0 (h.1 ∷ h.2) old mid x h.3 is).1

    pub compares_two : (op : FilterToken) (fs : List machine.Found) (os : List machine.Operand) (t : State) (old : List (Operand M)) → ShowsOperands located stand_of content_of text doc os old → inside text doc (compares op) fs os ≡ Some t → Two old
    compares_two op (cand ∷ fs) (b ∷ a ∷ os) t old h e = (b, a, os, h)
    compares_two op _ _ t old h e = cc

    pub joins_two : (op : FilterToken) (fs : List machine.Found) (os : List machine.Operand) (t : State) (old : List (Operand M)) → ShowsOperands located stand_of content_of text doc os old → inside text doc (joins op) fs os ≡ Some t → Two old
    joins_two op (cand ∷ fs) (b ∷ a ∷ os) t old h e = (b, a, os, h)
    joins_two op _ _ t old h e = cc

    -- both sides of a comparison are terms, and both of a connective conditions
    pub compares_terms : (op : FilterToken) (fs : List machine.Found) (os : List machine.Operand) (t : State) (old mid new : List (Operand M)) (right left : Operand M) → ShowsOperands located stand_of content_of text doc os old
        → inside text doc (compares op) fs os ≡ Some t → old ≡ mid ++ right ∷ [] → mid ≡ new ++ left ∷ [] → IsOfTerm left × IsOfTerm right
    compares_terms op (cand ∷ fs) (b ∷ a ∷ os) t old mid new right left h e is was =
        let m = mapped (λ more. let s : State = record { frames = cand ∷ fs; operands = more } in s) (cond (is_side a && is_side b) (Some (tags (compared doc op 0 (length (places cand.pairs)) a b) ∷ os)) None) t e in
        let terms = and_parts (is_side a) (is_side b) (cond_some (is_side a && is_side b) (tags (compared doc op 0 (length (places cand.pairs)) a b) ∷ os) m.0 m.1).0 in
        let first = top_operand b (a ∷ os) old mid right h is in
        let second = top_operand a os mid new left first.1 was in
        (of_term a left terms.0 second.0, of_term b right terms.1 first.0)
    compares_terms op _ _ t old mid new right left h e is was = cc

    pub joins_conditions : (op : FilterToken) (fs : List machine.Found) (os : List machine.Operand) (t : State) (old mid new : List (Operand M)) (right left : Operand M) → ShowsOperands located stand_of content_of text doc os old
        → inside text doc (joins op) fs os ≡ Some t → old ≡ mid ++ right ∷ [] → mid ≡ new ++ left ∷ [] → IsOfCondition left × IsOfCondition right
    joins_conditions op (cand ∷ fs) (b ∷ a ∷ os) t old mid new right left h e is was =
        let k = length (places cand.pairs) in
        let m = mapped (λ more. let s : State = record { frames = cand ∷ fs; operands = more } in s) (option_and_then (λ us. option_map (λ vs. tags (joined_tags op 0 k us vs) ∷ os) (as_tags k b)) (as_tags k a)) t e in
        let lefts = chained (λ us. option_map (λ vs. tags (joined_tags op 0 k us vs) ∷ os) (as_tags k b)) (as_tags k a) m.0 m.1 in
        let rights = mapped (λ vs. tags (joined_tags op 0 k lefts.0 vs) ∷ os) (as_tags k b) m.0 lefts.2 in
        let first = top_operand b (a ∷ os) old mid right h is in
        let second = top_operand a os mid new left first.1 was in
        (of_condition k a lefts.0 left lefts.1 second.0, of_condition k b rights.0 right rights.1 first.0)
    joins_conditions op _ _ t old mid new right left h e is was = cc

    -- ---- one step

    pub start_done : (absolute : Bool) (fs : List machine.Found) (os : List machine.Operand) (t : State) (frames below : List (Found M)) (frame found : Found M) (old new : List (Operand M))
        → ShowsFrames located stand_of content_of doc fs frames → ShowsOperands located stand_of content_of text doc os old → inside text doc (start absolute) fs os ≡ Some t → frames ≡ below ++ frame ∷ []
        → ((g : machine.Found) → ShowsFound located stand_of content_of doc g frame → ShowsFound located stand_of content_of doc (start_of_path absolute (places g.pairs)) found) → new ≡ old ++ found_on found ∷ [] → ShowsState located stand_of content_of text doc t frames new
    start_done absolute [] os t frames below frame found old new hf ho e is leads more = cc
    start_done absolute (cand ∷ fs) os t frames below frame found old new hf ho e is leads more =
        let after : record { frames = cand ∷ fs; operands = of_path (start_of_path absolute (places cand.pairs)) ∷ os } ≡ t = cc in
        subst (λ (s : State). ShowsState located stand_of content_of text doc s frames new) after
        (hf, push_operand (of_path (start_of_path absolute (places cand.pairs))) os old new (found_on found) ho (leads cand (top_frame doc cand fs frames below frame hf is).0) more)

    -- a path's beginning at the candidates, and its step by a name
    pub reach_done : (key : List ℕ) (token : ParseToken) (fs : List machine.Found) (os : List machine.Operand) (t u : State) (frames below : List (Found M)) (frame found : Found M) (old new : List (Operand M))
        → ShowsFrames located stand_of content_of doc fs frames → ShowsOperands located stand_of content_of text doc os old → inside text doc (start false) fs os ≡ Some t → one text doc (plain_step false token) t ≡ Some u
        → plain_of text token ≡ named key → frames ≡ below ++ frame ∷ [] → found.is_shared ≡ false
        → ((ls : List Location) → MarksStandAt located stand_of content_of doc ls frame.pairs.marks.items → Shows located stand_of content_of doc (spread (λ l. step doc (named key) (l ∷ [])) 0 ls) found.pairs)
        → new ≡ old ++ found_on found ∷ [] → ShowsState located stand_of content_of text doc u frames new
    reach_done key token [] os t u frames below frame found old new hf ho e f by_name is own leads more = cc
    reach_done key token (cand ∷ fs) os t u frames below frame found old new hf ho e f by_name is own leads more =
        let began = spread itself 0 (places cand.pairs) in
        let reached = each_tag (stepped text doc false token) 0 (length (places cand.pairs)) began in
        let to : machine.Found = record { shared = false; pairs = reached } in
        let at_start : record { frames = cand ∷ fs; operands = of_path (record { shared = false; pairs = began }) ∷ os } ≡ t = cc in
        let at_end : Some (record { frames = cand ∷ fs; operands = of_path to ∷ os }) ≡ Some u = ap (λ (s : State). one text doc (plain_step false token) s) at_start ∙ f in
        let after : record { frames = cand ∷ fs; operands = of_path to ∷ os } ≡ u = cc in
        let same : reached ≡ spread (λ l. step doc (named key) (l ∷ [])) 0 (places cand.pairs) =
        each_tag-spread itself (stepped text doc false token) 0 (places cand.pairs) ∙ ap (λ (p : Plain). spread (λ l. step doc p (l ∷ [])) 0 (places cand.pairs)) by_name in
        let shows : Shows located stand_of content_of doc reached found.pairs =
        subst (λ (ps : List Tagged). Shows located stand_of content_of doc ps found.pairs) (sym same) (leads (places cand.pairs) (top_frame doc cand fs frames below frame hf is).0.1.1) in
        subst (λ (s : State). ShowsState located stand_of content_of text doc s frames new) after (hf, push_operand (of_path to) os old new (found_on found) ho (own, shows) more)

    -- how many lists there are to be led
    turned : (cand : machine.Found) (fs : List machine.Found) (frames below : List (Found M)) (frame : Found M) (g : machine.Found) (is_shared : Bool) (count lists : ℕ) → ShowsFrames located stand_of content_of doc (cand ∷ fs) frames → frames ≡ below ++ frame ∷ []
        → count ≡ length frame.pairs.marks.items → is_shared ≡ g.shared → lists ≡ list_count_for_candidates is_shared count → lists ≡ list_count_for_candidates g.shared (length (places cand.pairs))
    turned cand fs frames below frame g is_shared count lists hf is many same so = so ∙ ap₂ list_count_for_candidates same (number doc cand fs frames below frame count hf is many)

    pub lead_top_done : (f : Document → List Location → List Location) (cand : machine.Found) (fs : List machine.Found) (os led : List machine.Operand) (frames below : List (Found M)) (frame n : Found M) (found : TaggedMarks M) (old mid new : List (Operand M)) (count lists : ℕ)
        → ShowsFrames located stand_of content_of doc (cand ∷ fs) frames → ShowsOperands located stand_of content_of text doc os old → top_led (f doc) cand os ≡ Some led → frames ≡ below ++ frame ∷ [] → count ≡ length frame.pairs.marks.items → old ≡ mid ++ found_on n ∷ []
        → lists ≡ list_count_for_candidates n.is_shared count → LeadsPairs located stand_of content_of (λ d ps. each_tag (f d) 0 lists ps) n.pairs found → new ≡ mid ++ found_on (record n { pairs = found }) ∷ [] → ShowsOperands located stand_of content_of text doc led new
    lead_top_done f cand fs (of_path g ∷ os) led frames below frame n found old mid new count lists hf ho e is many was so leads more =
        let to : machine.Found = record g { pairs = each_tag (f doc) 0 (list_count_for_candidates g.shared (length (places cand.pairs))) g.pairs } in
        let after : of_path to ∷ os ≡ led = cc in
        let top = top_operand (of_path g) os old mid (found_on n) ho was in
        let lists_are = turned cand fs frames below frame g n.is_shared count lists hf is many top.0.0 so in
        subst (λ (xs : List machine.Operand). ShowsOperands located stand_of content_of text doc xs new) after
        (push_operand (of_path to) os mid new (found_on (record n { pairs = found })) top.1
        (top.0.0, subst (λ k. Shows located stand_of content_of doc (each_tag (f doc) 0 k g.pairs) found) lists_are (leads doc g.pairs top.0.1)) more)
    lead_top_done f cand fs _ led frames below frame n found old mid new count lists hf ho e is many was so leads more = cc

    pub enter_done : (leaves deep : Bool) (fs : List machine.Found) (os : List machine.Operand) (t : State) (frames below frames' : List (Found M)) (frame n : Found M) (found : TaggedMarks M) (old mid : List (Operand M)) (count lists : ℕ)
        → ShowsFrames located stand_of content_of doc fs frames → ShowsOperands located stand_of content_of text doc os old → opened doc leaves deep fs os ≡ Some t → frames ≡ below ++ frame ∷ [] → count ≡ length frame.pairs.marks.items → old ≡ mid ++ found_on n ∷ []
        → lists ≡ list_count_for_candidates n.is_shared count → LeadsPairs located stand_of content_of (λ d ps. entered d leaves deep lists ps) n.pairs found → frames' ≡ frames ++ record n { pairs = found } ∷ [] → ShowsState located stand_of content_of text doc t frames' mid
    enter_done leaves deep (cand ∷ fs) (of_path g ∷ os) t frames below frames' frame n found old mid count lists hf ho e is many was so leads more =
        let to : machine.Found = record g { pairs = entered doc leaves deep (list_count_for_candidates g.shared (length (places cand.pairs))) g.pairs } in
        let after : record { frames = to ∷ cand ∷ fs; operands = os } ≡ t = cc in
        let top = top_operand (of_path g) os old mid (found_on n) ho was in
        let lists_are = turned cand fs frames below frame g n.is_shared count lists hf is many top.0.0 so in
        subst (λ (s : State). ShowsState located stand_of content_of text doc s frames' mid) after
        ((frames, record n { pairs = found }, more, (top.0.0, subst (λ k. Shows located stand_of content_of doc (entered doc leaves deep k g.pairs) found) lists_are (leads doc g.pairs top.0.1)), hf), top.1)
    enter_done leaves deep _ _ t frames below frames' frame n found old mid count lists hf ho e is many was so leads more = cc

    pub leave_done : (fs : List machine.Found) (os : List machine.Operand) (t : State) (frames below : List (Found M)) (frame : Found M) (found : TaggedMarks M) (old mid new : List (Operand M)) (x : Operand M) (count : ℕ) (numbers : List ℕ)
        → ShowsFrames located stand_of content_of doc fs frames → ShowsOperands located stand_of content_of text doc os old → filter_closed fs os ≡ Some t → frames ≡ below ++ frame ∷ [] → count ≡ length frame.pairs.marks.items → old ≡ mid ++ x ∷ []
        → ((o : machine.Operand) → ShowsOperand located stand_of content_of text doc o x → as_tags count o ≡ Some numbers) → LeadsPairs located stand_of content_of (λ d ps. kept_by_number 0 numbers ps) frame.pairs found
        → new ≡ mid ++ found_on (record frame { pairs = found }) ∷ [] → ShowsState located stand_of content_of text doc t below new
    leave_done [] os t frames below frame found old mid new x count numbers hf ho e is many was decides leads more = cc
    leave_done (cand ∷ fs) [] t frames below frame found old mid new x count numbers hf ho e is many was decides leads more = cc
    leave_done (cand ∷ fs) (o ∷ os) t frames below frame found old mid new x count numbers hf ho e is many was decides leads more =
        let to : List ℕ → State = λ ts. record { frames = fs; operands = of_path (record cand { pairs = kept_by_number 0 ts cand.pairs }) ∷ os } in
        let place = top_frame doc cand fs frames below frame hf is in
        let top = top_operand o os old mid x ho was in
        let found_tags : as_tags (length (places cand.pairs)) o ≡ Some numbers = ap (λ k. as_tags k o) (sym (number doc cand fs frames below frame count hf is many)) ∙ decides o top.0 in
        let answer : Some (to numbers) ≡ Some t = sym (ap (option_map to) found_tags) ∙ e in
        let after : to numbers ≡ t = cc in
        subst (λ (s : State). ShowsState located stand_of content_of text doc s below new) after
        (place.1, push_operand (of_path (record cand { pairs = kept_by_number 0 numbers cand.pairs })) os mid new (found_on (record frame { pairs = found })) top.1 (place.0.0, leads doc cand.pairs place.0.1) more)

    pub compare_done : (op : FilterToken) (fs : List machine.Found) (os : List machine.Operand) (t : State) (frames below : List (Found M)) (frame : Found M) (old mid low new : List (Operand M)) (right left top : Operand M) (count : ℕ) (numbers : List ℕ)
        → ShowsFrames located stand_of content_of doc fs frames → ShowsOperands located stand_of content_of text doc os old → inside text doc (compares op) fs os ≡ Some t → frames ≡ below ++ frame ∷ [] → count ≡ length frame.pairs.marks.items
        → old ≡ mid ++ right ∷ [] → mid ≡ low ++ left ∷ [] → ((a b : machine.Operand) → ShowsOperand located stand_of content_of text doc a left → ShowsOperand located stand_of content_of text doc b right → numbers ≡ compared doc op 0 count a b)
        → ((ts : List ℕ) → numbers ≡ ts → ShowsOperand located stand_of content_of text doc (tags ts) top) → new ≡ low ++ top ∷ [] → ShowsState located stand_of content_of text doc t frames new
    compare_done op (cand ∷ fs) (b ∷ a ∷ os) t frames below frame old mid low new right left top count numbers hf ho e is many first second decides shows more =
        let answer = tags (compared doc op 0 (length (places cand.pairs)) a b) in
        let m = mapped (λ operands. let s : State = record { frames = cand ∷ fs; operands = operands } in s) (cond (is_side a && is_side b) (Some (answer ∷ os)) None) t e in
        let same : answer ∷ os ≡ m.0 = (cond_some (is_side a && is_side b) (answer ∷ os) m.0 m.1).1 in
        let one = top_operand b (a ∷ os) old mid right ho first in
        let two = top_operand a os mid low left one.1 second in
        let decided : numbers ≡ compared doc op 0 (length (places cand.pairs)) a b = decides a b two.0 one.0 ∙ ap (λ k. compared doc op 0 k a b) (number doc cand fs frames below frame count hf is many) in
        subst (λ (s : State). ShowsState located stand_of content_of text doc s frames new) (ap (λ (operands : List machine.Operand). let s : State = record { frames = cand ∷ fs; operands = operands } in s) same ∙ m.2)
        (hf, push_operand answer os low new top two.1 (shows (compared doc op 0 (length (places cand.pairs)) a b) decided) more)
    compare_done op _ _ t frames below frame old mid low new right left top count numbers hf ho e is many first second decides shows more = cc

    pub join_done : (op : FilterToken) (fs : List machine.Found) (os : List machine.Operand) (t : State) (frames below : List (Found M)) (frame : Found M) (old mid low new : List (Operand M)) (right left top : Operand M) (count : ℕ) (lefts rights numbers : List ℕ)
        → ShowsFrames located stand_of content_of doc fs frames → ShowsOperands located stand_of content_of text doc os old → inside text doc (joins op) fs os ≡ Some t → frames ≡ below ++ frame ∷ [] → count ≡ length frame.pairs.marks.items
        → old ≡ mid ++ right ∷ [] → mid ≡ low ++ left ∷ [] → ((o : machine.Operand) → ShowsOperand located stand_of content_of text doc o left → as_tags count o ≡ Some lefts) → ((o : machine.Operand) → ShowsOperand located stand_of content_of text doc o right → as_tags count o ≡ Some rights)
        → numbers ≡ joined_tags op 0 count lefts rights → ((ts : List ℕ) → numbers ≡ ts → ShowsOperand located stand_of content_of text doc (tags ts) top) → new ≡ low ++ top ∷ [] → ShowsState located stand_of content_of text doc t frames new
    join_done op (cand ∷ fs) (b ∷ a ∷ os) t frames below frame old mid low new right left top count lefts rights numbers hf ho e is many first second on_left on_right decides shows more =
        let k = length (places cand.pairs) in
        let same_count : count ≡ k = number doc cand fs frames below frame count hf is many in
        let one = top_operand b (a ∷ os) old mid right ho first in
        let two = top_operand a os mid low left one.1 second in
        let of_left : as_tags k a ≡ Some lefts = ap (λ n. as_tags n a) (sym same_count) ∙ on_left a two.0 in
        let of_right : as_tags k b ≡ Some rights = ap (λ n. as_tags n b) (sym same_count) ∙ on_right b one.0 in
        let to : List machine.Operand → State = λ operands. record { frames = cand ∷ fs; operands = operands } in
        let answer : Some (to (tags (joined_tags op 0 k lefts rights) ∷ os)) ≡ Some t =
        sym (ap (λ o. option_map to (option_and_then (λ us. option_map (λ vs. tags (joined_tags op 0 k us vs) ∷ os) (as_tags k b)) o)) of_left ∙ ap (λ o. option_map to (option_map (λ vs. tags (joined_tags op 0 k lefts vs) ∷ os) o)) of_right) ∙ e in
        let after : to (tags (joined_tags op 0 k lefts rights) ∷ os) ≡ t = cc in
        subst (λ (s : State). ShowsState located stand_of content_of text doc s frames new) after
        (hf, push_operand (tags (joined_tags op 0 k lefts rights)) os low new top two.1 (shows (joined_tags op 0 k lefts rights) (decides ∙ ap (λ n. joined_tags op 0 n lefts rights) same_count)) more)
    join_done op _ _ t frames below frame old mid low new right left top count lefts rights numbers hf ho e is many first second on_left on_right decides shows more = cc
