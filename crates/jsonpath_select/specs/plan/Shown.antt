-- How the code holds tagged locations.
use Rattle.std.specs.Prelude.{◌≡◌, ℕ, Bool, List, map, true, false}
use Rattle.jsonpath_nodes.specs.document.Document.{Document}
use Rattle.jsonpath_nodes.specs.place.Location.{Location}
use Rattle.jsonpath_nodes.specs.place.Mark.{shown, look_kept, MarksStandAt}
use Rattle.jsonpath_nodes.specs.place.Order.{once_in_order}
use Rattle.jsonpath_nodes.specs.step.SameMembers.{topmost}
use Rattle.jsonpath_nodes.specs.step.Steps.{step, named}
use Rattle.jsonpath_select.specs.plan.Machine.{Tagged, places, stepped, gathered}
use Rattle.jsonpath_select.specs.declared.tagged.marks.TaggedMarks.{TaggedMarks}
use Rattle.jsonpath_select.specs.declared.tagged.moves.Move.{Move}
use Rattle.jsonpath_select.specs.declared.tagged.moves.Move.TheVariants.{Step, Member, Lower, Flat, LowerFlat, InOrder, Topmost}

abbrev pub tags_of : List Tagged → List ℕ
tags_of ps = map (λ (p : Tagged). p.0) ps

-- where a way leads the locations of one tag
abbrev pub led : Document → Move → List Location → List Location
led doc (Step leaves token text) ls = stepped text.now doc leaves token.now ls
led doc (Member key) ls = step doc (named key.now) ls
led doc Lower ls = gathered doc true false ls
led doc Flat ls = gathered doc false true ls
led doc LowerFlat ls = gathered doc true true ls
led doc InOrder ls = once_in_order ls
led doc Topmost ls = topmost ls

-- ---- marks, by whether they keep their locations, where they stand and what they hold

-- the mark stands at this location of the document
abbrev pub MarkStandsAt : {M : Type 0} → Bool → (M → Location) → (M → Document) → Document → Location → M → Type 0
MarkStandsAt b stand content doc l m = shown stand content m ≡ look_kept b doc l

-- these tags and marks are those pairs
abbrev pub ArePairs : {M : Type 0} → Bool → (M → Location) → (M → Document) → Document → List Tagged → List ℕ → List M → Type 0
ArePairs b stand content doc ps tags marks = (tags ≡ tags_of ps) × MarksStandAt b stand content doc (places ps) marks

abbrev pub Shows : {M : Type 0} → Bool → (M → Location) → (M → Document) → Document → List Tagged → TaggedMarks M → Type 0
Shows b stand content doc ps n = ArePairs b stand content doc ps n.tags.items n.marks.items

-- wherever the first pairs are, the others are those that f gives
abbrev pub LeadsPairs : {M : Type 0} → Bool → (M → Location) → (M → Document) → (Document → List Tagged → List Tagged) → TaggedMarks M → TaggedMarks M → Type 0
LeadsPairs b stand content f n m = (doc : Document) (ps : List Tagged) → Shows b stand content doc ps n → Shows b stand content doc (f doc ps) m
