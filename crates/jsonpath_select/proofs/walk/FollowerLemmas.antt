-- The walk: lists of candidates at a time lead where the meaning in the manner told leads from each.
use Rattle.std.proofs.Common.{◌≡◌, ℕ, suc, ◌≤◌, Bool, true, false, cond, List, [], ◌∷◌, ◌++◌, length, drop, refl, sym, ap, ap₂, subst, ◌∙◌, drop_of_length-le, drop-cons, get_or, ◌+◌, ◌<◌, ◌==◌, ◌≢◌, ne_eqb, arith, add-one, filter}
use Rattle.jsonpath_nodes.specs.document.Document.{Document}
use Rattle.jsonpath_paths.specs.tree.Tree.{Path, path, Inner, Condition, Term}
use Rattle.jsonpath_paths.specs.tree.Tree as tree
use Rattle.jsonpath_paths.specs.declared.token.tokens.FilterToken.{FilterToken}
use Rattle.jsonpath_nodes.specs.place.Location.{Location}
use Rattle.jsonpath_nodes.specs.place.NumbersWhere.{numbers_where}
use Rattle.jsonpath_nodes.specs.step.Steps.{every, step, all_below, flattened}
use Rattle.jsonpath_select.specs.Meaning.{is_some_location, has_own_step, candidates}
use Rattle.jsonpath_select.specs.plan.Machine.{Tagged, tagged, places, each_tag, spread, starts, itself, found_tags, kept_by_number, compared, gathered, entered}
use Rattle.jsonpath_select.specs.plan.Manner.{reached_in, follow_in, holds_in, values_in}
use Rattle.jsonpath_select.specs.plan.Walk.{led_in, step_in, set_after, found_in, term_in}
use Rattle.jsonpath_select.specs.plan.Shown.{Shows, tags_of}
use Rattle.jsonpath_select.specs.declared.tagged.marks.TaggedMarks.{TaggedMarks}
use Rattle.jsonpath_paths.specs.tree.View.{path_of, inner_of, steps_of_list, path_of_out}
use Rattle.jsonpath_paths.specs.declared.tree.parser_node.ParserNode.{ParserNode, out-ParserNode}
use Rattle.jsonpath_paths.specs.declared.tree.parser_node.ParserStep.{ParserStep}
use Rattle.jsonpath_select.proofs.tagged.DistinctLemmas.{tagged-filter}
use Rattle.jsonpath_select.proofs.tagged.GroupLemmas.{places_tagged}
use Rattle.jsonpath_select.proofs.walk.MarkLemmas.{length-marks}
use Rattle.jsonpath_select.proofs.machine.RunLemmas.{entered-spread}
use Rattle.jsonpath_select.proofs.tagged.TagLemmas.{path_tags, term_from, compared-terms, kept-chosen, each_tag-spread, filter-spread}

-- ---- lists for each candidate

pub spread-same : (f g : Location → List Location) (n : ℕ) (cs : List Location) → ((c : Location) → f c ≡ g c) → spread f n cs ≡ spread g n cs
spread-same f g n cs h = λ i. spread (λ c. h c i) n cs

-- nothing goes on from nothing
pub empty_spread : (f : Location → List Location) (g : List Location → List Location) (t : ℕ) (cs : List Location) → length (spread f t cs) ≡ 0 → g [] ≡ [] → spread f t cs ≡ spread (λ c. g (f c)) t cs
empty_spread f g t [] h none = refl
empty_spread f g t (c ∷ cs) h none = by (f c) h (λ e. empty_spread f g (suc t) cs e none)
  where
    by : (xs : List Location) → length (tagged t xs ++ spread f (suc t) cs) ≡ 0 → (length (spread f (suc t) cs) ≡ 0 → spread f (suc t) cs ≡ spread (λ d. g (f d)) (suc t) cs)
        → tagged t xs ++ spread f (suc t) cs ≡ tagged t (g xs) ++ spread (λ d. g (f d)) (suc t) cs
    by [] e later = ap₂ (λ (ms : List Location) (ps : List Tagged). tagged t ms ++ ps) (sym none) (later e)
    by (x ∷ xs) e later = cc

pub empty_tags : (ps : List Tagged) (tags : List ℕ) → tags ≡ tags_of ps → (length tags == 0) ≡ true → length ps ≡ 0
empty_tags [] tags is none = refl
empty_tags (p ∷ ps) [] is none = cc
empty_tags (p ∷ ps) (t ∷ tags) is none = let apart : suc (length tags) ≢ 0 = omega arith in let different : (suc (length tags) == 0) ≡ false = ne_eqb (suc (length tags)) 0 apart in cc

-- ---- steps

-- a step in the manner told: by sets
pub step_by_sets : (sets : Bool) (text : List ℕ) (doc : Document) (inner : Inner) (leaves : Bool) (ls : List Location) → sets ≡ true → set_after sets text doc inner leaves ls ≡ step_in sets text doc inner leaves ls
step_by_sets true text doc (tree.plain token) true ls is = refl
step_by_sets true text doc (tree.plain token) false ls is = refl
step_by_sets true text doc (tree.filter f) true ls is = refl
step_by_sets true text doc (tree.filter f) false ls is = refl
step_by_sets false text doc inner leaves ls is = cc

-- .. and by lists
pub step_by_lists : (sets : Bool) (text : List ℕ) (doc : Document) (inner : Inner) (leaves : Bool) (ls : List Location) → sets ≡ false → led_in sets text doc inner leaves ls ≡ step_in sets text doc inner leaves ls
step_by_lists true text doc inner leaves ls is = cc
step_by_lists false text doc (tree.plain token) true ls is = refl
step_by_lists false text doc (tree.plain token) false ls is = refl
step_by_lists false text doc (tree.filter f) true ls is = refl
step_by_lists false text doc (tree.filter f) false ls is = refl

pub none_after : (sets : Bool) (text : List ℕ) (doc : Document) (inner : Inner) (leaves : Bool) → step_in sets text doc inner leaves [] ≡ []
none_after sets text doc (tree.plain token) leaves = grind arith
none_after sets text doc (tree.filter f) leaves = grind arith

pub gathered_is : (doc : Document) (f : Condition) (deep leaves : Bool) (ls : List Location) → deep ≡ has_own_step f → gathered doc leaves deep ls ≡ candidates doc f (cond leaves (step doc every (all_below doc ls)) ls)
gathered_is doc f deep leaves ls is = ap (λ b. cond b (flattened doc (cond leaves (step doc every (all_below doc ls)) ls)) (cond leaves (step doc every (all_below doc ls)) ls)) is

-- ---- conditions

module _ (sets : Bool) (text : List ℕ) (doc : Document) where
  pub tags_in : (p : Path) (cs : List Location) → found_tags (found_in sets text doc p cs).shared (length cs) (found_in sets text doc p cs).pairs ≡ numbers_where (λ c. is_some_location (reached_in sets text doc p c)) 0 cs
  tags_in (path true ss) cs = path_tags text doc (reached_in sets text doc) (values_in sets text doc) (λ ss c. refl) (path true ss) cs
  tags_in (path false ss) cs = path_tags text doc (reached_in sets text doc) (values_in sets text doc) (λ ss c. refl) (path false ss) cs

  terms_are : (a : Term) (cs : List Location) → term_in sets text doc a cs ≡ term_from text doc (reached_in sets text doc) (values_in sets text doc) a 0 cs
  terms_are (tree.at_path (path true ss)) cs = refl
  terms_are (tree.at_path (path false ss)) cs = refl
  terms_are (tree.literal token) cs = refl

  pub compared_in : (op : FilterToken) (a b : Term) (n : ℕ) (cs : List Location) → n ≡ length cs
      → compared doc op 0 n (term_in sets text doc a cs) (term_in sets text doc b cs) ≡ numbers_where (holds_in sets text doc (tree.compare a op b)) 0 cs
  compared_in op a b n cs is =
      ap₂ (compared doc op 0 n) (terms_are a cs) (terms_are b cs)
      ∙ ap (λ k. compared doc op 0 k (term_from text doc (reached_in sets text doc) (values_in sets text doc) a 0 cs) (term_from text doc (reached_in sets text doc) (values_in sets text doc) b 0 cs)) is
      ∙ compared-terms text doc (reached_in sets text doc) (values_in sets text doc) (λ ss c. refl) (λ p c. refl) (λ token c. refl) op a b 0 cs

-- ---- those that pass

-- those that a condition passes, by their numbers
pub kept_numbers : (test : Location → Bool) (ps : List Tagged) (numbers : List ℕ) → numbers ≡ numbers_where test 0 (places ps) → kept_by_number 0 numbers ps ≡ filter (λ (p : Tagged). test p.1) ps
kept_numbers test ps numbers are = ap (λ (ns : List ℕ). kept_by_number 0 ns ps) are ∙ kept-chosen test 0 ps

-- .. of a list with one tag
pub kept_alone : (test : Location → Bool) (ls : List Location) (numbers : List ℕ) → numbers ≡ numbers_where test 0 (places (tagged 0 ls)) → places (kept_by_number 0 numbers (tagged 0 ls)) ≡ filter test ls
kept_alone test ls numbers are = ap places (kept_numbers test (tagged 0 ls) numbers are ∙ tagged-filter test 0 ls) ∙ places_tagged 0 (filter test ls)

-- ---- the steps one after the other

pub entered_lists : (doc : Document) (leaves deep : Bool) (f : Location → List Location) (ls : List Location) (n : ℕ) → n ≡ length ls
    → entered doc leaves deep n (spread f 0 ls) ≡ spread (λ c. gathered doc leaves deep (f c)) 0 ls
entered_lists doc leaves deep f ls n is = ap (λ k. entered doc leaves deep k (spread f 0 ls)) is ∙ entered-spread doc leaves deep f ls

-- what a filter keeps of each list
pub filtered : (sets : Bool) (text : List ℕ) (doc : Document) (f : Condition) (leaves deep : Bool) (g : Location → List Location) (ls : List Location) (n : ℕ) (numbers : List ℕ) → n ≡ length ls → deep ≡ has_own_step f
    → numbers ≡ numbers_where (holds_in sets text doc f) 0 (places (entered doc leaves deep n (spread g 0 ls)))
    → kept_by_number 0 numbers (entered doc leaves deep n (spread g 0 ls)) ≡ spread (λ c. led_in sets text doc (tree.filter f) leaves (g c)) 0 ls
filtered sets text doc f leaves deep g ls n numbers is own are =
    kept_numbers (holds_in sets text doc f) (entered doc leaves deep n (spread g 0 ls)) numbers are
    ∙ ap (filter (λ (p : Tagged). holds_in sets text doc f p.1)) (entered_lists doc leaves deep g ls n is)
    ∙ filter-spread (holds_in sets text doc f) (λ c. gathered doc leaves deep (g c)) 0 ls ∙ (λ i. spread (λ c. filter (holds_in sets text doc f) (gathered_is doc f deep leaves (g c) own i)) 0 ls)

pub steps_next : (sets : Bool) (text : List ℕ) (doc : Document) (ss : List ParserStep) (i : ℕ) (s : ParserStep) (ls all : List Location) → i < length ss → s ≡ get_or ss i s
    → follow_in sets text doc (steps_of_list (drop i ss)) ls ≡ all
    → follow_in sets text doc (steps_of_list (drop (i + 1) ss)) (step_in sets text doc (inner_of s.inner) s.leaves ls) ≡ all
steps_next sets text doc ss i s ls all within is follows =
    let left : drop i ss ≡ s ∷ drop (i + 1) ss = drop-cons ss i s within ∙ ap₂ (λ (x : ParserStep) (xs : List ParserStep). x ∷ xs) (sym is) (rw add-one refl) in
    sym (ap (λ (xs : List ParserStep). follow_in sets text doc (steps_of_list xs) ls) left) ∙ follows

pub shared_is : (sets : Bool) (text : List ℕ) (doc : Document) (n : ParserNode) (cs : List Location) → (out-ParserNode n).absolute ≡ (found_in sets text doc (path_of n) cs).shared
shared_is sets text doc n cs = sym (ap (λ (p : Path). (found_in sets text doc p cs).shared) (path_of_out n))

-- ---- marks

module _ {M : Type 0} (located : Bool) (stand_of : M → Location) (content_of : M → Document) where
  pub counted : (doc : Document) (ps : List Tagged) (n : TaggedMarks M) → Shows located stand_of content_of doc ps n → length n.marks.items ≡ length (places ps)
  counted doc ps n shows = length-marks located stand_of content_of doc (places ps) n.marks.items shows.1

  pub turned : (doc : Document) (g : List Location → List Location) (f : Location → List Location) (ls : List Location) (n : ℕ) (after : TaggedMarks M) → n ≡ length ls
      → Shows located stand_of content_of doc (each_tag g 0 n (spread f 0 ls)) after → Shows located stand_of content_of doc (spread (λ c. g (f c)) 0 ls) after
  turned doc g f ls n after is shows = subst (λ (ps : List Tagged). Shows located stand_of content_of doc ps after) (ap (λ k. each_tag g 0 k (spread f 0 ls)) is ∙ each_tag-spread f g 0 ls) shows

  pub path_done : (sets : Bool) (text : List ℕ) (doc : Document) (n : ParserNode) (i : ℕ) (xs : List ParserStep) (ps : List Tagged) (f : Location → List Location) (found : TaggedMarks M)
      → xs ≡ (out-ParserNode n).steps.items → length xs ≤ i → Shows located stand_of content_of doc (spread f 0 (starts (out-ParserNode n).absolute (places ps))) found
      → ((c : Location) → follow_in sets text doc (steps_of_list (drop i xs)) (f c) ≡ follow_in sets text doc (steps_of_list xs) (itself c))
      → Shows located stand_of content_of doc (found_in sets text doc (path_of n) (places ps)).pairs found
  path_done sets text doc n i xs ps f found same over shows follows =
      let absolute = (out-ParserNode n).absolute in
      let p : Path = path absolute (steps_of_list (out-ParserNode n).steps.items) in
      let none : drop i xs ≡ [] = drop_of_length-le xs {i = i} over in
      let each : (c : Location) → f c ≡ follow_in sets text doc (steps_of_list (out-ParserNode n).steps.items) (itself c) =
      λ c. sym (ap (λ (ss : List ParserStep). follow_in sets text doc (steps_of_list ss) (f c)) none) ∙ follows c ∙ ap (λ (ss : List ParserStep). follow_in sets text doc (steps_of_list ss) (itself c)) same in
      let all : spread f 0 (starts absolute (places ps)) ≡ (found_in sets text doc p (places ps)).pairs = spread-same f _ 0 (starts absolute (places ps)) each ∙ from_starts absolute in
      subst (λ (qs : List Tagged). Shows located stand_of content_of doc qs found) (all ∙ sym (ap (λ (q : Path). (found_in sets text doc q (places ps)).pairs) (path_of_out n))) shows
    where
      from_starts : (b : Bool) → spread (λ c. follow_in sets text doc (steps_of_list (out-ParserNode n).steps.items) (itself c)) 0 (starts b (places ps))
          ≡ (found_in sets text doc (path b (steps_of_list (out-ParserNode n).steps.items)) (places ps)).pairs
      from_starts true = refl
      from_starts false = refl
