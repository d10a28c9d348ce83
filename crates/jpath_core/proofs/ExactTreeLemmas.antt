-- Values of the exact tree that stand where a path leads in its image, step by step.
use Rattle.std.proofs.Common.{◌≡◌, ℕ, zero, suc, ◌+◌, ◌-◌, ◌<◌, ◌≤◌, ◌%◌, ◌==◌, List, [], ◌∷◌, ◌++◌, map, flat_map, filter, length, Bool, true, false, cond, Option, Some, None, option_map, option_and_then, refl, sym, ap, ap₂, subst, ◌∙◌, arith, lt-ltb, le-leb}
use Rattle.std.specs.Prelude.{◌&&◌, ◌||◌, unwrap_or, is_some, if◌then◌else◌, option_to_list}
use Rattle.std.specs.List.{list_all}
use Rattle.std.proofs.lemmas.Bool.{and_parts}
use Rattle.std.proofs.lemmas.List.{append-nil}
use Rattle.std.proofs.lemmas.List.Elements.{filter-append}
use Rattle.json.specs.Json as json
use Rattle.json.specs.Json.{Json}
use Rattle.json.specs.Find as exact
use Rattle.serde_json.specs.Data as kept
use Rattle.serde_json.specs.Data.{Num, Data}
use Rattle.serde_json.specs.Read.{of_json, of_items, of_members, number_of}
use Rattle.jsonpath_paths.specs.tree.Tree as tree
use Rattle.jsonpath_paths.specs.declared.text.str_reader.StrRange.{StrRange}
use Rattle.jsonpath_paths.specs.declared.token.tokens.ParseToken.{ParseToken}
use Rattle.jsonpath_paths.specs.declared.token.tokens.ParseToken.TheVariants as token
use Rattle.jsonpath_nodes.specs.document.Document.{Document, array, Items, no_items, item}
use Rattle.jsonpath_nodes.specs.document.Find.{get as get_document, items_len}
use Rattle.jsonpath_nodes.specs.document.OfData.{document_of, items_of}
use Rattle.jsonpath_nodes.specs.place.Location.{Step, name, index, Location, at, indexes_from, flat, flat_items}
use Rattle.jsonpath_nodes.specs.step.Steps.{Plain, every, named, range, single_steps, from, from_each, step, flattened, count_up, is_in_range}
use Rattle.jsonpath_nodes.specs.compare.Comparisons.{Seen, seen}
use Rattle.jsonpath_nodes.specs.step.Separate.{IsApart, NamesStandApart, RangeStandsApart, KeptStandApart, CandidatesStandApart, ApartHasNoRepeat, ApartHasNoRepeatFlat}
use Rattle.jsonpath_select.specs.Meaning.{reached, follow, inner_on, holds, values, values_at, candidates, has_own_step, has_own_step_path, has_own_step_term, is_some_location}
use Rattle.jsonpath_select.specs.Parts.{name_at, plain_of, has_pair, joined}
use Rattle.json_trees.specs.ExactAt.{exact_child, exact_at}
use Rattle.jpath_core.specs.AlongExactTree.{StandIn, list_of, items_in, is_no_object, is_no_array, are_no_arrays, is_shallow, spread, seen_number, seen_exact, key_of, member_key, member_of, is_member_term, is_simple_term, is_simple, values_exact, holds_exact, both, part_by, part, walk, walk_all}
use Rattle.jpath_core.proofs.WalkLemmas.{both_empty, both_none, both_assoc}
use Rattle.jpath_core.proofs.CarryLemmas.{pick, mapped_some, document_read, child_carries, location_carries, exact_at-last}

-- ---- one value

-- what stands in the tree stands in the image
pub carried_at : (j : Json) (d : Data) (l : Location) (x : Json) → of_json j ≡ Some d → Some x ≡ exact_at j l → (y : Data) × (at (document_of d) l ≡ Some (document_of y)) × (of_json x ≡ Some y)
carried_at j d l x image here = by_value (at (document_of d) l) refl (ap (option_map document_read) here ∙ location_carries l j d image)
  where
    by_value : (o : Option Document) → at (document_of d) l ≡ o → Some (document_read x) ≡ option_map Some o → (y : Data) × (at (document_of d) l ≡ Some (document_of y)) × (of_json x ≡ Some y)
    by_value None is e = absurd (cc)
    by_value (Some w) is e = let read = mapped_some document_of (of_json x) w (ap (pick None) e) in (read.0, is ∙ ap Some read.2, read.1)

below_here : (j : Json) (l : Location) (x : Json) (s : Step) → Some x ≡ exact_at j l → exact_at j (l ++ s ∷ []) ≡ exact_child s x
below_here j l x s here = exact_at-last l s j ∙ ap (option_and_then (exact_child s)) (sym here)

from_here : (d : Document) (f : Document → List Location) (l : Location) (y : Document) → at d l ≡ Some y → from d f l ≡ map (λ m. l ++ m) (f y)
from_here d f l y is = ap (λ o. map (λ m. l ++ m) (unwrap_or (option_map f o) [])) is

-- ---- lists of them

stand_append : (j : Json) (ls ms : List Location) (js ks : List Json) → StandIn j ls js → StandIn j ms ks → StandIn j (ls ++ ms) (js ++ ks)
stand_append j [] ms [] ks h i = i
stand_append j [] ms (x ∷ js) ks h i = absurd (cc)
stand_append j (l ∷ ls) ms [] ks h i = absurd (cc)
stand_append j (l ∷ ls) ms (x ∷ js) ks h i =
    let here : Some x ≡ exact_at j l = cc in
    let later : StandIn j ls js = cc in
    ap₂ (λ o os. o ∷ os) here (stand_append j ls ms js ks later i)

module _ (j : Json) (d : Document) (f : Document → List Location) (g : Json → List Json) (ok : Json → Bool) where
  pub each_stand : ((l : Location) (x : Json) → ok x ≡ true → Some x ≡ exact_at j l → StandIn j (from d f l) (g x))
      → (ls : List Location) (js : List Json) → list_all ok js ≡ true → StandIn j ls js → StandIn j (from_each d f ls) (flat_map g js)
  each_stand one [] [] all h = refl
  each_stand one [] (x ∷ js) all h = absurd (cc)
  each_stand one (l ∷ ls) [] all h = absurd (cc)
  each_stand one (l ∷ ls) (x ∷ js) all h =
      let here : Some x ≡ exact_at j l = cc in
      let later : StandIn j ls js = cc in
      let both = and_parts (ok x) (list_all ok js) all in
      stand_append j (from d f l) (from_each d f ls) (g x) (flat_map g js) (one l x both.0 here) (each_stand one ls js both.1 later)

always : Json → Bool
always x = true

all_always : (js : List Json) → list_all always js ≡ true
unfolding always
all_always [] = refl
all_always (x ∷ js) = all_always js

-- ---- a name

named_cases : (j x : Json) (l : Location) (k : List ℕ) (o : Option Json) (p : Option Document) → Some x ≡ exact_at j l → exact.get k x ≡ o → option_map document_read o ≡ option_map Some p
    → StandIn j (map (λ m. l ++ m) (map (λ s. s ∷ []) (cond (is_some p) (name k ∷ []) []))) (option_to_list o)
named_cases j x l k None None here is e = refl
named_cases j x l k None (Some w) here is e = absurd (cc)
named_cases j x l k (Some z) None here is e = absurd (cc)
named_cases j x l k (Some z) (Some w) here is e = ap (λ o. o ∷ []) (sym is ∙ sym (below_here j l x (name k) here))

pub named_from : (j : Json) (d : Data) (k : List ℕ) → of_json j ≡ Some d → (l : Location) (x : Json) → Some x ≡ exact_at j l → StandIn j (from (document_of d) (single_steps (named k)) l) (option_to_list (exact.get k x))
named_from j d k image l x here =
    let held = carried_at j d l x image here in
    let leads = from_here (document_of d) (single_steps (named k)) l (document_of held.0) held.1 in
    named_cases j x l k (exact.get k x) (get_document k (document_of held.0)) here refl (child_carries (name k) x held.0 held.2) ∙ ap (map (exact_at j)) (sym leads)

pub named_stand : (j : Json) (d : Data) (k : List ℕ) → of_json j ≡ Some d → (ls : List Location) (js : List Json) → StandIn j ls js
    → StandIn j (step (document_of d) (named k) ls) (flat_map (λ x. option_to_list (exact.get k x)) js)
named_stand j d k image ls js h = each_stand j (document_of d) (single_steps (named k)) (λ x. option_to_list (exact.get k x)) always (λ l x all here. named_from j d k image l x here) ls js (all_always js) h

-- ---- items

item_read : (x : Json) (js : json.Items) (ds : kept.Items) → of_items (json.item x js) ≡ Some ds → (y : Data) × (es : kept.Items) × (of_json x ≡ Some y) × (of_items js ≡ Some es) × (ds ≡ kept.item y es)
item_read x js ds e = by_both (of_json x) (of_items js) refl refl e
  where
    by_both : (o : Option Data) (p : Option kept.Items) → of_json x ≡ o → of_items js ≡ p → option_and_then (λ d. option_map (kept.item d) p) o ≡ Some ds
        → (y : Data) × (es : kept.Items) × (of_json x ≡ Some y) × (of_items js ≡ Some es) × (ds ≡ kept.item y es)
    by_both None p is more e = absurd (cc)
    by_both (Some y) None is more e = absurd (cc)
    by_both (Some y) (Some es) is more e = (y, es, is, more, sym (ap (pick ds) e))

items_stand : (j : Json) (l : Location) (n : ℕ) (js : json.Items) (ds : kept.Items) → of_items js ≡ Some ds → ((i : ℕ) → exact_at j (l ++ index (i + n) ∷ []) ≡ exact.get_item i js)
    → StandIn j (map (λ m. l ++ m) (map (λ s. s ∷ []) (indexes_from n (items_of ds)))) (list_of js)
items_stand j l n json.no_items ds read there =
    let none : kept.no_items ≡ ds = ap (pick ds) read in
    rw (← none) refl
items_stand j l n (json.item x js) ds read there =
    let parts = item_read x js ds read in
    let later : (i : ℕ) → exact_at j (l ++ index (i + suc n) ∷ []) ≡ exact.get_item i js =
    λ i. let e : i + suc n ≡ suc i + n = omega arith in ap (λ k. exact_at j (l ++ index k ∷ [])) e ∙ there (suc i) in
    let first : 0 + n ≡ n = omega arith in
    rw (parts.4) (ap₂ (λ o os. o ∷ os) (sym (there 0) ∙ ap (λ k. exact_at j (l ++ index k ∷ [])) first) (items_stand j l (suc n) js parts.1 parts.3 later))

array_read : (js : json.Items) (y : Data) → of_json (json.array js) ≡ Some y → (ds : kept.Items) × (of_items js ≡ Some ds) × (y ≡ kept.array ds)
array_read js y e = mapped_some kept.array (of_items js) y e

items_below : (j : Json) (l : Location) (js : json.Items) → Some (json.array js) ≡ exact_at j l → (i : ℕ) → exact_at j (l ++ index (i + 0) ∷ []) ≡ exact.get_item i js
items_below j l js here i =
    let e : i + 0 ≡ i = omega arith in
    ap (λ k. exact_at j (l ++ index k ∷ [])) e ∙ below_here j l (json.array js) (index i) here

-- a value that is no array and no object
pub data IsPlain (y : Data) : Type 0 where
  is_null : y ≡ kept.null → IsPlain y
  is_boolean : (b : Bool) → y ≡ kept.boolean b → IsPlain y
  is_number : (n : Num) → y ≡ kept.number n → IsPlain y
  is_string : (s : List ℕ) → y ≡ kept.string s → IsPlain y

nowhere : (j : Json) (l : Location) (y : Data) → IsPlain y → StandIn j (map (λ m. l ++ m) (single_steps every (document_of y))) []
nowhere j l y (is_null e) = rw e refl
nowhere j l y (is_boolean b e) = rw e refl
nowhere j l y (is_number n e) = rw e refl
nowhere j l y (is_string s e) = rw e refl

items_of_value : (j : Json) (l : Location) (x : Json) (y : Data) → is_no_object x ≡ true → Some x ≡ exact_at j l → of_json x ≡ Some y
    → StandIn j (map (λ m. l ++ m) (single_steps every (document_of y))) (items_in x)
items_of_value j l json.null y ok here e = nowhere j l y (is_null (sym (ap (pick y) e)))
items_of_value j l (json.boolean b) y ok here e = nowhere j l y (is_boolean b (sym (ap (pick y) e)))
items_of_value j l (json.number s) y ok here e = let n = mapped_some kept.number (number_of s) y e in nowhere j l y (is_number n.0 n.2)
items_of_value j l (json.string s) y ok here e = nowhere j l y (is_string s (sym (ap (pick y) e)))
items_of_value j l (json.array js) y ok here e =
    let ds = array_read js y e in
    rw ds.2 (items_stand j l 0 js ds.0 ds.1 (items_below j l js here))
items_of_value j l (json.object ms) y ok here e = absurd (cc)

pub items_stand_in : (j : Json) (d : Data) → of_json j ≡ Some d → (ls : List Location) (js : List Json) → list_all is_no_object js ≡ true → StandIn j ls js
    → StandIn j (step (document_of d) every ls) (flat_map items_in js)
items_stand_in j d image ls js all h =
    each_stand j (document_of d) (single_steps every) items_in is_no_object
    (λ l x ok here. let held = carried_at j d l x image here in items_of_value j l x held.0 ok here held.2 ∙ ap (map (exact_at j)) (sym (from_here (document_of d) (single_steps every) l (document_of held.0) held.1)))
    ls js all h

-- ---- where no object stands, all items are the range over all

counted : (n : ℕ) (ds : Items) → indexes_from n ds ≡ map index (count_up n (items_len ds))
counted n no_items = refl
counted n (item y ds) = ap (λ ss. index n ∷ ss) (counted (suc n) ds)

all_pass : (p : ℕ → Bool) (n k : ℕ) → ((i : ℕ) → i < n + k → p i ≡ true) → filter p (count_up n k) ≡ count_up n k
all_pass p n zero h = refl
all_pass p n (suc k) h = rw (h n (omega arith)) (ap (λ is. n ∷ is) (all_pass p (suc n) k (λ i less. h i (omega arith))))

by_one : (i : ℕ) → ((i - 0) % 1 == 0) ≡ true
by_one i = let e : (i - 0) % 1 ≡ 0 = omega arith in rw e refl

in_all : (len i : ℕ) → i < len → is_in_range 0 len 1 i ≡ true
in_all len i less = let low : 0 ≤ i = omega arith in rw (lt-ltb i len less, le-leb 0 i low) (by_one i)

range_items : (ds : Items) → single_steps every (array ds) ≡ single_steps (range None None None) (array ds)
range_items ds =
    ap (map (λ s. s ∷ [])) (counted 0 ds ∙ ap (map index) (sym (all_pass (is_in_range 0 (items_len ds) 1) 0 (items_len ds) (λ i less. in_all (items_len ds) i (omega (arith, less))))))

range_plain : (y : Data) → IsPlain y → single_steps every (document_of y) ≡ single_steps (range None None None) (document_of y)
range_plain y (is_null e) = rw e refl
range_plain y (is_boolean b e) = rw e refl
range_plain y (is_number n e) = rw e refl
range_plain y (is_string s e) = rw e refl

as_range : (x : Json) (y : Data) → is_no_object x ≡ true → of_json x ≡ Some y → single_steps every (document_of y) ≡ single_steps (range None None None) (document_of y)
as_range json.null y ok e = range_plain y (is_null (sym (ap (pick y) e)))
as_range (json.boolean b) y ok e = range_plain y (is_boolean b (sym (ap (pick y) e)))
as_range (json.number s) y ok e = let n = mapped_some kept.number (number_of s) y e in range_plain y (is_number n.0 n.2)
as_range (json.string s) y ok e = range_plain y (is_string s (sym (ap (pick y) e)))
as_range (json.array js) y ok e = let ds = array_read js y e in rw ds.2 (range_items (items_of ds.0))
as_range (json.object ms) y ok e = absurd (cc)

as_range_from : (j : Json) (d : Data) → of_json j ≡ Some d → (ls : List Location) (js : List Json) → list_all is_no_object js ≡ true → StandIn j ls js
    → step (document_of d) every ls ≡ step (document_of d) (range None None None) ls
as_range_from j d image [] [] all h = refl
as_range_from j d image [] (x ∷ js) all h = absurd (cc)
as_range_from j d image (l ∷ ls) [] all h = absurd (cc)
as_range_from j d image (l ∷ ls) (x ∷ js) all h =
    let here : Some x ≡ exact_at j l = cc in
    let later : StandIn j ls js = cc in
    let both = and_parts (is_no_object x) (list_all is_no_object js) all in
    let held = carried_at j d l x image here in
    ap₂ (λ (ms ns : List Location). ms ++ ns)
    (from_here (document_of d) (single_steps every) l (document_of held.0) held.1 ∙ ap (map (λ m. l ++ m)) (as_range x held.0 both.0 held.2) ∙ sym (from_here (document_of d) (single_steps (range None None None)) l (document_of held.0) held.1))
    (as_range_from j d image ls js both.1 later)

-- ---- candidates

flat_alone : (x : Json) (y : Data) → is_no_array x ≡ true → of_json x ≡ Some y → flat (document_of y) ≡ [] ∷ []
flat_alone json.null y ok e = rw (← ap (pick y) e) refl
flat_alone (json.boolean b) y ok e = rw (← ap (pick y) e) refl
flat_alone (json.number s) y ok e = let n = mapped_some kept.number (number_of s) y e in rw n.2 refl
flat_alone (json.string s) y ok e = rw (← ap (pick y) e) refl
flat_alone (json.array js) y ok e = absurd (cc)
flat_alone (json.object ms) y ok e = let fs = mapped_some kept.object (of_members ms kept.no_members) y e in rw fs.2 refl

flat_items_are : (n : ℕ) (js : json.Items) (ds : kept.Items) → are_no_arrays js ≡ true → of_items js ≡ Some ds → flat_items n (items_of ds) ≡ map (λ s. s ∷ []) (indexes_from n (items_of ds))
flat_items_are n json.no_items ds ok read = let none : kept.no_items ≡ ds = ap (pick ds) read in rw (← none) refl
flat_items_are n (json.item x js) ds ok read =
    let parts = item_read x js ds read in
    let both = and_parts (is_no_array x) (are_no_arrays js) ok in
    rw (parts.4) (ap₂ (λ (ms ns : List Location). ms ++ ns) (ap (map (λ l. index n ∷ l)) (flat_alone x parts.0 both.0 parts.2)) (flat_items_are (suc n) js parts.1 both.1 parts.3))

itself : (j : Json) (l : Location) (x : Json) (y : Data) → flat (document_of y) ≡ [] ∷ [] → Some x ≡ exact_at j l → StandIn j (map (λ m. l ++ m) (flat (document_of y))) (x ∷ [])
itself j l x y alone here = rw alone (ap (λ o. o ∷ []) (here ∙ ap (exact_at j) (sym (append-nil l))))

spread_value : (j : Json) (l : Location) (x : Json) (y : Data) → is_shallow x ≡ true → Some x ≡ exact_at j l → of_json x ≡ Some y
    → StandIn j (map (λ m. l ++ m) (flat (document_of y))) (spread x)
spread_value j l json.null y ok here e = itself j l json.null y (flat_alone json.null y refl e) here
spread_value j l (json.boolean b) y ok here e = itself j l (json.boolean b) y (flat_alone (json.boolean b) y refl e) here
spread_value j l (json.number s) y ok here e = itself j l (json.number s) y (flat_alone (json.number s) y refl e) here
spread_value j l (json.string s) y ok here e = itself j l (json.string s) y (flat_alone (json.string s) y refl e) here
spread_value j l (json.array js) y ok here e =
    let ds = array_read js y e in
    rw ds.2 (rw (flat_items_are 0 js ds.0 ok ds.1) (items_stand j l 0 js ds.0 ds.1 (items_below j l js here)))
spread_value j l (json.object ms) y ok here e = itself j l (json.object ms) y (flat_alone (json.object ms) y refl e) here

spread_stand_in : (j : Json) (d : Data) → of_json j ≡ Some d → (ls : List Location) (js : List Json) → list_all is_shallow js ≡ true → StandIn j ls js
    → StandIn j (from_each (document_of d) flat ls) (flat_map spread js)
spread_stand_in j d image ls js all h =
    each_stand j (document_of d) flat spread is_shallow
    (λ l x ok here. let held = carried_at j d l x image here in spread_value j l x held.0 ok here held.2 ∙ ap (map (exact_at j)) (sym (from_here (document_of d) flat l (document_of held.0) held.1)))
    ls js all h

-- ---- what a condition keeps

kept_stand : (j : Json) (p : Location → Bool) (q : Json → Bool) → ((l : Location) (x : Json) → Some x ≡ exact_at j l → p l ≡ q x)
    → (ls : List Location) (js : List Json) → StandIn j ls js → StandIn j (filter p ls) (filter q js)
kept_stand j p q same [] [] h = refl
kept_stand j p q same [] (x ∷ js) h = absurd (cc)
kept_stand j p q same (l ∷ ls) [] h = absurd (cc)
kept_stand j p q same (l ∷ ls) (x ∷ js) h =
    let here : Some x ≡ exact_at j l = cc in
    let later : StandIn j ls js = cc in
    rw (same l x here) (by_test (q x) here (kept_stand j p q same ls js later))
  where
    by_test : (b : Bool) → Some x ≡ exact_at j l → StandIn j (filter p ls) (filter q js) → StandIn j (cond b (l ∷ filter p ls) (filter p ls)) (cond b (x ∷ filter q js) (filter q js))
    by_test true here later = ap₂ (λ o os. o ∷ os) here later
    by_test false here later = later

-- ---- what conditions see

seen_alike : (x : Json) (y : Data) → of_json x ≡ Some y → seen_exact x ≡ seen (document_of y)
seen_alike json.null y e = rw (← ap (pick y) e) refl
seen_alike (json.boolean b) y e = rw (← ap (pick y) e) refl
seen_alike (json.number s) y e = let n = mapped_some kept.number (number_of s) y e in ap seen_number n.1 ∙ sym (ap (λ z. seen (document_of z)) n.2)
seen_alike (json.string s) y e = rw (← ap (pick y) e) refl
seen_alike (json.array js) y e = let ds = array_read js y e in rw ds.2 refl
seen_alike (json.object ms) y e = let fs = mapped_some kept.object (of_members ms kept.no_members) y e in rw fs.2 refl

seen_there : (j : Json) (d : Data) → of_json j ≡ Some d → (ls : List Location) (js : List Json) → StandIn j ls js → values_at (document_of d) ls ≡ map seen_exact js
seen_there j d image [] [] h = refl
seen_there j d image [] (x ∷ js) h = absurd (cc)
seen_there j d image (l ∷ ls) [] h = absurd (cc)
seen_there j d image (l ∷ ls) (x ∷ js) h =
    let here : Some x ≡ exact_at j l = cc in
    let later : StandIn j ls js = cc in
    let held = carried_at j d l x image here in
    rw held.1 (ap₂ (λ (o : Seen) (os : List Seen). o ∷ os) (sym (seen_alike x held.0 held.2)) (seen_there j d image ls js later))

some_there : (j : Json) (ls : List Location) (o : Option Json) → StandIn j ls (option_to_list o) → is_some_location ls ≡ is_some o
some_there j [] None h = refl
some_there j [] (Some x) h = absurd (cc)
some_there j (l ∷ ls) None h = absurd (cc)
some_there j (l ∷ ls) (Some x) h = refl

-- a path of one name leads from a candidate as the name does
one_name : (text : List ℕ) (d : Document) (p : tree.Path) (s : StrRange) → member_key p ≡ Some s → (c : Location) → reached text d p c ≡ step d (named (name_at text s)) (c ∷ [])
one_name text d (tree.path true steps) s e c = absurd (cc)
one_name text d (tree.path false tree.no_steps) s e c = absurd (cc)
one_name text d (tree.path false (tree.step_then true bracket inner rest)) s e c = absurd (cc)
one_name text d (tree.path false (tree.step_then false bracket (tree.filter f) rest)) s e c = absurd (cc)
one_name text d (tree.path false (tree.step_then false bracket (tree.plain t) (tree.step_then more b inner rest))) s e c = absurd (cc)
one_name text d (tree.path false (tree.step_then false bracket (tree.plain t) tree.no_steps)) s e c = ap (λ (q : Plain). step d q (c ∷ [])) (by_token t e)
  where
    by_token : (t : ParseToken) → key_of t ≡ Some s → plain_of text t ≡ named (name_at text s)
    by_token (token.Key r) e = ap (λ o. named (name_at text (pick r o))) e
    by_token _ e = absurd (cc)

module _ (text : List ℕ) (j : Json) (d : Data) (image : of_json j ≡ Some d) where
  member_stands : (p : tree.Path) (o : Option StrRange) → member_key p ≡ o → is_some o ≡ true → (c : Location) (x : Json) → Some x ≡ exact_at j c
      → StandIn j (reached text (document_of d) p c) (option_to_list (member_of text p x))
  member_stands p None e some c x here = absurd (cc)
  member_stands p (Some s) e some c x here =
      let leads = one_name text (document_of d) p s e c in
      let found : StandIn j (step (document_of d) (named (name_at text s)) (c ∷ [])) (option_to_list (exact.get (name_at text s) x) ++ []) = named_stand j d (name_at text s) image (c ∷ []) (x ∷ []) (ap (λ q. q ∷ []) here) in
      rw (leads, e) (rw (append-nil (option_to_list (exact.get (name_at text s) x))) at found)

  sides_alike : (t : tree.Term) → is_simple_term t ≡ true → (c : Location) (x : Json) → Some x ≡ exact_at j c → values text (document_of d) t c ≡ values_exact text t x
  sides_alike (tree.at_path p) ok c x here = seen_there j d image (reached text (document_of d) p c) (option_to_list (member_of text p x)) (member_stands p (member_key p) refl ok c x here)
  sides_alike (tree.literal t) ok c x here = refl

  pub decided_alike : (f : tree.Condition) → is_simple f ≡ true → (c : Location) (x : Json) → Some x ≡ exact_at j c → holds text (document_of d) f c ≡ holds_exact text f x
  decided_alike (tree.lone p) ok c x here = some_there j (reached text (document_of d) p c) (member_of text p x) (member_stands p (member_key p) refl ok c x here)
  decided_alike (tree.compare l op r) ok c x here =
      let parts = and_parts (is_simple_term l && is_simple_term r) (is_member_term l || is_member_term r) ok in
      let both = and_parts (is_simple_term l) (is_simple_term r) parts.0 in
      ap₂ (λ (xs ys : List Seen). has_pair op xs ys) (sides_alike l both.0 c x here) (sides_alike r both.1 c x here)
  decided_alike (tree.join op a b) ok c x here =
      let both = and_parts (is_simple a) (is_simple b) ok in
      ap₂ (λ (m n : Bool). joined op m n) (decided_alike a both.0 c x here) (decided_alike b both.1 c x here)

-- ---- the steps one after the other

then_walk : (w : Json → Option (List Json)) (xs ys : List Json) → walk_all w (xs ++ ys) ≡ both (walk_all w xs) (walk_all w ys)
then_walk w [] ys = sym (both_empty (walk_all w ys))
then_walk w (x ∷ xs) ys = ap (both (w x)) (then_walk w xs ys) ∙ both_assoc (w x) (walk_all w xs) (walk_all w ys)

-- a step from each value and the rest from what it gives, value by value or all at once
abbrev AtOnce : (f w : Json → Option (List Json)) → List Json → List Json → Type 0
AtOnce f w js found = (mid : List Json) × (walk_all f js ≡ Some mid) × (walk_all w mid ≡ Some found)

one_at_once : (f w : Json → Option (List Json)) (x : Json) (js xs zs ks found : List Json) → f x ≡ Some xs → walk_all w xs ≡ Some zs → AtOnce f w js ks → both (Some zs) (Some ks) ≡ Some found → AtOnce f w (x ∷ js) found
one_at_once f w x js xs zs ks found here read later e = (xs ++ later.0, rw (here, later.1) refl, then_walk w xs later.0 ∙ rw (read, later.2) e)

first_at_once : (f w : Json → Option (List Json)) (x : Json) (js xs ks found : List Json) (o : Option (List Json)) → f x ≡ Some xs → walk_all w xs ≡ o → AtOnce f w js ks → both o (Some ks) ≡ Some found → AtOnce f w (x ∷ js) found
first_at_once f w x js xs ks found None here read later e = absurd (cc)
first_at_once f w x js xs ks found (Some zs) here read later e = one_at_once f w x js xs zs ks found here read later e

each_at_once : (f w : Json → Option (List Json)) (x : Json) (js found : List Json) (o rest : Option (List Json)) → f x ≡ o → ((ks : List Json) → rest ≡ Some ks → AtOnce f w js ks)
    → both (option_and_then (walk_all w) o) rest ≡ Some found → AtOnce f w (x ∷ js) found
each_at_once f w x js found None rest here later e = absurd (cc)
each_at_once f w x js found (Some xs) None here later e = let never = sym (both_none (walk_all w xs)) ∙ e in absurd (cc)
each_at_once f w x js found (Some xs) (Some ks) here later e = first_at_once f w x js xs ks found (walk_all w xs) here refl (later ks refl) e

all_at_once : (f w : Json → Option (List Json)) (js found : List Json) → walk_all (λ x. option_and_then (walk_all w) (f x)) js ≡ Some found → AtOnce f w js found
all_at_once f w [] found e = ([], refl, e)
all_at_once f w (x ∷ js) found e = each_at_once f w x js found (f x) (walk_all (λ x. option_and_then (walk_all w) (f x)) js) refl (λ ks more. all_at_once f w js ks more) e

-- where all are asked for what f gives of those that pass
one_passed : (ok : Json → Bool) (f : Json → List Json) (x : Json) (js found : List Json) (b : Bool) (rest : Option (List Json)) → ok x ≡ b
    → ((ks : List Json) → rest ≡ Some ks → (list_all ok js ≡ true) × (ks ≡ flat_map f js)) → both (if b then Some (f x) else None) rest ≡ Some found
    → (list_all ok (x ∷ js) ≡ true) × (found ≡ f x ++ flat_map f js)
one_passed ok f x js found false rest is later e = absurd (cc)
one_passed ok f x js found true None is later e = absurd (cc)
one_passed ok f x js found true (Some ks) is later e =
    let more = later ks refl in
    (rw (is, more.0) refl, sym (ap (pick found) e) ∙ ap (λ ys. f x ++ ys) more.1)

all_passed : (ok : Json → Bool) (f : Json → List Json) (js found : List Json) → walk_all (λ x. if ok x then Some (f x) else None) js ≡ Some found → (list_all ok js ≡ true) × (found ≡ flat_map f js)
all_passed ok f [] found e = (refl, sym (ap (pick found) e))
all_passed ok f (x ∷ js) found e = one_passed ok f x js found (ok x) (walk_all (λ x. if ok x then Some (f x) else None) js) refl (λ ks more. all_passed ok f js ks more) e

one_given : (f : Json → List Json) (x : Json) (js found : List Json) (rest : Option (List Json)) → ((ks : List Json) → rest ≡ Some ks → ks ≡ flat_map f js) → both (Some (f x)) rest ≡ Some found → found ≡ f x ++ flat_map f js
one_given f x js found None later e = absurd (cc)
one_given f x js found (Some ks) later e = sym (ap (pick found) e) ∙ ap (λ ys. f x ++ ys) (later ks refl)

all_given : (f : Json → List Json) (js found : List Json) → walk_all (λ x. Some (f x)) js ≡ Some found → found ≡ flat_map f js
all_given f [] found e = sym (ap (pick found) e)
all_given f (x ∷ js) found e = one_given f x js found (walk_all (λ x. Some (f x)) js) (λ ks more. all_given f js ks more) e

all_refused : (js found : List Json) → walk_all (λ x. None) js ≡ Some found → (js ≡ []) × (found ≡ [])
all_refused [] found e = (refl, sym (ap (pick found) e))
all_refused (x ∷ js) found e = absurd (cc)

-- nothing leads from nowhere
inner_nowhere : (text : List ℕ) (d : Document) (inner : tree.Inner) (leaves : Bool) → inner_on text d inner leaves [] ≡ []
inner_nowhere text d (tree.plain t) true = refl
inner_nowhere text d (tree.plain t) false = refl
inner_nowhere text d (tree.filter f) true = by_own (has_own_step f)
  where
    by_own : (b : Bool) → filter (λ c. holds text d f c) (cond b (flattened d []) []) ≡ []
    by_own true = refl
    by_own false = refl
inner_nowhere text d (tree.filter f) false = by_own (has_own_step f)
  where
    by_own : (b : Bool) → filter (λ c. holds text d f c) (cond b (flattened d []) []) ≡ []
    by_own true = refl
    by_own false = refl

follow_nowhere : (text : List ℕ) (d : Document) (steps : tree.PathSteps) → follow text d steps [] ≡ []
follow_nowhere text d tree.no_steps = refl
follow_nowhere text d (tree.step_then leaves bracket inner rest) = ap (follow text d rest) (inner_nowhere text d inner leaves) ∙ follow_nowhere text d rest

stand_none : (j : Json) (ls : List Location) (js : List Json) → js ≡ [] → StandIn j ls js → ls ≡ []
stand_none j [] js none h = refl
stand_none j (l ∷ ls) js none h = absurd (cc)

own_path : (p : tree.Path) → is_some (member_key p) ≡ true → has_own_step_path p ≡ true
own_path (tree.path true steps) ok = absurd (cc)
own_path (tree.path false tree.no_steps) ok = absurd (cc)
own_path (tree.path false (tree.step_then leaves bracket inner rest)) ok = refl

own_term : (t : tree.Term) → is_member_term t ≡ true → has_own_step_term t ≡ true
own_term (tree.at_path p) ok = own_path p ok
own_term (tree.literal t) ok = absurd (cc)

or_true : (a : Bool) → (a || true) ≡ true
or_true true = refl
or_true false = refl

either : (a b c d : Bool) → (a ≡ true → c ≡ true) → (b ≡ true → d ≡ true) → (a || b) ≡ true → (c || d) ≡ true
either true b c d f g e = rw (f refl) refl
either false true c d f g e = rw (g refl) (or_true c)
either false false c d f g e = absurd (cc)

own_step : (f : tree.Condition) → is_simple f ≡ true → has_own_step f ≡ true
own_step (tree.lone p) ok = own_path p ok
own_step (tree.compare l op r) ok =
    let parts = and_parts (is_simple_term l && is_simple_term r) (is_member_term l || is_member_term r) ok in
    either (is_member_term l) (is_member_term r) (has_own_step_term l) (has_own_step_term r) (own_term l) (own_term r) parts.1
own_step (tree.join op a b) ok = let parts = and_parts (is_simple a) (is_simple b) ok in rw (own_step a parts.0) refl

simple_kept : (p : Json → Bool) (js : List Json) → flat_map (λ x. filter p (spread x)) js ≡ filter p (flat_map spread js)
simple_kept p [] = refl
simple_kept p (x ∷ js) = ap (λ ys. filter p (spread x) ++ ys) (simple_kept p js) ∙ sym (filter-append p (spread x) (flat_map spread js))

shallow_all : (b : Bool) (js : List Json) → list_all (λ x. b && is_shallow x) js ≡ true → list_all is_shallow js ≡ true
shallow_all b [] h = refl
shallow_all b (x ∷ js) h =
    let both = and_parts (b && is_shallow x) (list_all (λ x. b && is_shallow x) js) h in
    let here = and_parts b (is_shallow x) both.0 in
    rw (here.1) (shallow_all b js both.1)

module _ (text : List ℕ) (j : Json) (d : Data) (image : of_json j ≡ Some d) (names_stand_apart : NamesStandApart) (range_stands_apart : RangeStandsApart) (kept_stand_apart : KeptStandApart)
    (candidates_stand_apart : CandidatesStandApart) (apart_has_no_repeat : ApartHasNoRepeat) (apart_has_no_repeat_flat : ApartHasNoRepeatFlat) where
  Leads : tree.Inner → List Location → List Json → Type 0
  Leads inner ls mid = IsApart (inner_on text (document_of d) inner false ls) × StandIn j (inner_on text (document_of d) inner false ls) mid

  from_none : (inner : tree.Inner) (ls : List Location) (js mid : List Json) → js ≡ [] → mid ≡ [] → IsApart ls → StandIn j ls js → Leads inner ls mid
  unfolding Leads
  from_none inner ls js mid none nothing apart h =
      let empty = stand_none j ls js none h in
      let led : inner_on text (document_of d) inner false ls ≡ [] = ap (inner_on text (document_of d) inner false) empty ∙ inner_nowhere text (document_of d) inner false in
      (subst IsApart (empty ∙ sym led) apart, rw (led, nothing) refl)

  plain_stands : (t : ParseToken) (ls : List Location) (js mid : List Json) → IsApart ls → StandIn j ls js → walk_all (part_by text t) js ≡ Some mid → Leads (tree.plain t) ls mid
  unfolding Leads
  plain_stands (token.Key s) ls js mid apart h e =
      let found = all_given (λ x. option_to_list (exact.get (name_at text s) x)) js mid e in
      (names_stand_apart (document_of d) (name_at text s) ls (apart_has_no_repeat ls apart), rw found (named_stand j d (name_at text s) image ls js h))
  plain_stands token.All ls js mid apart h e =
      let found = all_passed is_no_object items_in js mid e in
      (subst IsApart (sym (as_range_from j d image ls js found.0 h)) (range_stands_apart (document_of d) None None None ls apart), rw found.1 (items_stand_in j d image ls js found.0 h))
  plain_stands t ls js mid apart h e = let none = all_refused js mid e in from_none (tree.plain t) ls js mid none.0 none.1 apart h

  filter_stands : (f : tree.Condition) (ls : List Location) (js mid : List Json) → is_simple f ≡ true → IsApart ls → StandIn j ls js → list_all is_shallow js ≡ true
      → mid ≡ filter (holds_exact text f) (flat_map spread js) → Leads (tree.filter f) ls mid
  unfolding Leads
  filter_stands f ls js mid ok apart h shallow is =
      let all : candidates (document_of d) f ls ≡ flattened (document_of d) ls = rw (own_step f ok) refl in
      let flat_all : flattened (document_of d) ls ≡ from_each (document_of d) flat ls = apart_has_no_repeat_flat (document_of d) ls apart in
      let passed = kept_stand j (λ c. holds text (document_of d) f c) (holds_exact text f) (λ l x here. decided_alike text j d image f ok l x here) (from_each (document_of d) flat ls) (flat_map spread js) (spread_stand_in j d image ls js shallow h) in
      (rw all (kept_stand_apart (λ c. holds text (document_of d) f c) (flattened (document_of d) ls) (candidates_stand_apart (document_of d) ls)), rw (all, flat_all, is) passed)

  step_stands : (inner : tree.Inner) (ls : List Location) (js mid : List Json) → IsApart ls → StandIn j ls js → walk_all (part text inner) js ≡ Some mid → Leads inner ls mid
  step_stands (tree.plain t) ls js mid apart h e = plain_stands t ls js mid apart h e
  step_stands (tree.filter f) ls [] mid apart h e = from_none (tree.filter f) ls [] mid refl (sym (ap (pick mid) e)) apart h
  step_stands (tree.filter f) ls (x ∷ js) mid apart h e =
      let found = all_passed (λ x. is_simple f && is_shallow x) (λ x. filter (holds_exact text f) (spread x)) (x ∷ js) mid e in
      let first = and_parts (is_simple f && is_shallow x) (list_all (λ x. is_simple f && is_shallow x) js) found.0 in
      let ok = (and_parts (is_simple f) (is_shallow x) first.0).0 in
      filter_stands f ls (x ∷ js) mid ok apart h (shallow_all (is_simple f) (x ∷ js) found.0) (found.1 ∙ simple_kept (holds_exact text f) (x ∷ js))

  pub steps_stand : (steps : tree.PathSteps) (ls : List Location) (js found : List Json) → IsApart ls → StandIn j ls js → walk_all (walk text steps) js ≡ Some found → StandIn j (follow text (document_of d) steps ls) found
  unfolding Leads
  steps_stand tree.no_steps ls js found apart h e = rw (all_given (λ x. x ∷ []) js found e ∙ singles js) h
    where
      singles : (js : List Json) → flat_map (λ x. x ∷ []) js ≡ js
      singles [] = refl
      singles (x ∷ js) = ap (λ ys. x ∷ ys) (singles js)
  steps_stand (tree.step_then true bracket inner rest) ls js found apart h e =
      let none = all_refused js found e in
      let empty = stand_none j ls js none.0 h in
      rw (none.1, empty, follow_nowhere text (document_of d) (tree.step_then true bracket inner rest)) refl
  steps_stand (tree.step_then false bracket inner rest) ls js found apart h e =
      let mid = all_at_once (part text inner) (walk text rest) js found e in
      let led = step_stands inner ls js mid.0 apart h mid.1 in
      steps_stand rest (inner_on text (document_of d) inner false ls) mid.0 found led.0 led.1 mid.2

pub stand_length : (j : Json) (ls : List Location) (js : List Json) → StandIn j ls js → length js ≡ length ls
stand_length j [] [] h = refl
stand_length j [] (x ∷ js) h = absurd (cc)
stand_length j (l ∷ ls) [] h = absurd (cc)
stand_length j (l ∷ ls) (x ∷ js) h = let later : StandIn j ls js = cc in ap suc (stand_length j ls js later)
