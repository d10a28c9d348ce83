-- What stands at a location of the exact tree has as its image what stands there in the document of the tree's image.
use Rattle.std.proofs.Common.{◌≡◌, true≢false, ℕ, zero, suc, List, [], ◌∷◌, ◌++◌, Option, Some, None, option_map, option_and_then, Bool, true, false, cond, bytes_eq, Ordering, Less, Equal, Greater, nat_cmp, refl, sym, ap, ◌∙◌}
use Rattle.std.specs.Cmp.Lexicographic.{slice_cmp}
use Rattle.std.specs.Ordering.{match_ordering}
use Rattle.std.proofs.lemmas.Slice.Eq.{bytes_eq-Decides}
use Rattle.json.specs.Json as json
use Rattle.json.specs.Json.{Json}
use Rattle.json.specs.Find as exact
use Rattle.json.specs.Find.{later_or}
use Rattle.serde_json.specs.Data.{Data, null, boolean, number, string, array, object, Items, no_items, item, Members, no_members, member, put}
use Rattle.serde_json.specs.Find.{get, get_member, get_item, at as item_at}
use Rattle.serde_json.specs.Read.{of_json, of_items, of_members, number_of}
use Rattle.serde_json.proofs.Views.{get_member-put, get_member-put_other}
use Rattle.jsonpath_nodes.specs.document.Document.{Document}
use Rattle.jsonpath_nodes.specs.document.Find as document
use Rattle.jsonpath_nodes.specs.document.OfData.{document_of, items_of, members_of}
use Rattle.jsonpath_nodes.specs.place.Location.{Step, name, index, Location, child}
use Rattle.jsonpath_nodes.specs.place.Location as location
use Rattle.json_trees.specs.ExactAt.{exact_child, exact_at}

abbrev pub pick : {A : Type 0} → A → Option A → A
pick d None = d
pick d (Some a) = a

-- what was converted, where a whole was
pub mapped_some : {A B : Type 0} (f : A → B) (o : Option A) (b : B) → option_map f o ≡ Some b → (a : A) × (o ≡ Some a) × (b ≡ f a)
mapped_some f None b e = absurd (cc)
mapped_some f (Some a) b e = (a, refl, sym (ap (pick b) e))

pub then_some : {A B : Type 0} (f : A → Option B) (o : Option A) (b : B) → option_and_then f o ≡ Some b → (a : A) × (o ≡ Some a) × (f a ≡ Some b)
then_some f None b e = absurd (cc)
then_some f (Some a) b e = (a, refl, e)

-- ---- items

item_here : (o : Option Data) (rest : Option Items) (ds : Items) → option_and_then (λ d. option_map (item d) rest) o ≡ Some ds → Some o ≡ option_map Some (get_item 0 ds)
item_here None rest ds e = absurd (cc)
item_here (Some d) None ds e = absurd (cc)
item_here (Some d) (Some more) ds e = ap (λ x. option_map Some (get_item 0 x)) (ap (pick ds) e)

item_there : (n : ℕ) (o : Option Data) (rest : Option Items) (ds : Items) → option_and_then (λ d. option_map (item d) rest) o ≡ Some ds
    → (more : Items) × (rest ≡ Some more) × (get_item n more ≡ get_item (suc n) ds)
item_there n None rest ds e = absurd (cc)
item_there n (Some d) None ds e = absurd (cc)
item_there n (Some d) (Some more) ds e = (more, refl, ap (λ x. get_item (suc n) x) (ap (pick ds) e))

item_carries : (n : ℕ) (js : json.Items) (ds : Items) → of_items js ≡ Some ds → option_map of_json (exact.get_item n js) ≡ option_map Some (get_item n ds)
item_carries n json.no_items ds e = ap (λ x. option_map Some (get_item n x)) (ap (pick ds) e)
item_carries zero (json.item j js) ds e = item_here (of_json j) (of_items js) ds e
item_carries (suc n) (json.item j js) ds e =
    let rest = item_there n (of_json j) (of_items js) ds e in
    item_carries n js rest.0 rest.1 ∙ ap (option_map Some) rest.2

-- ---- members, of which the last of a name stays

-- the image of what the members have at a name, or what stood there before them
abbrev or_before : Option Json → Option Data → Option (Option Data)
or_before None before = option_map Some before
or_before (Some j) before = Some (of_json j)

later : (o : Option Json) (b : Bool) (j : Json) (d : Data) (before : Option Data) → of_json j ≡ Some d
    → or_before o (cond b (Some d) before) ≡ or_before (later_or o (cond b (Some j) None)) before
later None true j d before e = ap Some (sym e)
later None false j d before e = refl
later (Some k) b j d before e = refl

put_found : (b : Bool) (k q : List ℕ) (d : Data) (old : Members) → bytes_eq k q ≡ b → get_member q (put k d old) ≡ cond b (Some d) (get_member q old)
put_found true k q d old e = rw (← (bytes_eq-Decides k q).0 e) (get_member-put k d old)
put_found false k q d old e = get_member-put_other q k d old (λ same. absurd (true≢false (sym ((bytes_eq-Decides k q).1 (sym same)) ∙ e)))

members_carry : (q : List ℕ) (ms : json.Members) (old ds : Members) → of_members ms old ≡ Some ds
    → or_before (exact.get_member q ms) (get_member q old) ≡ option_map Some (get_member q ds)
members_carry q json.no_members old ds e = ap (λ m. option_map Some (get_member q m)) (ap (pick ds) e)
members_carry q (json.member k j ms) old ds e =
    let first = then_some _ (of_json j) ds e in
    let d = first.0 in
    sym (later (exact.get_member q ms) (bytes_eq k q) j d (get_member q old) first.1)
    ∙ ap (or_before (exact.get_member q ms)) (sym (put_found (bytes_eq k q) k q d old refl))
    ∙ members_carry q ms (put k d old) ds first.2

before_none : (o : Option Json) → or_before o None ≡ option_map of_json o
before_none None = refl
before_none (Some j) = refl

member_carries : (q : List ℕ) (ms : json.Members) (ds : Members) → of_members ms no_members ≡ Some ds
    → option_map of_json (exact.get_member q ms) ≡ option_map Some (get_member q ds)
member_carries q ms ds e = sym (before_none (exact.get_member q ms)) ∙ members_carry q ms no_members ds e

-- ---- one step

name_carries : (q : List ℕ) (j : Json) (d : Data) → of_json j ≡ Some d → option_map of_json (exact.get q j) ≡ option_map Some (get q d)
name_carries q json.null d e = ap (λ x. option_map Some (get q x)) (ap (pick d) e)
name_carries q (json.boolean b) d e = ap (λ x. option_map Some (get q x)) (ap (pick d) e)
name_carries q (json.number s) d e = let n = mapped_some number (number_of s) d e in ap (λ x. option_map Some (get q x)) (sym n.2)
name_carries q (json.string s) d e = ap (λ x. option_map Some (get q x)) (ap (pick d) e)
name_carries q (json.array js) d e = let ds = mapped_some array (of_items js) d e in ap (λ x. option_map Some (get q x)) (sym ds.2)
name_carries q (json.object ms) d e =
    let ds = mapped_some object (of_members ms no_members) d e in
    member_carries q ms ds.0 ds.1 ∙ ap (λ x. option_map Some (get q x)) (sym ds.2)

index_carries : (i : ℕ) (j : Json) (d : Data) → of_json j ≡ Some d → option_map of_json (exact.at i j) ≡ option_map Some (item_at i d)
index_carries i json.null d e = ap (λ x. option_map Some (item_at i x)) (ap (pick d) e)
index_carries i (json.boolean b) d e = ap (λ x. option_map Some (item_at i x)) (ap (pick d) e)
index_carries i (json.number s) d e = let n = mapped_some number (number_of s) d e in ap (λ x. option_map Some (item_at i x)) (sym n.2)
index_carries i (json.string s) d e = ap (λ x. option_map Some (item_at i x)) (ap (pick d) e)
index_carries i (json.array js) d e =
    let ds = mapped_some array (of_items js) d e in
    item_carries i js ds.0 ds.1 ∙ ap (λ x. option_map Some (item_at i x)) (sym ds.2)
index_carries i (json.object ms) d e = let ds = mapped_some object (of_members ms no_members) d e in ap (λ x. option_map Some (item_at i x)) (sym ds.2)

-- ---- what is found in data is found in their document

found : (o : Ordering) (rest : Option Data) (e : Data) (r : Option Document) → option_map document_of rest ≡ r → option_map document_of (match_ordering o rest (Some e) rest) ≡ match_ordering o r (Some (document_of e)) r
found Less rest e r h = h
found Equal rest e r h = refl
found Greater rest e r h = h

member_document : (k : List ℕ) (ms : Members) → option_map document_of (get_member k ms) ≡ document.get_member k (members_of ms)
member_document k no_members = refl
member_document k (member l e ms) = found (slice_cmp nat_cmp k l) (get_member k ms) e _ (member_document k ms)

item_document : (n : ℕ) (ds : Items) → option_map document_of (get_item n ds) ≡ document.get_item n (items_of ds)
item_document n no_items = refl
item_document zero (item d ds) = refl
item_document (suc n) (item d ds) = item_document n ds

name_document : (k : List ℕ) (d : Data) → option_map document_of (get k d) ≡ document.get k (document_of d)
name_document k null = refl
name_document k (boolean b) = refl
name_document k (number n) = refl
name_document k (string s) = refl
name_document k (array ds) = refl
name_document k (object ms) = member_document k ms

index_document : (i : ℕ) (d : Data) → option_map document_of (item_at i d) ≡ document.item_at i (document_of d)
index_document i null = refl
index_document i (boolean b) = refl
index_document i (number n) = refl
index_document i (string s) = refl
index_document i (array ds) = item_document i ds
index_document i (object ms) = refl

-- ---- one step, and any number of them, in the document of the image

-- the document of a value's image
abbrev pub document_read : Json → Option Document
document_read j = option_map document_of (of_json j)

read_here : (o : Option Json) (p : Option Data) (q : Option Document) → option_map of_json o ≡ option_map Some p → option_map document_of p ≡ q → option_map document_read o ≡ option_map Some q
read_here None None q e f = ap (option_map Some) f
read_here None (Some d) q e f = absurd (cc)
read_here (Some j) None q e f = absurd (cc)
read_here (Some j) (Some d) q e f = ap (λ o. Some (option_map document_of o)) (ap (pick (Some d)) e) ∙ ap (option_map Some) f

pub child_carries : (s : Step) (j : Json) (d : Data) → of_json j ≡ Some d → option_map document_read (exact_child s j) ≡ option_map Some (child s (document_of d))
child_carries (name q) j d e = read_here (exact.get q j) (get q d) (document.get q (document_of d)) (name_carries q j d e) (name_document q d)
child_carries (index i) j d e = read_here (exact.at i j) (item_at i d) (document.item_at i (document_of d)) (index_carries i j d e) (index_document i d)

through : (l : Location) (o : Option Json) (p : Option Document) → option_map document_read o ≡ option_map Some p
    → ((j : Json) (d : Data) → of_json j ≡ Some d → option_map document_read (exact_at j l) ≡ option_map Some (location.at (document_of d) l))
    → option_map document_read (option_and_then (λ c. exact_at c l) o) ≡ option_map Some (option_and_then (λ c. location.at c l) p)
through l None None e further = refl
through l None (Some d) e further = absurd (cc)
through l (Some j) None e further = absurd (cc)
through l (Some j) (Some d) e further =
    let read = mapped_some document_of (of_json j) d (ap (pick (Some d)) e) in
    further j read.0 read.1 ∙ ap (λ c. option_map Some (location.at c l)) (sym read.2)

-- where something stands in the tree, its image stands in the other, and nothing where nothing stands
abbrev pub ImageStandsAt : Json → Data → Location → Type 0
ImageStandsAt j d l = option_map document_read (exact_at j l) ≡ option_map Some (location.at (document_of d) l)

pub location_carries : (l : Location) (j : Json) (d : Data) → of_json j ≡ Some d → ImageStandsAt j d l
location_carries [] j d e = ap (λ o. Some (option_map document_of o)) e
location_carries (s ∷ l) j d e = through l (exact_child s j) (child s (document_of d)) (child_carries s j d e) (location_carries l)

-- ---- the last step alone

some_only : (o : Option Json) → option_and_then (λ c. Some c) o ≡ o
some_only None = refl
some_only (Some j) = refl

one_on : (o : Option Json) (s : Step) (l : Location) → ((c : Json) → exact_at c (l ++ s ∷ []) ≡ option_and_then (exact_child s) (exact_at c l))
    → option_and_then (λ c. exact_at c (l ++ s ∷ [])) o ≡ option_and_then (exact_child s) (option_and_then (λ c. exact_at c l) o)
one_on None s l further = refl
one_on (Some c) s l further = further c

pub exact_at-last : (l : Location) (s : Step) (j : Json) → exact_at j (l ++ s ∷ []) ≡ option_and_then (exact_child s) (exact_at j l)
exact_at-last [] s j = some_only (exact_child s j)
exact_at-last (t ∷ l) s j = one_on (exact_child t j) s l (exact_at-last l s)
