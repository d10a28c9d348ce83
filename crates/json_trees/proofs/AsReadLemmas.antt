-- Documents as `serde_json` reads their numbers: what is found in them, and the data that they are of.
use Rattle.std.proofs.Common.{◌≡◌, ℕ, zero, suc, List, ◌∷◌, Option, Some, None, option_map, option_and_then, true, Ordering, Less, Equal, Greater, nat_cmp, refl, sym, ap, ap₂, ◌∙◌, subst}
use Rattle.std.specs.Cmp.Lexicographic.{slice_cmp}
use Rattle.std.specs.List.Sorted.{IsStrictlySortedBy}
use Rattle.std.specs.Ordering.{match_ordering}
use Rattle.json.specs.Json as json
use Rattle.serde_json.specs.Data as kept
use Rattle.serde_json.specs.Find.{is_float}
use Rattle.serde_json.specs.Read.{number_of, of_json, of_items, of_members}
use Rattle.jsonpath_nodes.specs.compare.Comparisons.{seen_number, unread}
use Rattle.jsonpath_nodes.specs.document.Document.{read, written, Document, null, boolean, number, string, array, object, Items, no_items, item, Members, no_members, member}
use Rattle.jsonpath_nodes.specs.document.Find.{items_len, get_item, get_member}
use Rattle.jsonpath_nodes.specs.document.OfData.{document_of, items_of, members_of}
use Rattle.jsonpath_nodes.specs.place.Location.{Step, name, names, step_cmp}
use Rattle.jsonpath_nodes.specs.place.Order.{NamesAscend}
use Rattle.json_trees.specs.Numbers.{IsUnreadNumber}
use Rattle.json_trees.specs.AsRead.{read_or_refused, number_as_read, as_read, items_as_read, members_as_read, document_as_read}
use Rattle.json_trees.specs.OrderedTree.{document_of_tree, items_of_tree, members_of_tree, put_in_order, in_order, items_in_order, members_in_order}

-- ---- what is found

pub items_counted_as_read : (ds : Items) → items_len (items_as_read ds) ≡ items_len ds
items_counted_as_read no_items = refl
items_counted_as_read (item d ds) = ap suc (items_counted_as_read ds)

pub item_as_read : (i : ℕ) (ds : Items) → get_item i (items_as_read ds) ≡ option_map as_read (get_item i ds)
item_as_read i no_items = refl
item_as_read zero (item d ds) = refl
item_as_read (suc i) (item d ds) = item_as_read i ds

chosen_as_read : (o : Ordering) (a b c : Option Document) → match_ordering o (option_map as_read a) (option_map as_read b) (option_map as_read c) ≡ option_map as_read (match_ordering o a b c)
chosen_as_read Less a b c = refl
chosen_as_read Equal a b c = refl
chosen_as_read Greater a b c = refl

pub member_as_read : (k : List ℕ) (ms : Members) → get_member k (members_as_read ms) ≡ option_map as_read (get_member k ms)
member_as_read k no_members = refl
member_as_read k (member l d ms) =
    ap (λ o. match_ordering (slice_cmp nat_cmp k l) o (Some (as_read d)) o) (member_as_read k ms) ∙ chosen_as_read (slice_cmp nat_cmp k l) (get_member k ms) (Some d) (get_member k ms)

names_as_read : (ms : Members) → names (members_as_read ms) ≡ names ms
names_as_read no_members = refl
names_as_read (member k d ms) = ap (λ (ss : List Step). name k ∷ ss) (names_as_read ms)

pub ascend_as_read : (ms : Members) → NamesAscend ms → NamesAscend (members_as_read ms)
ascend_as_read ms h = subst (IsStrictlySortedBy step_cmp) (sym (names_as_read ms)) h

-- ---- what a comparison sees of a number

unread_float : (n : kept.Num) → is_float n ≡ true → seen_number (read n) ≡ unread
unread_float (kept.unsigned n) h = absurd (cc)
unread_float (kept.negative z) h = absurd (cc)
unread_float (kept.float x) h = refl

pub unread_number_seen : (s : List ℕ) → IsUnreadNumber s → seen_number (number_as_read (written s)) ≡ unread
unread_number_seen s h = by (number_of s) (λ n e. h n e)
  where
    by : (o : Option kept.Num) → ((n : kept.Num) → o ≡ Some n → is_float n ≡ true) → seen_number (read_or_refused s o) ≡ unread
    by None h = refl
    by (Some n) h = unread_float n (h n refl)

pub whole_number_seen : (s : List ℕ) (n : kept.Num) → number_of s ≡ Some n → seen_number (number_as_read (written s)) ≡ seen_number (read n)
whole_number_seen s n e = ap (λ o. seen_number (read_or_refused s o)) e

-- ---- the data that a tree stands for

-- the members, with d at k
abbrev put : List ℕ → Document → Members → Members
put k d no_members = member k d no_members
put k d (member l e ms) = match_ordering (slice_cmp nat_cmp k l) (member k d (member l e ms)) (member l d ms) (member l e (put k d ms))

chosen_data : (o : Ordering) (a b c : kept.Members) → members_of (match_ordering o a b c) ≡ match_ordering o (members_of a) (members_of b) (members_of c)
chosen_data Less a b c = refl
chosen_data Equal a b c = refl
chosen_data Greater a b c = refl

put_data : (k : List ℕ) (d : kept.Data) (ms : kept.Members) → members_of (kept.put k d ms) ≡ put k (document_of d) (members_of ms)
put_data k d kept.no_members = refl
put_data k d (kept.member l e ms) =
    chosen_data (slice_cmp nat_cmp k l) _ _ _
    ∙ ap (λ r. match_ordering (slice_cmp nat_cmp k l) (member k (document_of d) (member l (document_of e) (members_of ms))) (member l (document_of d) (members_of ms)) (member l (document_of e) r)) (put_data k d ms)

abbrev members_read : json.Members → Members
members_read ms = members_as_read (members_of_tree ms)

chosen_tree : (o : Ordering) (a b c : json.Members) → members_read (match_ordering o a b c) ≡ match_ordering o (members_read a) (members_read b) (members_read c)
chosen_tree Less a b c = refl
chosen_tree Equal a b c = refl
chosen_tree Greater a b c = refl

put_tree : (k : List ℕ) (j : json.Json) (ms : json.Members) → members_read (put_in_order k j ms) ≡ put k (as_read (document_of_tree j)) (members_read ms)
put_tree k j json.no_members = refl
put_tree k j (json.member l i ms) =
    chosen_tree (slice_cmp nat_cmp k l) _ _ _
    ∙ ap (λ r. match_ordering (slice_cmp nat_cmp k l) (member k (as_read (document_of_tree j)) (member l (as_read (document_of_tree i)) (members_read ms))) (member l (as_read (document_of_tree j)) (members_read ms)) (member l (as_read (document_of_tree i)) r)) (put_tree k j ms)

number_stands : (s : List ℕ) (o : Option kept.Num) (d : kept.Data) → option_map kept.number o ≡ Some d → number (read_or_refused s o) ≡ document_of d
number_stands s None d e = absurd (cc)
number_stands s (Some n) d e = let is : kept.number n ≡ d = cc in ap document_of is

array_stands : (js : json.Items) (o : Option kept.Items) (d : kept.Data) → ((ds : kept.Items) → o ≡ Some ds → items_as_read (items_of_tree (items_in_order js)) ≡ items_of ds) → option_map kept.array o ≡ Some d
    → array (items_as_read (items_of_tree (items_in_order js))) ≡ document_of d
array_stands js None d each e = absurd (cc)
array_stands js (Some ds) d each e = let is : kept.array ds ≡ d = cc in ap array (each ds refl) ∙ ap document_of is

object_stands : (ms : json.Members) (o : Option kept.Members) (d : kept.Data) → ((ds : kept.Members) → o ≡ Some ds → members_read (members_in_order ms json.no_members) ≡ members_of ds) → option_map kept.object o ≡ Some d
    → object (members_read (members_in_order ms json.no_members)) ≡ document_of d
object_stands ms None d each e = absurd (cc)
object_stands ms (Some ds) d each e = let is : kept.object ds ≡ d = cc in ap object (each ds refl) ∙ ap document_of is

item_stands : (j : json.Json) (js : json.Items) (o : Option kept.Data) (p : Option kept.Items) (ds : kept.Items) → ((d : kept.Data) → o ≡ Some d → document_as_read j ≡ document_of d)
    → ((es : kept.Items) → p ≡ Some es → items_as_read (items_of_tree (items_in_order js)) ≡ items_of es) → option_and_then (λ d. option_map (kept.item d) p) o ≡ Some ds
    → item (document_as_read j) (items_as_read (items_of_tree (items_in_order js))) ≡ items_of ds
item_stands j js None p ds one rest e = absurd (cc)
item_stands j js (Some d) None ds one rest e = absurd (cc)
item_stands j js (Some d) (Some es) ds one rest e = let is : kept.item d es ≡ ds = cc in ap₂ item (one d refl) (rest es refl) ∙ ap items_of is

member_stands : (k : List ℕ) (j : json.Json) (ms found : json.Members) (before ds : kept.Members) (o : Option kept.Data) → ((d : kept.Data) → o ≡ Some d → document_as_read j ≡ document_of d)
    → ((now : kept.Members) → members_read (put_in_order k (in_order j) found) ≡ members_of now → of_members ms now ≡ Some ds → members_read (members_in_order ms (put_in_order k (in_order j) found)) ≡ members_of ds)
    → members_read found ≡ members_of before → option_and_then (λ d. of_members ms (kept.put k d before)) o ≡ Some ds
    → members_read (members_in_order ms (put_in_order k (in_order j) found)) ≡ members_of ds
member_stands k j ms found before ds None one rest h e = absurd (cc)
member_stands k j ms found before ds (Some d) one rest h e =
    rest (kept.put k d before) (put_tree k (in_order j) found ∙ ap₂ (put k) (one d refl) h ∙ sym (put_data k d before)) e

mutual
  pub stands_for_data : (j : json.Json) (d : kept.Data) → of_json j ≡ Some d → document_as_read j ≡ document_of d
  stands_for_data json.null d e = let is : kept.null ≡ d = cc in ap document_of is
  stands_for_data (json.boolean b) d e = let is : kept.boolean b ≡ d = cc in ap document_of is
  stands_for_data (json.number s) d e = number_stands s (number_of s) d e
  stands_for_data (json.string s) d e = let is : kept.string s ≡ d = cc in ap document_of is
  stands_for_data (json.array js) d e = array_stands js (of_items js) d (λ ds h. items_stand js ds h) e
  stands_for_data (json.object ms) d e = object_stands ms (of_members ms kept.no_members) d (λ ds h. members_stand ms json.no_members kept.no_members ds refl h) e

  items_stand : (js : json.Items) (ds : kept.Items) → of_items js ≡ Some ds → items_as_read (items_of_tree (items_in_order js)) ≡ items_of ds
  items_stand json.no_items ds e = let is : kept.no_items ≡ ds = cc in ap items_of is
  items_stand (json.item j js) ds e = item_stands j js (of_json j) (of_items js) ds (λ d h. stands_for_data j d h) (λ es h. items_stand js es h) e

  members_stand : (ms found : json.Members) (before ds : kept.Members) → members_read found ≡ members_of before → of_members ms before ≡ Some ds → members_read (members_in_order ms found) ≡ members_of ds
  members_stand json.no_members found before ds h e = let is : before ≡ ds = cc in h ∙ ap members_of is
  members_stand (json.member k j ms) found before ds h e =
      member_stands k j ms found before ds (of_json j) (λ d g. stands_for_data j d g) (λ now g f. members_stand ms (put_in_order k (in_order j) found) now ds g f) h e
