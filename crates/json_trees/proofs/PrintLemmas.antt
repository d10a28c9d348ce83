-- Printing, a child at a time.
use Rattle.std.proofs.Common.{codes, ◌≡◌, ℕ, suc, ◌+◌, ◌≤◌, ◌<◌, List, [], ◌∷◌, ◌++◌, ◌||◌, map, length, get_or, drop, Bool, true, false, Option, Some, None, Less, refl, sym, ap, ap₂, subst, ◌∙◌, add-one, arith}
use Rattle.std.proofs.lemmas.List.{append_assoc, at_drop_more}
use Rattle.std.proofs.lemmas.Cmp.{nat_list_cmp_total}
use Rattle.std.specs.Cmp.{nat_cmp_is}
use Rattle.std.specs.List.{AllByRecursion, join_with_byte, list_any}
use Rattle.std.specs.List.Sorted.{IsStrictlySortedBy}
use Rattle.json.specs.Json.{Json}
use Rattle.json.specs.Print.{print}
use Rattle.json.specs.Token.{Token}
use Rattle.serde_json.proofs.Texts.{print-outline}
use Rattle.serde_json.specs.Data as kept
use Rattle.serde_json.specs.Written.{has_float, items_have_float, compact_text, items_text}
use Rattle.jsonpath_nodes.specs.document.Document.{Document, array, object, Items, no_items, item, Members, no_members, member}
use Rattle.jsonpath_nodes.specs.document.OfData.{document_of, items_of, members_of}
use Rattle.jsonpath_nodes.specs.place.Location.{Step, name, index, Location, names, step_cmp}
use Rattle.jsonpath_nodes.specs.place.Order.{NamesAscend, step_total}
use Rattle.jsonpath_nodes.specs.update.Topmost.{same_step, under, elsewhere, with_answer_at_topmost, items_with_answer, members_with_answer}
use Rattle.jsonpath_nodes.specs.update.Update.{item_if, member_if}
use Rattle.json_trees.specs.AsRead.{tree_as_read, document_as_read}
use Rattle.json_trees.specs.Changed.{changed_child}
use Rattle.json_trees.specs.Prints.{data_of, items_data, members_data, is_unread, are_items_unread, are_members_unread, printed, printed_member, printed_items, printed_members, Adds, Prints, PrintsItem, PrintsMember, IsUnread, IsCompactText, IsUnreadList, IsCompactListText}
use Rattle.json_trees.specs.OrderedTree.{is_ordered}
use Rattle.json_trees.proofs.OrderedTreeLemmas.{ordered_stands}

-- ---- what is left to add

-- what was added and what is left are all, and no number in what was added is unread
pub record Left (old now rest all : List Token) (rest_unread all_unread : Bool) : Type 0 where
  pub tokens : now ++ rest ≡ old ++ all
  pub unread : rest_unread ≡ all_unread

pub added : (old now new ts rest all : List Token) (b u v : Bool) → Left old now (ts ++ rest) all (b || u) v → Adds b ts now new → Left old new rest all u v
added old now new ts rest all b u v left adds = record {
  tokens = ap (λ (xs : List Token). xs ++ rest) adds.1 ∙ append_assoc now ts rest ∙ left.tokens;
  unread = ap (λ c. c || u) (sym adds.0) ∙ left.unread;
}

-- ---- one child after another

abbrev pub ItemsLeft : List Token → List Token → Items → Items → Type 0
ItemsLeft old now left all = Left old now (printed_items left) (printed_items all) (are_items_unread left) (are_items_unread all)

abbrev pub MembersLeft : List Token → List Token → Members → Members → Type 0
MembersLeft old now left all = Left old now (printed_members left) (printed_members all) (are_members_unread left) (are_members_unread all)

item_added : (old now new : List Token) (p : Option Document) (rest all : Items) → ItemsLeft old now (item_if p rest) all → PrintsItem p now new → ItemsLeft old new rest all
item_added old now new None rest all left adds = added old now new [] (printed_items rest) (printed_items all) false (are_items_unread rest) (are_items_unread all) left adds
item_added old now new (Some d) rest all left adds = added old now new (printed d) (printed_items rest) (printed_items all) (is_unread d) (are_items_unread rest) (are_items_unread all) left adds

member_added : (old now new : List Token) (k : List ℕ) (p : Option Document) (rest all : Members) → MembersLeft old now (member_if k p rest) all → PrintsMember k p now new → MembersLeft old new rest all
member_added old now new k None rest all left adds = added old now new [] (printed_members rest) (printed_members all) false (are_members_unread rest) (are_members_unread all) left adds
member_added old now new k (Some d) rest all left adds =
    added old now new (printed_member k (Some d)) (printed_members rest) (printed_members all) (is_unread d) (are_members_unread rest) (are_members_unread all) left adds

-- the same locations go through each step behind this one
abbrev SameBehind : Step → List Location → List Location → Type 0
SameBehind s old new = (t : Step) → step_cmp s t ≡ Less → under t new ≡ under t old

same_items : (a : Option Document) (old new : List Location) (n : ℕ) (ds : Items) → ((m : ℕ) → n ≤ m → under (index m) old ≡ under (index m) new) → items_with_answer a old n ds ≡ items_with_answer a new n ds
same_items a old new n no_items same = refl
same_items a old new n (item d ds) same = grind (arith, same_items a old new (suc n) ds (λ m le. same m (omega arith)))

items_behind : (a : Option Document) (old new : List Location) (i : ℕ) (ds : Items) → SameBehind (index i) old new → items_with_answer a old (suc i) ds ≡ items_with_answer a new (i + 1) ds
items_behind a old new i ds same = rw add-one (same_items a old new (suc i) ds (λ m le. sym (same (index m) (sym (nat_cmp_is i m Less (omega arith))))))

apart : (r s t : Step) → step_cmp s t ≡ Less → same_step r s ≡ true → same_step r t ≡ false
apart r s t less same = grind (arith, nat_list_cmp_total)

under_apart : (s t : Step) (ls : List Location) → step_cmp s t ≡ Less → under t (elsewhere s ls) ≡ under t ls
under_apart s t [] less = refl
under_apart s t ([] ∷ ls) less = under_apart s t ls less
under_apart s t ((r ∷ l) ∷ ls) less = grind (arith, apart r s t less, under_apart s t ls less)

same_members : (a : Option Document) (old new : List Location) (k : List ℕ) (ms : Members) → AllByRecursion (λ t. step_cmp (name k) t ≡ Less) (names ms) → NamesAscend ms → SameBehind (name k) old new
    → members_with_answer a old ms ≡ members_with_answer a new ms
unfolding IsStrictlySortedBy
same_members a old new k no_members above ascend same = refl
same_members a old new k (member q d ms) above ascend same =
    let rest = same_members a (elsewhere (name q) old) (elsewhere (name q) new) q ms ascend.0 ascend.1 (λ t less. under_apart (name q) t new less ∙ same t (step_total.trans (name k) (name q) t above.0 less) ∙ sym (under_apart (name q) t old less)) in
    grind (arith, same (name q) above.0)

members_behind : (a : Option Document) (old new : List Location) (k : List ℕ) (d : Document) (ms : Members) → NamesAscend (member k d ms) → SameBehind (name k) old new
    → members_with_answer a (elsewhere (name k) old) ms ≡ members_with_answer a new ms
unfolding IsStrictlySortedBy
members_behind a old new k d ms ascend same = same_members a (elsewhere (name k) old) new k ms ascend.0 ascend.1 (λ t less. same t less ∙ sym (under_apart (name k) t old less))

-- the rest is left once a child is printed of which these targets are
pub items_next : (a : Option Document) (old new us : List Location) (i : ℕ) (left ds all : Items) (d : Document) (before now then : List Token) → left ≡ item d ds → us ≡ under (index i) old → SameBehind (index i) old new
    → ItemsLeft before now (items_with_answer a old i left) all → PrintsItem (changed_child a us d) now then → ItemsLeft before then (items_with_answer a new (i + 1) ds) all
items_next a old new us i left ds all d before now then is here later printed adds =
    let first = subst (λ (xs : Items). ItemsLeft before now (items_with_answer a old i xs) all) is printed in
    let child = subst (λ (vs : List Location). PrintsItem (changed_child a vs d) now then) here adds in
    subst (λ (xs : Items). ItemsLeft before then xs all) (items_behind a old new i ds later) (item_added before now then (changed_child a (under (index i) old) d) (items_with_answer a old (suc i) ds) all first child)

pub members_next : (a : Option Document) (old new us : List Location) (k : List ℕ) (left ms all : Members) (d : Document) (before now then : List Token) → NamesAscend left → left ≡ member k d ms → us ≡ under (name k) old → SameBehind (name k) old new
    → MembersLeft before now (members_with_answer a old left) all → PrintsMember k (changed_child a us d) now then → MembersLeft before then (members_with_answer a new ms) all
members_next a old new us k left ms all d before now then ascend is here later printed adds =
    let first = subst (λ (xs : Members). MembersLeft before now (members_with_answer a old xs) all) is printed in
    let child = subst (λ (vs : List Location). PrintsMember k (changed_child a vs d) now then) here adds in
    subst (λ (xs : Members). MembersLeft before then xs all) (members_behind a old new k d ms (subst NamesAscend is ascend) later)
    (member_added before now then k (changed_child a (under (name k) old) d) (members_with_answer a (elsewhere (name k) old) ms) all first child)

pub ascend_behind : (k : List ℕ) (d : Document) (left ms : Members) → NamesAscend left → left ≡ member k d ms → NamesAscend ms
unfolding IsStrictlySortedBy
ascend_behind k d left ms ascend is = (subst NamesAscend is ascend).1

-- ---- documents of data

mutual
  pub back : (d : kept.Data) → data_of (document_of d) ≡ d
  back kept.null = refl
  back (kept.boolean b) = refl
  back (kept.number n) = refl
  back (kept.string s) = refl
  back (kept.array ds) = ap kept.array (items_back ds)
  back (kept.object ms) = ap kept.object (members_back ms)

  items_back : (ds : kept.Items) → items_data (items_of ds) ≡ ds
  items_back kept.no_items = refl
  items_back (kept.item d ds) = ap₂ kept.item (back d) (items_back ds)

  members_back : (ms : kept.Members) → members_data (members_of ms) ≡ ms
  members_back kept.no_members = refl
  members_back (kept.member k d ms) = ap₂ (kept.member k) (back d) (members_back ms)

pub compact : (doc : Document) (ts : List Token) (text : List ℕ) → Adds (is_unread doc) (printed doc) [] ts → text ≡ print ts → IsCompactText doc text
compact doc ts text adds is d of =
    let same : data_of doc ≡ d = ap data_of (sym of) ∙ back d in
    (ap has_float (sym same) ∙ adds.0, is ∙ ap print adds.1 ∙ print-outline (data_of doc) ∙ ap compact_text same)

pub unread : (doc : Document) → is_unread doc ≡ true → IsUnread doc
unread doc h d of = ap has_float (sym (back d) ∙ ap data_of of) ∙ h

-- ---- lists of documents

abbrev pub items_list : List Document → Items
items_list [] = no_items
items_list (d ∷ ds) = item d (items_list ds)

-- with no targets nothing changes
mutual
  pub topmost_none : (a : Option Document) (d : Document) → with_answer_at_topmost a [] d ≡ d
  topmost_none a (array ds) = ap array (items_none a 0 ds)
  topmost_none a (object ms) = ap object (members_none a ms)
  topmost_none a _ = refl

  items_none : (a : Option Document) (n : ℕ) (ds : Items) → items_with_answer a [] n ds ≡ ds
  items_none a n no_items = refl
  items_none a n (item d ds) = ap₂ item (topmost_none a d) (items_none a (suc n) ds)

  members_none : (a : Option Document) (ms : Members) → members_with_answer a [] ms ≡ ms
  members_none a no_members = refl
  members_none a (member k d ms) = ap₂ (member k) (topmost_none a d) (members_none a ms)

-- a tree in order, in which there are no targets, is printed as it stands
pub tree_stands : (a : Option Document) (ls : List Location) (j : Json) → ls ≡ [] → is_ordered j ≡ true → tree_as_read j ≡ with_answer_at_topmost a ls (document_as_read j)
tree_stands a ls j none ordered = ap tree_as_read (ordered_stands j ordered) ∙ sym (ap (λ (ms : List Location). with_answer_at_topmost a ms (document_as_read j)) none ∙ topmost_none a (document_as_read j))

-- the rest is left once a value is printed that has no targets
pub list_next : (a : Option Document) (ls : List Location) (d : Document) (left rest all : Items) (before now then : List Token) → left ≡ item d rest → ls ≡ [] → ItemsLeft before now left all → Prints (with_answer_at_topmost a ls d) now then
    → ItemsLeft before then rest all
list_next a ls d left rest all before now then is plain printed adds =
    let same : with_answer_at_topmost a ls d ≡ d = ap (λ (ms : List Location). with_answer_at_topmost a ms d) plain ∙ topmost_none a d in
    item_added before now then (Some d) rest all (subst (λ (xs : Items). ItemsLeft before now xs all) is printed) (subst (λ (e : Document). Prints e now then) same adds)

pub list_stopped : (a : Option Document) (ls : List Location) (d : Document) (left rest all : Items) (before now : List Token) → left ≡ item d rest → ls ≡ [] → ItemsLeft before now left all → is_unread (with_answer_at_topmost a ls d) ≡ true
    → are_items_unread all ≡ true
list_stopped a ls d left rest all before now is plain printed h =
    let same : with_answer_at_topmost a ls d ≡ d = ap (λ (ms : List Location). with_answer_at_topmost a ms d) plain ∙ topmost_none a d in
    sym printed.unread ∙ ap are_items_unread is ∙ ap (λ b. b || are_items_unread rest) (ap is_unread (sym same) ∙ h)

pub list_child : {A : Type 0} (f : A → Document) (xs : List A) (i : ℕ) (x : A) → i < length xs → x ≡ get_or xs i x → items_list (map f (drop i xs)) ≡ item (f x) (items_list (map f (drop (i + 1) xs)))
list_child f xs i x h is = at_drop_more (λ ys. items_list (map f ys)) xs i x h ∙ ap (λ y. item (f y) (items_list (map f (drop (i + 1) xs)))) (sym is)

list_back : (ds : List kept.Data) → map data_of (map document_of ds) ≡ ds
list_back [] = refl
list_back (d ∷ ds) = ap₂ (λ (x : kept.Data) (xs : List kept.Data). x ∷ xs) (back d) (list_back ds)

list_unread : (docs : List Document) → items_have_float (items_data (items_list docs)) ≡ list_any has_float (map data_of docs)
list_unread [] = refl
list_unread (d ∷ ds) = ap (λ b. has_float (data_of d) || b) (list_unread ds)

list_text_behind : (docs : List Document) → (d : Document) → compact_text (data_of d) ++ items_text true (items_data (items_list docs)) ≡ join_with_byte 44 (compact_text (data_of d) ∷ map compact_text (map data_of docs)) ++ codes "]"
list_text_behind [] d = refl
list_text_behind (c ∷ cs) d = ap (λ (s : List ℕ). compact_text (data_of d) ++ 44 ∷ s) (list_text_behind cs c) ∙ sym (append_assoc (compact_text (data_of d)) _ (codes "]"))

list_text : (docs : List Document) → items_text false (items_data (items_list docs)) ≡ join_with_byte 44 (map compact_text (map data_of docs)) ++ codes "]"
list_text [] = refl
list_text (d ∷ ds) = list_text_behind ds d

pub list_compact : (docs : List Document) (now ts : List Token) (text : List ℕ) → ItemsLeft (Token.begin_array ∷ []) now no_items (items_list docs) → ts ≡ now ++ Token.end_array ∷ [] → text ≡ print ts → IsCompactListText docs text
list_compact docs now ts text left last is ds of =
    let same : map data_of docs ≡ ds = ap (map data_of) (sym of) ∙ list_back ds in (
      ap (list_any has_float) (sym same) ∙ sym (list_unread docs) ∙ sym left.unread,
      is ∙ ap print (last ∙ left.tokens) ∙ print-outline (data_of (array (items_list docs))) ∙ ap (λ (s : List ℕ). 91 ∷ s) (list_text docs)
          ∙ ap (λ (xs : List kept.Data). codes "[" ++ (join_with_byte 44 (map compact_text xs) ++ codes "]")) same,
    )

pub list_unread_there : (docs : List Document) → are_items_unread (items_list docs) ≡ true → IsUnreadList docs
list_unread_there docs h ds of = ap (list_any has_float) (sym (list_back ds) ∙ ap (map data_of) of) ∙ sym (list_unread docs) ∙ h
