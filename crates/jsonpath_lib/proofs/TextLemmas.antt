-- What paths select in the document of data are documents of data; their text.
use Rattle.std.proofs.Common.{◌≡◌, ℕ, zero, suc, ◌+◌, ◌<◌, List, [], ◌∷◌, ◌++◌, map, length, take, get_or, Bool, false, true, Option, Some, None, option_and_then, filter_map, String, string_bytes, Global, Result, IfOk, IfErr, if◌then◌else◌, ◌||◌, Ordering, Less, Equal, Greater, nat_cmp, refl, sym, ap, ap₂, ◌∙◌, subst, arith}
use Rattle.std.proofs.lemmas.List.{take_more, map-append, length-map}
use Rattle.std.proofs.lemmas.List.Folds.{list_any-append}
use Rattle.std.proofs.lemmas.Result.{IfErr-weaker, IfOk-weaker}
use Rattle.std.specs.Cmp.Lexicographic.{slice_cmp}
use Rattle.std.specs.List.{list_any}
use Rattle.std.specs.Ordering.{match_ordering}
use Rattle.serde_json.specs.Data as kept
use Rattle.serde_json.specs.Written.{has_float, compact_text}
use Rattle.serde_json.specs.declared.error.Error.{Error}
use Rattle.json_trees.specs.Changed.{answer_of}
use Rattle.json_trees.specs.Prints.{IsCompactText, IsCompactListText, IsUnread, IsUnreadList}
use Rattle.json_trees.specs.declared.printing.Replacement.{Replacement}
use Rattle.json_trees.specs.declared.printing.Replacement.TheVariants.{Null, Nothing}
use Rattle.json_trees.specs.declared.printing.Unprinted.{Unprinted}
use Rattle.json_trees.specs.declared.printing.Unprinted.TheVariants.{UnreadNumber, OutOfMemory}
use Rattle.jsonpath_nodes.specs.document.Document.{Document, array, object, Items, item, Members, member}
use Rattle.jsonpath_nodes.specs.document.Find.{get_item, get_member}
use Rattle.jsonpath_nodes.specs.document.OfData.{document_of, items_of, members_of}
use Rattle.jsonpath_nodes.specs.place.Location.{Step, name, index, Location, child, at}
use Rattle.jsonpath_nodes.specs.update.Topmost.{under, elsewhere, has_root, with_answer_at_topmost, items_with_answer, members_with_answer}
use Rattle.jsonpath_nodes.specs.update.Update.{item_if, member_if}
use Rattle.jsonpath_select.specs.Meaning.{Selects, sel}
use Rattle.jsonpath_select.specs.answer.AnswerText.{list_text, document_text, IsUnreadError, IsSerdeErrorOf}
use Rattle.jsonpath_select.specs.answer.Given.{IsTextOfAnswer, IsTypedCountOf, IsTextRefusedOf, IsTypedRefusedOf}
use Rattle.jsonpath_select.specs.declared.error.JsonPathError.{JsonPathError}
use Rattle.jsonpath_select.specs.declared.error.JsonPathError.TheVariants as fault
use Rattle.jsonpath_select.specs.declared.error.JsonPathError.TheVariants.{EmptyPath, EmptyValue, Path, Serde}
use Rattle.jsonpath_lib.specs.Text.{IsTextOfChanged, IsChangedTextRefused, Replaces, IsWhyUnprinted, AreTextsOf, AreTextsRefused, AreTyped, AreTypedRefused}
use Rattle.jsonpath_lib.specs.update.Masked.{AreTargetsOfAll}

-- the document is that of some data
abbrev pub IsOfData : Document → Type 0
IsOfData x = (d : kept.Data) × (document_of d ≡ x)

member_of_data : (k : List ℕ) (ms : kept.Members) (x : Document) → get_member k (members_of ms) ≡ Some x → IsOfData x
member_of_data k kept.no_members x h = absurd (cc)
member_of_data k (kept.member l d ms) x h = by (slice_cmp nat_cmp k l) h (λ g. member_of_data k ms x g)
  where
    by : (o : Ordering) → match_ordering o (get_member k (members_of ms)) (Some (document_of d)) (get_member k (members_of ms)) ≡ Some x → (get_member k (members_of ms) ≡ Some x → IsOfData x) → IsOfData x
    by Less h later = later h
    by Equal h later = (d, cc)
    by Greater h later = later h

item_of_data : (i : ℕ) (ds : kept.Items) (x : Document) → get_item i (items_of ds) ≡ Some x → IsOfData x
item_of_data i kept.no_items x h = absurd (cc)
item_of_data zero (kept.item d ds) x h = (d, cc)
item_of_data (suc i) (kept.item d ds) x h = item_of_data i ds x h

child_of_data : (s : Step) (d : kept.Data) (x : Document) → child s (document_of d) ≡ Some x → IsOfData x
child_of_data (name k) (kept.object ms) x h = member_of_data k ms x h
child_of_data (index i) (kept.array ds) x h = item_of_data i ds x h
child_of_data (name k) kept.null x h = absurd (cc)
child_of_data (name k) (kept.boolean b) x h = absurd (cc)
child_of_data (name k) (kept.number n) x h = absurd (cc)
child_of_data (name k) (kept.string s) x h = absurd (cc)
child_of_data (name k) (kept.array ds) x h = absurd (cc)
child_of_data (index i) kept.null x h = absurd (cc)
child_of_data (index i) (kept.boolean b) x h = absurd (cc)
child_of_data (index i) (kept.number n) x h = absurd (cc)
child_of_data (index i) (kept.string s) x h = absurd (cc)
child_of_data (index i) (kept.object ms) x h = absurd (cc)

found_of_data : (l : Location) (d : kept.Data) (x : Document) → at (document_of d) l ≡ Some x → IsOfData x
found_of_data [] d x h = (d, cc)
found_of_data (s ∷ l) d x h = by (child s (document_of d)) refl h (λ e g. found_of_data l e x g)
  where
    by : (o : Option Document) → child s (document_of d) ≡ o → option_and_then (λ c. at c l) o ≡ Some x → ((e : kept.Data) → at (document_of e) l ≡ Some x → IsOfData x) → IsOfData x
    by None e h later = absurd (cc)
    by (Some c) e h later = let is = child_of_data s d c e in later is.0 (subst (λ y. at y l ≡ Some x) (sym is.1) h)

all_of_data : (ls : List Location) (d : kept.Data) → (ds : List kept.Data) × (map document_of ds ≡ filter_map (at (document_of d)) ls)
all_of_data [] d = ([], refl)
all_of_data (l ∷ ls) d = by (at (document_of d) l) refl (all_of_data ls d)
  where
    by : (o : Option Document) → at (document_of d) l ≡ o → (ds : List kept.Data) × (map document_of ds ≡ filter_map (at (document_of d)) ls) → (ds : List kept.Data) × (map document_of ds ≡ filter_map (at (document_of d)) (l ∷ ls))
    by None e rest = let same : map document_of rest.0 ≡ filter_map (at (document_of d)) (l ∷ ls) = rw e rest.1 in (rest.0, same)
    by (Some x) e rest =
        let is = found_of_data l d x e in
        let same : map document_of (is.0 ∷ rest.0) ≡ filter_map (at (document_of d)) (l ∷ ls) = rw e (ap₂ (λ (y : Document) (ys : List Document). y ∷ ys) is.1 rest.1) in (is.0 ∷ rest.0, same)

selected_of_data : (path : List ℕ) (d : kept.Data) (found : List Document) → Selects path (document_of d) found → (ds : List kept.Data) × (map document_of ds ≡ found)
selected_of_data path d found h = let ds = all_of_data (sel path (document_of d) h.path) d in (ds.0, ds.1 ∙ sym h.holds)

-- what is said of each list of data with the documents that are selected
module _ (path : List ℕ) (d : kept.Data) (found : List Document) (selected : Selects path (document_of d) found) where
  of_data : (ds : List kept.Data) × (map document_of ds ≡ found) × Selects path (document_of d) (map document_of ds)
  of_data = let ds = selected_of_data path d found selected in (ds.0, ds.1, subst (Selects path (document_of d)) (sym ds.1) selected)

  pub text_of_selected : (text : List ℕ) → IsCompactListText found text → IsTextOfAnswer (Selects path (document_of d)) text
  text_of_selected text printed =
      let ds = of_data in
      let done = printed ds.0 ds.1 in
      let known : list_any has_float ds.0 ≡ false = done.0 in
      let written : list_text ds.0 ≡ Some text = rw known (ap Some (sym done.1)) in (ds.0, ds.2, written)

  pub no_text_of_selected : (u : Unprinted) (error : JsonPathError) → IsWhyUnprinted u error → (u ≡ UnreadNumber → IsUnreadList found) → IsTextRefusedOf (Selects path (document_of d)) error
  no_text_of_selected UnreadNumber error why unread =
      let ds = of_data in
      let known : list_any has_float ds.0 ≡ true = unread refl ds.0 ds.1 in
      let unwritten : list_text ds.0 ≡ None = rw known refl in refused_list error ds.0 ds.2 unwritten why
    where
      refused_list : (e : JsonPathError) (ds : List kept.Data) → Selects path (document_of d) (map document_of ds) → list_text ds ≡ None → IsUnreadError e → IsTextRefusedOf (Selects path (document_of d)) e
      refused_list EmptyPath ds h none why = why
      refused_list EmptyValue ds h none why = why
      refused_list (Path message) ds h none why = why
      refused_list (Serde message) ds h none why = (ds, h, none, why)
      refused_list fault.OutOfMemory ds h none why = tt
  no_text_of_selected OutOfMemory error why unread = subst (IsTextRefusedOf (Selects path (document_of d))) (sym why) tt

  pub typed_of_selected : (count : ℕ) → AreTyped found count → IsTypedCountOf (Selects path (document_of d)) count
  typed_of_selected count are =
      let ds = of_data in
      let done = are ds.0 ds.1 in (ds.0, ds.2, done.1, done.0)

  pub no_typed_of_selected : (error : JsonPathError) → AreTypedRefused found error → IsTypedRefusedOf (Selects path (document_of d)) error
  no_typed_of_selected EmptyPath why = why
  no_typed_of_selected EmptyValue why = why
  no_typed_of_selected (Path message) why = why
  no_typed_of_selected (Serde message) why = let ds = of_data in (ds.0, ds.2, λ h. why ds.0 ds.1 h)
  no_typed_of_selected fault.OutOfMemory why = tt

-- ---- typed values are made of texts

module _ (docs : List Document) where
  pub typed_by_texts : (texts : List (List ℕ)) (count : ℕ) → AreTextsOf docs texts → count ≡ length texts → AreTyped docs count
  typed_by_texts texts count are each values same =
      let done = are values same in
      let as_many : length (map compact_text values) ≡ length values = simp length-map in (done.0, each ∙ ap length done.1 ∙ as_many)

  pub unread_typed : (error : JsonPathError) → AreTextsRefused docs error → AreTypedRefused docs error
  unread_typed EmptyPath why = why
  unread_typed EmptyValue why = why
  unread_typed (Path message) why = why
  unread_typed (Serde message) why = λ values same h. why.1
  unread_typed fault.OutOfMemory why = tt

  pub untyped : (texts : List (List ℕ)) (given : Error) (error : JsonPathError) → AreTextsOf docs texts → IsSerdeErrorOf given error → AreTypedRefused docs error
  untyped texts given EmptyPath are why = why
  untyped texts given EmptyValue are why = why
  untyped texts given (Path message) are why = why
  untyped texts given (Serde message) are why = λ values same h. absurd (known (are values same).0 h)
    where
      known : {b : Bool} → b ≡ false → b ≡ true → ⊥
      known e h = cc
  untyped texts given fault.OutOfMemory are why = tt

-- ---- one text more for each value

pub no_text_yet : (texts : List (List ℕ)) → texts ≡ [] → AreTextsOf [] texts
no_text_yet texts none [] same = (refl, none)
no_text_yet texts none (v ∷ values) same = absurd (cc)

record EndsWith (values : List kept.Data) (docs : List Document) (doc : Document) : Type 0 where
  pub front : List kept.Data
  pub last : kept.Data
  pub whole : values ≡ front ++ last ∷ []
  pub before : map document_of front ≡ docs
  pub here : document_of last ≡ doc

ends_with : (values : List kept.Data) (docs : List Document) (doc : Document) → map document_of values ≡ docs ++ doc ∷ [] → EndsWith values docs doc
ends_with [] [] doc e = cc
ends_with [] (x ∷ docs) doc e = cc
ends_with (v ∷ []) [] doc e = record { front = []; last = v; whole = refl; before = refl; here = cc }
ends_with (v ∷ w ∷ values) [] doc e = cc
ends_with (v ∷ values) (x ∷ docs) doc e =
    let rest = ends_with values docs doc (cc) in
    record { front = v ∷ rest.front; last = rest.last; whole = ap (λ xs. v ∷ xs) rest.whole; before = ap₂ (λ (y : Document) (ys : List Document). y ∷ ys) (cc) rest.before; here = rest.here }

or_true : (b : Bool) → (b || true) ≡ true
or_true true = refl
or_true false = refl

module _ {A : Type 0} (f : A → Document) where
  pub one_text_more : (xs : List A) (before after : List (List ℕ)) (i : ℕ) (x : A) (text : List ℕ) → i < length xs → x ≡ get_or xs i x → IsCompactText (f x) text → after ≡ before ++ text ∷ []
      → AreTextsOf (map f (take i xs)) before → AreTextsOf (map f (take (i + 1) xs)) after
  one_text_more xs before after i x text within is printed more held values same =
      let taken : map f (take (i + 1) xs) ≡ map f (take i xs) ++ f x ∷ [] = ap (map f) (take_more xs i x within ∙ ap (λ y. take i xs ++ y ∷ []) (sym is)) ∙ map-append f (take i xs) (x ∷ []) in
      let ends = ends_with values (map f (take i xs)) (f x) (same ∙ taken) in
      let front = held ends.front ends.before in
      let last = printed ends.last ends.here in
      let known : list_any has_float values ≡ false = ap (list_any has_float) ends.whole ∙ list_any-append has_float ends.front (ends.last ∷ []) ∙ ap₂ (λ a b. a || (b || false)) front.0 last.0 in
      let texts : after ≡ map compact_text values =
      more ∙ ap₂ (λ (ts : List (List ℕ)) (t : List ℕ). ts ++ t ∷ []) front.1 last.1 ∙ sym (ap (map compact_text) ends.whole ∙ map-append compact_text ends.front (ends.last ∷ [])) in (known, texts)

  unread_among : (xs : List A) (i : ℕ) (x : A) → i < length xs → x ≡ get_or xs i x → IsUnread (f x) → (values : List kept.Data) → map document_of values ≡ map f xs → list_any has_float values ≡ true
  unread_among [] i x within is unread values same = absurd (omega (arith, within))
  unread_among (y ∷ xs) i x within is unread [] same = cc
  unread_among (y ∷ xs) zero x within is unread (v ∷ values) same =
      let here : document_of v ≡ f x = cc in
      ap (λ b. b || list_any has_float values) (unread v here)
  unread_among (y ∷ xs) (suc i) x within is unread (v ∷ values) same =
      let rest : map document_of values ≡ map f xs = cc in
      ap (λ b. has_float v || b) (unread_among xs i x (omega (arith, within)) is unread values rest) ∙ or_true (has_float v)

  pub no_texts : (xs : List A) (i : ℕ) (x : A) (u : Unprinted) (error : JsonPathError) → i < length xs → x ≡ get_or xs i x → IsWhyUnprinted u error → (u ≡ UnreadNumber → IsUnread (f x)) → AreTextsRefused (map f xs) error
  no_texts xs i x UnreadNumber error within is why unread = refused_texts error (unread_among xs i x within is (unread refl)) why
    where
      refused_texts : (e : JsonPathError) → ((values : List kept.Data) → map document_of values ≡ map f xs → list_any has_float values ≡ true) → IsUnreadError e → AreTextsRefused (map f xs) e
      refused_texts EmptyPath all why = why
      refused_texts EmptyValue all why = why
      refused_texts (Path message) all why = why
      refused_texts (Serde message) all why = (all, why)
      refused_texts fault.OutOfMemory all why = tt
  no_texts xs i x OutOfMemory error within is why unread = subst (AreTextsRefused (map f xs)) (sym why) tt

-- ---- what changes make of the document of data is that of data, too

abbrev AreOfData : Items → Type 0
AreOfData xs = (ds : kept.Items) × (items_of ds ≡ xs)

abbrev HoldData : Members → Type 0
HoldData xs = (ms : kept.Members) × (members_of ms ≡ xs)

item_if_of_data : (o : Option Document) (rest : Items) → ((x : Document) → o ≡ Some x → IsOfData x) → AreOfData rest → AreOfData (item_if o rest)
item_if_of_data None rest is more = more
item_if_of_data (Some x) rest is more = let here = is x refl in (kept.item here.0 more.0, ap₂ item here.1 more.1)

member_if_of_data : (k : List ℕ) (o : Option Document) (rest : Members) → ((x : Document) → o ≡ Some x → IsOfData x) → HoldData rest → HoldData (member_if k o rest)
member_if_of_data k None rest is more = more
member_if_of_data k (Some x) rest is more = let here = is x refl in (kept.member k here.0 more.0, ap₂ (member k) here.1 more.1)

module _ (a : Option Document) (is : (x : Document) → a ≡ Some x → IsOfData x) where
  chosen_of_data : (b : Bool) (y x : Document) → IsOfData y → (if b then a else Some y) ≡ Some x → IsOfData x
  chosen_of_data true y x here h = is x h
  chosen_of_data false y x here h = (here.0, here.1 ∙ cc)

  mutual
    pub answered_of_data : (ls : List Location) (d : kept.Data) → IsOfData (with_answer_at_topmost a ls (document_of d))
    answered_of_data ls kept.null = (kept.null, refl)
    answered_of_data ls (kept.boolean b) = (kept.boolean b, refl)
    answered_of_data ls (kept.number n) = (kept.number n, refl)
    answered_of_data ls (kept.string s) = (kept.string s, refl)
    answered_of_data ls (kept.array ds) = let made = items_answered ls 0 ds in (kept.array made.0, ap array made.1)
    answered_of_data ls (kept.object ms) = let made = members_answered ls ms in (kept.object made.0, ap object made.1)

    items_answered : (ls : List Location) (i : ℕ) (ds : kept.Items) → AreOfData (items_with_answer a ls i (items_of ds))
    items_answered ls i kept.no_items = (kept.no_items, refl)
    items_answered ls i (kept.item d ds) =
        item_if_of_data _ _ (λ x h. chosen_of_data (has_root (under (index i) ls)) _ x (answered_of_data (under (index i) ls) d) h) (items_answered ls (suc i) ds)

    members_answered : (ls : List Location) (ms : kept.Members) → HoldData (members_with_answer a ls (members_of ms))
    members_answered ls kept.no_members = (kept.no_members, refl)
    members_answered ls (kept.member k d ms) =
        member_if_of_data k _ _ (λ x h. chosen_of_data (has_root (under (name k) ls)) _ x (answered_of_data (under (name k) ls) d) h) (members_answered (elsewhere (name k) ls) ms)

answer_of_data : (r : Replacement) (x : Document) → answer_of r ≡ Some x → IsOfData x
answer_of_data Null x h = (kept.null, cc)
answer_of_data Nothing x h = absurd (cc)

replaces : (r : Replacement) (paths : List (List ℕ)) (before after : Document) (ls : List Location) → AreTargetsOfAll paths before ls → after ≡ with_answer_at_topmost (answer_of r) ls before → Replaces r paths before after
replaces Null paths before after ls targets h = record { locations = ls; targets = targets; changed = h }
replaces Nothing paths before after ls targets h = record { locations = ls; targets = targets; changed = h }

refused_change : (Makes : Document → Type 0) (error : JsonPathError) (after : kept.Data) → Makes (document_of after) → document_text after ≡ None → IsUnreadError error → IsChangedTextRefused Makes error
refused_change Makes EmptyPath after made none why = why
refused_change Makes EmptyValue after made none why = why
refused_change Makes (Path message) after made none why = why
refused_change Makes (Serde message) after made none why = (after, made, none, why)
refused_change Makes fault.OutOfMemory after made none why = tt

module _ (r : Replacement) (paths : List (List ℕ)) (doc : Document) (d : kept.Data) (ls : List Location) (same : doc ≡ document_of d) (targets : AreTargetsOfAll paths doc ls) where
  changed_to : (after : kept.Data) × (document_of after ≡ with_answer_at_topmost (answer_of r) ls doc) × Replaces r paths (document_of d) (document_of after)
  changed_to =
      let after = answered_of_data (answer_of r) (answer_of_data r) ls d in
      let here = subst (λ x. AreTargetsOfAll paths x ls) same targets in (
        after.0,
        after.1 ∙ ap (with_answer_at_topmost (answer_of r) ls) (sym same),
        replaces r paths (document_of d) (document_of after.0) ls here after.1,
      )

  pub text_of_changed : (text : List ℕ) → IsCompactText (with_answer_at_topmost (answer_of r) ls doc) text → IsTextOfChanged (Replaces r paths (document_of d)) text
  text_of_changed text printed =
      let after = changed_to in
      let done = printed after.0 after.1 in
      let known : has_float after.0 ≡ false = done.0 in
      let written : document_text after.0 ≡ Some text = rw known (ap Some (sym done.1)) in (after.0, after.2, written)

  pub no_text_of_changed : (u : Unprinted) (error : JsonPathError) → IsWhyUnprinted u error → (u ≡ UnreadNumber → IsUnread (with_answer_at_topmost (answer_of r) ls doc)) → IsChangedTextRefused (Replaces r paths (document_of d)) error
  no_text_of_changed UnreadNumber error why unread =
      let after = changed_to in
      let known : has_float after.0 ≡ true = unread refl after.0 after.1 in
      let unwritten : document_text after.0 ≡ None = rw known refl in refused_change (Replaces r paths (document_of d)) error after.0 after.2 unwritten why
  no_text_of_changed OutOfMemory error why unread = subst (IsChangedTextRefused (Replaces r paths (document_of d))) (sym why) tt

-- ---- what is told of the targets of any paths holds for these paths

module _ (IsTree : kept.Data → Type 0) (r : Replacement) (paths : List (List ℕ)) (doc : Document) (ls : List Location) (read : (d : kept.Data) → IsTree d → doc ≡ document_of d) (targets : AreTargetsOfAll paths doc ls) (result : Result (String Global) JsonPathError) where
  pub text_for_paths : IfOk result (λ text. (d : kept.Data) (all : List (List ℕ)) → doc ≡ document_of d → AreTargetsOfAll all doc ls → IsTextOfChanged (Replaces r all (document_of d)) (string_bytes text))
      → IfOk result (λ text. (d : kept.Data) → IsTree d → IsTextOfChanged (Replaces r paths (document_of d)) (string_bytes text))
  text_for_paths =
      IfOk-weaker result (λ text. (d : kept.Data) (all : List (List ℕ)) → doc ≡ document_of d → AreTargetsOfAll all doc ls → IsTextOfChanged (Replaces r all (document_of d)) (string_bytes text))
      (λ text. (d : kept.Data) → IsTree d → IsTextOfChanged (Replaces r paths (document_of d)) (string_bytes text)) (λ text told d tree. told d paths (read d tree) targets)

  pub refusal_for_paths : IfErr result (λ e. (d : kept.Data) (all : List (List ℕ)) → doc ≡ document_of d → AreTargetsOfAll all doc ls → IsChangedTextRefused (Replaces r all (document_of d)) e)
      → IfErr result (λ e. (d : kept.Data) → IsTree d → IsChangedTextRefused (Replaces r paths (document_of d)) e)
  refusal_for_paths =
      IfErr-weaker result (λ e. (d : kept.Data) (all : List (List ℕ)) → doc ≡ document_of d → AreTargetsOfAll all doc ls → IsChangedTextRefused (Replaces r all (document_of d)) e)
      (λ e. (d : kept.Data) → IsTree d → IsChangedTextRefused (Replaces r paths (document_of d)) e) (λ e told d tree. told d paths (read d tree) targets)
