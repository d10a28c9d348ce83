-- A member that is taken away from a document is gone.
use Rattle.std.proofs.Common.{◌≡◌, ℕ, List, [], ◌∷◌, Option, Some, None, Ordering, Less, Equal, Greater, nat_cmp, refl, ap, ◌∙◌, option_and_then}
use Rattle.std.specs.Cmp.Lexicographic.{slice_cmp}
use Rattle.std.specs.List.{AllByRecursion}
use Rattle.std.specs.List.Sorted.{IsStrictlySortedBy}
use Rattle.std.specs.Ordering.{match_ordering}
use Rattle.std.proofs.lemmas.Cmp.{nat_list_cmp_total}
use Rattle.jsonpath_nodes.specs.document.Document.{Document, null, boolean, number, string, array, object, Members, no_members, member}
use Rattle.jsonpath_nodes.specs.document.Find.{get_member}
use Rattle.jsonpath_nodes.specs.place.Location.{name, child, names, step_cmp, at}
use Rattle.jsonpath_nodes.specs.place.Order.{IsOrderedDocument}
use Rattle.jsonpath_nodes.specs.update.Update.{edit_member, edit, update}

abbrev none : Document → Option Document
none c = None

-- no name behind one that is equal
no_later : (k l : List ℕ) (ms : Members) → slice_cmp nat_cmp k l ≡ Equal → AllByRecursion (λ n. step_cmp (name l) n ≡ Less) (names ms) → get_member k ms ≡ None
no_later k l no_members e h = refl
no_later k l (member q d ms) e h = let less : slice_cmp nat_cmp k q ≡ Less = nat_list_cmp_total.congr k l q e ∙ h.0 in rw less (no_later k l ms e h.1)

gone_at : (o : Ordering) (k l : List ℕ) (d : Document) (ms : Members) → slice_cmp nat_cmp k l ≡ o → AllByRecursion (λ n. step_cmp (name l) n ≡ Less) (names ms) → get_member k (edit_member none k ms) ≡ None
    → get_member k (match_ordering o (member l d (edit_member none k ms)) ms (member l d (edit_member none k ms))) ≡ None
gone_at Less k l d ms e above later = rw e later
gone_at Equal k l d ms e above later = no_later k l ms e above
gone_at Greater k l d ms e above later = rw e later

gone : (k : List ℕ) (ms : Members) → IsStrictlySortedBy step_cmp (names ms) → get_member k (edit_member none k ms) ≡ None
unfolding IsStrictlySortedBy
gone k no_members h = refl
gone k (member l d ms) h = gone_at (slice_cmp nat_cmp k l) k l d ms refl h.0 (gone k ms h.1)

gone_child : (k : List ℕ) (d : Document) → IsOrderedDocument d → child (name k) (edit none (name k) d) ≡ None
gone_child k null h = refl
gone_child k (boolean b) h = refl
gone_child k (number n) h = refl
gone_child k (string s) h = refl
gone_child k (array ds) h = refl
gone_child k (object ms) h = gone k ms h.0

pub taken_member : (k : List ℕ) (doc : Document) → IsOrderedDocument doc → at (update (name k ∷ []) None doc) (name k ∷ []) ≡ None
taken_member k doc h = ap (option_and_then (λ c. Some c)) (gone_child k doc h)
