-- At each topmost location that leads somewhere stands what was put.
use Rattle.std.proofs.Common.{◌≡◌, ℕ, zero, suc, ◌+◌, List, [], ◌∷◌, Option, Some, option_and_then, Bool, false, Ordering, Equal, nat_cmp, is_eq, cond, refl, sym, ap, ◌∙◌, arith}
use Rattle.std.proofs.lemmas.Map.Text.{is_eq-slice_cmp}
use Rattle.std.proofs.lemmas.Slice.Eq.{bytes_eq-Decides}
use Rattle.std.specs.Cmp.Lexicographic.{slice_cmp}
use Rattle.std.specs.Ordering.{match_ordering}
use Rattle.jsonpath_nodes.specs.document.Document.{Document, null, Items, no_items, item, Members, no_members, member}
use Rattle.jsonpath_nodes.specs.document.Find.{get_item, get_member}
use Rattle.jsonpath_nodes.specs.place.Location.{Step, name, index, Location, child}
use Rattle.jsonpath_nodes.proofs.place.ThereLemmas.{there}
use Rattle.jsonpath_nodes.specs.update.Update.{member_if}
use Rattle.jsonpath_nodes.specs.update.Topmost.{under, elsewhere, has_root, with_answer_at_topmost, items_with_answer, members_with_answer, nulled, IsTopmost}
use Rattle.jsonpath_nodes.proofs.update.ClearLemmas.{under_elsewhere}
use Rattle.jsonpath_nodes.proofs.update.TopmostLemmas.{piece}

item_kept : (x : Document) (ls : List Location) (n j i : ℕ) (ds : Items) (c : Document) → i ≡ n + j → get_item j ds ≡ Some c
    → get_item j (items_with_answer (Some x) ls n ds) ≡ piece (Some x) (under (index i) ls) c
item_kept x ls n j i no_items c e h = absurd (cc)
item_kept x ls n zero i (item d ds) c e h = grind arith
item_kept x ls n (suc j) i (item d ds) c e h = grind (arith, item_kept x ls (suc n) j i ds c (omega arith) h)

member_kept_at : (o : Ordering) (b : Bool) (x y : Document) (k q : List ℕ) (d c : Document) (ls : List Location) (ms ns : Members) → slice_cmp nat_cmp k q ≡ o
    → match_ordering o (get_member k ms) (Some d) (get_member k ms) ≡ Some c
    → (o ≡ Equal → d ≡ c → cond b (Some x) (Some y) ≡ piece (Some x) (under (name k) ls) c)
    → (is_eq o ≡ false → get_member k ms ≡ Some c → get_member k ns ≡ piece (Some x) (under (name k) ls) c)
    → get_member k (member_if q (cond b (Some x) (Some y)) ns) ≡ piece (Some x) (under (name k) ls) c
member_kept_at b o x y k q d c ls ms ns e h here later = grind arith

member_kept : (x : Document) (k : List ℕ) (ls : List Location) (ms : Members) (c : Document) → get_member k ms ≡ Some c
    → get_member k (members_with_answer (Some x) ls ms) ≡ piece (Some x) (under (name k) ls) c
member_kept x k ls no_members c h = absurd (cc)
member_kept x k ls (member q d ms) c h =
    member_kept_at (slice_cmp nat_cmp k q) (has_root (under (name q) ls)) x (with_answer_at_topmost (Some x) (under (name q) ls) d) k q d c ls ms (members_with_answer (Some x) (elsewhere (name q) ls) ms) refl h
    (λ level same. let eq : k ≡ q = (bytes_eq-Decides k q).0 (sym (is_eq-slice_cmp k q) ∙ ap is_eq level) in
    ap (λ p. piece (Some x) (under (name p) ls) d) (sym eq) ∙ ap (piece (Some x) (under (name k) ls)) same)
    (λ other found. member_kept x k (elsewhere (name q) ls) ms c found ∙ ap (λ u. piece (Some x) u c) (under_elsewhere (name q) (name k) ls ∙ ap (λ (b : Bool). cond b [] (under (name k) ls)) other))

child_kept : (x : Document) (s : Step) (ls : List Location) (d c : Document) → child s d ≡ Some c → child s (with_answer_at_topmost (Some x) ls d) ≡ piece (Some x) (under s ls) c
child_kept x s ls d c h = grind (arith, item_kept, member_kept)

top_at : (x : Document) (s : Step) (l : Location) (ls : List Location) (d e : Document) (o : Option Document) → child s d ≡ o → option_and_then (there l) o ≡ Some e
    → ((c : Document) → there l c ≡ Some e → option_and_then (there l) (piece (Some x) (under s ls) c) ≡ Some x) → option_and_then (there l) (child s (with_answer_at_topmost (Some x) ls d)) ≡ Some x
top_at x s l ls d e o is h deep = grind (arith, child_kept)

top_below : (x : Document) (l : Location) (u : List Location) (c e : Document) → IsTopmost l u → there l c ≡ Some e → option_and_then (there l) (piece (Some x) u c) ≡ Some x
top_below x [] u c e h found = rw h refl
top_below x (s ∷ l) u c e h found = rw h.0 (top_at x s l u c e (child s c) refl found (λ b. top_below x l (under s u) b e h.1))

-- at a topmost location below the root that leads somewhere stands null
pub at_topmost : (s : Step) (l : Location) (ls : List Location) (d e : Document) → IsTopmost l (under s ls) → there (s ∷ l) d ≡ Some e → there (s ∷ l) (nulled ls d) ≡ Some null
at_topmost s l ls d e h found = top_at null s l ls d e (child s d) refl found (λ c. top_below null l (under s ls) c e h)
