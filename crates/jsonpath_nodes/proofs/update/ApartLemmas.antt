-- What is put at a location leaves the locations apart from it as they were.
use Rattle.std.proofs.Common.{◌≡◌, ℕ, zero, suc, List, [], ◌∷◌, Option, Some, None, option_and_then, MatchOption, Bool, true, false, not, ◌||◌, Ordering, Less, Equal, Greater, nat_cmp, is_eq, refl, sym, ap, ◌∙◌, arith}
use Rattle.std.proofs.lemmas.Cmp.{nat_list_cmp_total}
use Rattle.std.specs.Cmp.Lexicographic.{slice_cmp}
use Rattle.std.specs.List.{AllByRecursion}
use Rattle.std.specs.Ordering.{match_ordering}
use Rattle.jsonpath_nodes.specs.document.Document.{Document, null, Items, no_items, item, Members, no_members, member}
use Rattle.jsonpath_nodes.specs.document.Find.{get_item, get_member}
use Rattle.jsonpath_nodes.proofs.step.DistinctLemmas.{all_then}
use Rattle.jsonpath_nodes.proofs.update.SetLemmas.{same_itself}
use Rattle.jsonpath_nodes.specs.place.Location.{Step, Location, child}
use Rattle.jsonpath_nodes.proofs.place.ThereLemmas.{there}
use Rattle.jsonpath_nodes.specs.update.Apart.{apart, apart_below_root, AllApart, IsPlaced, NothingTakenAway}
use Rattle.jsonpath_nodes.specs.update.Update.{member_if, edit_item, edit_member, edit, with_answer_at, update, target}
use Rattle.jsonpath_nodes.specs.update.Topmost.{same_step, nulled}
use Rattle.jsonpath_nodes.specs.update.Run.{Asked, IsRun, update_each}
use Rattle.jsonpath_nodes.proofs.update.TopmostLemmas.{each_null}

-- f answers a value wherever it is asked
abbrev Puts : (Document → Option Document) → Type 0
Puts f = (c : Document) → (e : Document) × (f c ≡ Some e)

item_other : (f : Document → Option Document) (i j : ℕ) (ds : Items) → Puts f → (i ≡ j → ⊥) → get_item j (edit_item f i ds) ≡ get_item j ds
item_other f i j no_items p h = refl
item_other f zero zero (item d ds) p h = absurd (h refl)
item_other f zero (suc j) (item d ds) p h = rw (p d).1 refl
item_other f (suc i) zero (item d ds) p h = refl
item_other f (suc i) (suc j) (item d ds) p h = item_other f i j ds p (λ e. h (ap suc e))

item_here : (f : Document → Option Document) (i : ℕ) (ds : Items) → Puts f → get_item i (edit_item f i ds) ≡ option_and_then f (get_item i ds)
item_here f i no_items p = refl
item_here f zero (item d ds) p = rw (p d).1 refl
item_here f (suc i) (item d ds) p = item_here f i ds p

member_other : (f : Document → Option Document) (k q : List ℕ) (ms : Members) → Puts f → is_eq (slice_cmp nat_cmp k q) ≡ false → get_member q (edit_member f k ms) ≡ get_member q ms
member_other f k q no_members p h = refl
member_other f k q (member l d ms) p h = grind (arith, nat_list_cmp_total, member_other f k q ms p h)

member_here_at : (o : Ordering) (f : Document → Option Document) (k q l : List ℕ) (d : Document) (ms : Members) → Puts f → slice_cmp nat_cmp k l ≡ o → slice_cmp nat_cmp q l ≡ o
    → get_member q (edit_member f k ms) ≡ option_and_then f (get_member q ms)
    → get_member q (match_ordering o (member l d (edit_member f k ms)) (member_if l (f d) ms) (member l d (edit_member f k ms))) ≡ option_and_then f (match_ordering o (get_member q ms) (Some d) (get_member q ms))
member_here_at Less f k q l d ms p e g later = rw (g, later) refl
member_here_at Equal f k q l d ms p e g later = rw ((p d).1, g) refl
member_here_at Greater f k q l d ms p e g later = rw (g, later) refl

member_here : (f : Document → Option Document) (k q : List ℕ) (ms : Members) → Puts f → slice_cmp nat_cmp k q ≡ Equal → get_member q (edit_member f k ms) ≡ option_and_then f (get_member q ms)
member_here f k q no_members p h = refl
member_here f k q (member l d ms) p h = grind (arith, member_here_at, nat_list_cmp_total, member_here f k q ms p h)

child_other : (f : Document → Option Document) (s t : Step) (d : Document) → Puts f → same_step s t ≡ false → child t (edit f s d) ≡ child t d
child_other f s t d p h = grind (arith, item_other, member_other)

child_here : (f : Document → Option Document) (s t : Step) (d : Document) → Puts f → same_step s t ≡ true → child t (edit f s d) ≡ option_and_then f (child t d)
child_here f s t d p h = grind (arith, item_here, member_here)

puts : (x : Document) (l : Location) → Puts (with_answer_at (Some x) l)
puts x [] c = (x, refl)
puts x (s ∷ l) c = (edit (with_answer_at (Some x) l) s c, refl)

apart_at : (b : Bool) (x : Document) (t s : Step) (m l : Location) (d : Document) → same_step s t ≡ b
    → ((c : Document) → apart m l ≡ true → option_and_then (there m) (with_answer_at (Some x) l c) ≡ there m c) → (not b || apart m l) ≡ true
    → option_and_then (there m) (child t (edit (with_answer_at (Some x) l) s d)) ≡ option_and_then (there m) (child t d)
apart_at b x t s m l d e deep h = grind (arith, child_here, child_other, puts)

-- with x put at l, m has what it had
apart_answer : (x : Document) (m l : Location) (c : Document) → apart m l ≡ true → option_and_then (there m) (with_answer_at (Some x) l c) ≡ there m c
apart_answer x [] l c h = absurd (cc)
apart_answer x (t ∷ m) [] c h = absurd (cc)
apart_answer x (t ∷ m) (s ∷ l) c h = apart_at (same_step s t) x t s m l c refl (λ e. apart_answer x m l e) h

pub at_update : (x : Document) (m l : Location) (d : Document) → apart_below_root m l ≡ true → there m (update l (Some x) d) ≡ there m d
at_update x m [] d h = refl
at_update x m (s ∷ l) d h = apart_answer x m (s ∷ l) d h

at_each : (x : Document) (m : Location) (ls : List Location) (d : Document) → AllByRecursion (λ l. apart_below_root m l ≡ true) ls → there m (update_each (Some x) ls d) ≡ there m d
at_each x m [] d h = refl
at_each x m (l ∷ ls) d h = at_each x m ls (update l (Some x) d) h.1 ∙ at_update x m l d h.0

-- a location that is neither at, below nor above a nulled one has what it had
pub at_nulled : (m : Location) (ls : List Location) (d : Document) → AllByRecursion (λ l. apart_below_root m l ≡ true) ls → there m (nulled ls d) ≡ there m d
at_nulled m ls d h = ap (there m) (sym (each_null ls d)) ∙ at_each null m ls d h

-- ---- answers that are put at locations apart from one another

-- what was put at a location that leads somewhere is found there
answer_found_at : (x : Document) (s : Step) (l : Location) (d e : Document) (o : Option Document) → child s d ≡ o → option_and_then (there l) o ≡ Some e
    → ((c : Document) → there l c ≡ Some e → option_and_then (there l) (with_answer_at (Some x) l c) ≡ Some x) → option_and_then (there l) (child s (edit (with_answer_at (Some x) l) s d)) ≡ Some x
answer_found_at x s l d e o is found deep = grind (arith, child_here, puts, same_itself)

answer_found : (x : Document) (l : Location) (d e : Document) → there l d ≡ Some e → option_and_then (there l) (with_answer_at (Some x) l d) ≡ Some x
answer_found x [] d e h = refl
answer_found x (s ∷ l) d e h = answer_found_at x s l d e (child s d) refl h (λ c. answer_found x l c e)

pub at_here : (x : Document) (l : Location) (d e : Document) → target l d ≡ Some e → there l (update l (Some x) d) ≡ Some x
at_here x [] d e h = absurd (cc)
at_here x (s ∷ l) d e h = answer_found x (s ∷ l) d e h

target_update : (x : Document) (m l : Location) (d : Document) → apart_below_root m l ≡ true → target m (update l (Some x) d) ≡ target m d
target_update x [] l d h = refl
target_update x (t ∷ m) l d h = at_update x (t ∷ m) l d h

abbrev RunAt : Option Document → Location → List Location → Document → List Asked → Document → Type 0
RunAt o l ls before asked after = MatchOption o (IsRun ls before asked after)
    (λ d. (answer : Option Document) × (more : List Asked) × (asked ≡ (d, answer) ∷ more) × IsRun ls (update l answer before) more after)

-- a location apart from all of them has what it had
run_apart_at : (o : Option Document) (m l : Location) (ls : List Location) (before : Document) (asked : List Asked) (after : Document) → apart_below_root m l ≡ true → NothingTakenAway asked → RunAt o l ls before asked after
    → ((b : Document) (ps : List Asked) → NothingTakenAway ps → IsRun ls b ps after → there m after ≡ there m b) → there m after ≡ there m before
run_apart_at o m l ls before asked after h all r later = grind (arith, at_update)

pub run_apart : (m : Location) (ls : List Location) (before : Document) (asked : List Asked) (after : Document) → AllByRecursion (λ l. apart_below_root m l ≡ true) ls → NothingTakenAway asked
    → IsRun ls before asked after → there m after ≡ there m before
run_apart m [] before asked after h all r = ap (there m) r.1
run_apart m (l ∷ ls) before asked after h all r = run_apart_at (target l before) m l ls before asked after h.0 all r (λ b ps. run_apart m ls b ps after h.1)

abbrev PlacedAt : Option Document → Location → List Location → Document → List Asked → Document → Type 0
PlacedAt o l ls before asked after = MatchOption o (IsPlaced ls before asked after)
    (λ d. (answer : Document) × (more : List Asked) × (asked ≡ (d, Some answer) ∷ more) × (there l after ≡ Some answer) × IsPlaced ls before more after)

placed_step : (o : Option Document) (m : Location) (ls : List Location) (mid before : Document) (asked : List Asked) (after : Document) → ((ps : List Asked) → IsPlaced ls mid ps after → IsPlaced ls before ps after)
    → PlacedAt o m ls mid asked after → PlacedAt o m ls before asked after
placed_step o m ls mid before asked after later p = grind arith

placed_before : (x : Document) (l : Location) (ls : List Location) (before : Document) (asked : List Asked) (after : Document) → AllByRecursion (λ m. (apart_below_root l m ≡ true) × (apart_below_root m l ≡ true)) ls
    → IsPlaced ls (update l (Some x) before) asked after → IsPlaced ls before asked after
placed_before x l [] before asked after h p = p
placed_before x l (m ∷ ls) before asked after h p =
    placed_step (target m before) m ls (update l (Some x) before) before asked after (λ ps. placed_before x l ls before ps after h.1) (rw (target_update x m l before h.0.1) at p)

run_placed_at : (o : Option Document) (l : Location) (ls : List Location) (before : Document) (asked : List Asked) (after : Document) → target l before ≡ o → AllApart (l ∷ ls) → NothingTakenAway asked
    → RunAt o l ls before asked after → ((b : Document) (ps : List Asked) → NothingTakenAway ps → IsRun ls b ps after → IsPlaced ls b ps after) → PlacedAt o l ls before asked after
run_placed_at None l ls before asked after is h all r later = later before asked all r
run_placed_at (Some d) l ls before [] after is h all r later = absurd (cc)
run_placed_at (Some d) l ls before ((e, None) ∷ asked) after is h all r later = absurd (let bad : false ≡ true = all.0 in cc)
run_placed_at (Some d) l ls before ((e, Some x) ∷ asked) after is h all r later =
    let more : asked ≡ r.1 = cc in
    let heads : (e, Some x) ≡ (d, r.0) = cc in
    let said : r.0 ≡ Some x = sym (ap (λ (q : Asked). q.1) heads) in
    let handed : e ≡ d = ap (λ (q : Asked). q.0) heads in
    let run : IsRun ls (update l (Some x) before) asked after = rw (more, ← said) r.3 in
    let stays = run_apart l ls (update l (Some x) before) asked after (all_then (λ m. (apart_below_root l m ≡ true) × (apart_below_root m l ≡ true)) (λ m. apart_below_root l m ≡ true) ls (λ m p. p.0) h.0) all.1 run in
    (x, asked, rw handed refl, stays ∙ at_here x l before d is, placed_before x l ls before asked after h.0 (later (update l (Some x) before) asked all.1 run))

-- where no location lies below another and every answer is a value, each answer stands in its place
pub run_placed : (ls : List Location) (before : Document) (asked : List Asked) (after : Document) → AllApart ls → NothingTakenAway asked → IsRun ls before asked after → IsPlaced ls before asked after
run_placed [] before asked after h all r = r.0
run_placed (l ∷ ls) before asked after h all r = run_placed_at (target l before) l ls before asked after refl h all r (λ b ps. run_placed ls b ps after h.1)
