-- Steps that lead nowhere from a value.
use Rattle.std.proofs.Common.{◌≡◌, ℕ, List, [], ◌∷◌, ◌++◌, map, None, Bool, false, cond, refl, sym, ap, ap₂, ◌∙◌, append-nil, arith}
use Rattle.std.specs.Prelude.{ℤ, flat_map, is_some}
use Rattle.std.proofs.lemmas.Bool.{or_parts}
use Rattle.jsonpath_nodes.specs.document.Document.{Document, null, boolean, number, string, array, object, Items, Members, no_members, member}
use Rattle.jsonpath_nodes.specs.document.Find.{as_array, as_object}
use Rattle.jsonpath_nodes.specs.plan.Containers.{is_container, some_container}
use Rattle.jsonpath_nodes.specs.place.Location.{Step, name, index, Location, child}
use Rattle.jsonpath_nodes.specs.step.Steps.{Plain, listed, union, present, nth_of, single_steps}
use Rattle.jsonpath_nodes.specs.plan.Gathered.{Gathered, gathered_at, all_gathered}
use Rattle.jsonpath_nodes.specs.place.Order.{IsOrderedDocument, HoldOrderedDocuments}
use Rattle.jsonpath_nodes.specs.place.Mark.{look_kept_from}
use Rattle.jsonpath_nodes.specs.place.SpotPlace.{look_from}
use Rattle.jsonpath_nodes.proofs.place.SightLemmas.{Sight, member_sights}

present_nowhere : (d : Document) (s : Step) → child s d ≡ None → present d s ≡ []
present_nowhere d s none = ap (λ o. cond (is_some o) (s ∷ []) []) none

-- no index leads into an object or a value without children
union_nowhere : (d : Document) (ns : List ℤ) → ((i : ℕ) → child (index i) d ≡ None) → flat_map (nth_of d) ns ≡ []
union_nowhere d [] none = refl
union_nowhere d (n ∷ ns) none = grind (arith, union_nowhere d ns none)

-- no name leads into an array or a value without children
listed_nowhere : (d : Document) (ks : List (List ℕ)) → ((k : List ℕ) → child (name k) d ≡ None) → flat_map (λ k. present d (name k)) ks ≡ []
listed_nowhere d [] none = refl
listed_nowhere d (k ∷ ks) none = ap₂ (λ (x y : List Step). x ++ y) (present_nowhere d (name k) (none k)) (listed_nowhere d ks none)

pub union_of_members : (ms : Members) (ns : List ℤ) → single_steps (union ns) (object ms) ≡ []
union_of_members ms ns = ap (map (λ (s : Step). s ∷ [])) (union_nowhere (object ms) ns (λ i. refl))

pub listed_of_items : (ds : Items) (ks : List (List ℕ)) → single_steps (listed ks) (array ds) ≡ []
listed_of_items ds ks = ap (map (λ (s : Step). s ∷ [])) (listed_nowhere (array ds) ks (λ k. refl))

-- ---- a value without children

abbrev pub IsLeaf : Document → Type 0
IsLeaf (array ds) = ⊥
IsLeaf (object ms) = ⊥
IsLeaf _ = Unit {0}

pub leaf_by : (P : Document → Type 0) → P null → ((b : Bool) → P (boolean b)) → ((n : _) → P (number n)) → ((s : List ℕ) → P (string s)) → (d : Document) → IsLeaf d → P d
leaf_by P of_null of_boolean of_number of_string d h = grind arith

pub leaf_selects : (p : Plain) (d : Document) → IsLeaf d → single_steps p d ≡ []
leaf_selects p d h = grind (arith, listed_nowhere, union_nowhere)

pub leaf_gathered : (own : Document → List Location) (d : Document) → IsLeaf d → own d ≡ [] → all_gathered own d ≡ []
leaf_gathered own d h none = grind arith

pub nothing_at_leaf : (what : Gathered) (d : Document) → IsLeaf d → gathered_at what d ≡ []
nothing_at_leaf what d h = grind (arith, leaf_selects)

pub nothing_gained : (b : Bool) (l : Location) (d : Document) (xs : List Sight) (ls : List Location) → ls ≡ [] → xs ≡ xs ++ map (look_kept_from b l d) ls
nothing_gained b l d xs ls none = sym (append-nil xs) ∙ ap (λ (ks : List Location). xs ++ map (look_kept_from b l d) ks) (sym none)

-- what is neither an array nor an object
pub leaf_else : (d : Document) → as_array d ≡ None → as_object d ≡ None → IsLeaf d
leaf_else d not_array not_object = grind arith

-- ---- members of which none holds others

pub no_container : (d : Document) → is_container d ≡ false → IsLeaf d
no_container d h = grind arith

pub nothing_in_leaves : (own : Document → List Location) (l : Location) (ms : Members) → ((d : Document) → IsLeaf d → own d ≡ []) → some_container ms ≡ false → member_sights (all_gathered own) l ms ≡ []
nothing_in_leaves own l no_members none h = refl
nothing_in_leaves own l (member k d ms) none h =
    let parts = or_parts (is_container d) (some_container ms) h in
    let leaf : IsLeaf d = no_container d parts.0 in
    ap₂ (λ (xs ys : List Sight). xs ++ ys) (ap (map (look_from (l ++ name k ∷ []) d)) (leaf_gathered own d leaf (none d leaf))) (nothing_in_leaves own l ms none parts.1)

pub leaf_document : (d : Document) → IsLeaf d → IsOrderedDocument d
leaf_document d h = leaf_by IsOrderedDocument tt (λ b. tt) (λ n. tt) (λ s. tt) d h

pub hold_leaves : (ms : Members) → some_container ms ≡ false → HoldOrderedDocuments ms
hold_leaves no_members h = tt
hold_leaves (member k d ms) h =
    let parts = or_parts (is_container d) (some_container ms) h in
    (leaf_document d (no_container d parts.0), hold_leaves ms parts.1)
