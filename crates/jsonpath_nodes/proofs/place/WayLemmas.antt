-- Ways that go a step down and back.
use Rattle.std.proofs.Common.{◌≡◌, ℕ, suc, ◌+◌, List, [], ◌∷◌, ◌++◌, map, Bool, true, false, Some, refl, sym, ap, ap₂, ◌∙◌, append_assoc, append-nil, arith}
use Rattle.jsonpath_nodes.specs.document.Document.{Document, Items, item, Members, member}
use Rattle.jsonpath_nodes.specs.place.Location.{Step, name, index, Location, below}
use Rattle.jsonpath_nodes.specs.plan.Containers.{descendants}
use Rattle.jsonpath_nodes.specs.place.Mark.{kept_location, look_kept_from}
use Rattle.jsonpath_nodes.specs.plan.Way.{way_stand, AreSame, Stays}
use Rattle.jsonpath_nodes.proofs.place.SightLemmas.{Sight}
use Rattle.jsonpath_nodes.proofs.place.KeptLemmas.{seen_items, seen_members, kept-twice}

pub stays_on : (b : Bool) (s0 s1 s2 : Location) (t0 t1 t2 : List Step) → Stays b s0 t0 s1 t1 → Stays b s1 t1 s2 t2 → Stays b s0 t0 s2 t2
stays_on b s0 s1 s2 t0 t1 t2 h k = (k.0 ∙ h.0, k.1 ∙ h.1)

same_stand : (b : Bool) (s : Location) (t0 t1 : List Step) → AreSame b t1 t0 → way_stand b s t1 ≡ way_stand b s t0
same_stand b s t0 t1 h = grind arith

pub stays-stand : (b : Bool) (s0 s1 : Location) (t0 t1 : List Step) → Stays b s0 t0 s1 t1 → way_stand b s1 t1 ≡ way_stand b s0 t0
stays-stand b s0 s1 t0 t1 h = ap (λ (s : Location). way_stand b s t1) h.0 ∙ same_stand b s0 t0 t1 h.1

-- a child of where the way is
pub child-stand : (b : Bool) (s : Location) (t : List Step) (x : Step) → way_stand b s (t ++ x ∷ []) ≡ kept_location b (way_stand b s t ++ x ∷ [])
child-stand true s t x = sym (append_assoc s t (x ∷ []))
child-stand false s t x = refl

-- a child of where the way was before it stayed
pub child-stays : (b : Bool) (s0 s1 : Location) (t0 t1 : List Step) (x : Step) → Stays b s0 t0 s1 t1 → way_stand b s1 (t1 ++ x ∷ []) ≡ kept_location b (way_stand b s0 t0 ++ x ∷ [])
child-stays b s0 s1 t0 t1 x h = child-stand b s1 t1 x ∙ ap (λ (l : Location). kept_location b (l ++ x ∷ [])) (stays-stand b s0 s1 t0 t1 h)

-- ---- a loop over the children, one on

pub item_next : (b : Bool) (f : Document → List Location) (l k : Location) (i : ℕ) (d : Document) (ds left : Items) (xs ys all : List Sight) → left ≡ item d ds → k ≡ kept_location b (l ++ index i ∷ [])
    → ys ≡ xs ++ map (look_kept_from b k d) (f d) → xs ++ seen_items b f l i left ≡ all → ys ++ seen_items b f l (i + 1) ds ≡ all
item_next b f l k i d ds left xs ys all first here gained kept =
    let one : i + 1 ≡ suc i = omega arith in
    ap₂ (λ (us : List Sight) (n : ℕ). us ++ seen_items b f l n ds) (gained ∙ ap (λ m. xs ++ map (look_kept_from b m d) (f d)) here) one
    ∙ append_assoc xs (map (look_kept_from b (kept_location b (l ++ index i ∷ [])) d) (f d)) (seen_items b f l (suc i) ds)
    ∙ ap (λ us. xs ++ seen_items b f l i us) (sym first) ∙ kept

pub member_next : (b : Bool) (f : Document → List Location) (l j : Location) (k : List ℕ) (d : Document) (ds left : Members) (xs ys all : List Sight) → left ≡ member k d ds → j ≡ kept_location b (l ++ name k ∷ [])
    → ys ≡ xs ++ map (look_kept_from b j d) (f d) → xs ++ seen_members b f l left ≡ all → ys ++ seen_members b f l ds ≡ all
member_next b f l j k d ds left xs ys all first here gained kept =
    ap (λ (us : List Sight). us ++ seen_members b f l ds) (gained ∙ ap (λ m. xs ++ map (look_kept_from b m d) (f d)) here)
    ∙ append_assoc xs (map (look_kept_from b (kept_location b (l ++ name k ∷ [])) d) (f d)) (seen_members b f l ds)
    ∙ ap (λ us. xs ++ seen_members b f l us) (sym first) ∙ kept

-- ---- a node, and then all below it

below-descendants : (d : Document) → below d ≡ [] ∷ descendants d
below-descendants d = grind arith

pub node_then_descendants : (b : Bool) (k m : Location) (d : Document) (xs ys zs : List Sight) → ys ≡ xs ++ (kept_location b m, Some d) ∷ [] → k ≡ kept_location b m
    → zs ≡ ys ++ map (look_kept_from b k d) (descendants d) → zs ≡ xs ++ map (look_kept_from b k d) (below d)
node_then_descendants b k m d xs ys zs first here later =
    let itself : kept_location b (k ++ []) ≡ kept_location b m = ap (λ (l : Location). kept_location b (l ++ [])) here ∙ kept-twice b m [] ∙ ap (kept_location b) (append-nil m) in
    later ∙ ap (λ (ss : List Sight). ss ++ map (look_kept_from b k d) (descendants d)) first
    ∙ append_assoc xs ((kept_location b m, Some d) ∷ []) (map (look_kept_from b k d) (descendants d))
    ∙ ap (λ (l : Location). xs ++ (l, Some d) ∷ map (look_kept_from b k d) (descendants d)) (sym itself)
    ∙ ap (λ (ls : List Location). xs ++ map (look_kept_from b k d) ls) (sym (below-descendants d))
