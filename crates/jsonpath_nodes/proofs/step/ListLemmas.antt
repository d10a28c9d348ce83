-- Functions from each of some locations: joined lists, locations below another, one function after the other.
use Rattle.std.proofs.Common.{◌≡◌, List, [], ◌∷◌, ◌++◌, map, Option, Some, refl, sym, ap, ap₂, ◌∙◌, append_assoc, arith}
use Rattle.std.specs.Prelude.{option_and_then, option_map, unwrap_or}
use Rattle.std.proofs.lemmas.List.{map-append}
use Rattle.std.proofs.lemmas.Simd.{map-map}
use Rattle.jsonpath_nodes.specs.document.Document.{Document}
use Rattle.jsonpath_nodes.specs.place.Location.{Step, Location, at}
use Rattle.jsonpath_nodes.specs.step.Steps.{from, from_each}
use Rattle.jsonpath_nodes.proofs.place.LeadLemmas.{at-append}
use Rattle.jsonpath_nodes.proofs.step.ChildLemmas.{Kid, AreAt, through}

pub map-nothing : (ls : List Location) → map (λ (m : Location). [] ++ m) ls ≡ ls
map-nothing [] = refl
map-nothing (l ∷ ls) = ap (λ (x : List Location). l ∷ x) (map-nothing ls)

pub map-step : (s : Step) (l : Location) (xs : List Location) → map (λ (m : Location). (s ∷ l) ++ m) xs ≡ map (λ (m : Location). s ∷ m) (map (λ (m : Location). l ++ m) xs)
map-step s l xs = sym (map-map (λ (m : Location). s ∷ m) (λ (m : Location). l ++ m) xs)

map-twice : (l m : Location) (xs : List Location) → map (λ x. (l ++ m) ++ x) xs ≡ map (λ x. l ++ x) (map (λ x. m ++ x) xs)
map-twice l m [] = refl
map-twice l m (x ∷ xs) = ap₂ (λ (y : Location) (ys : List Location). y ∷ ys) (append_assoc l m x) (map-twice l m xs)

pub from_each-append : (doc : Document) (f : Document → List Location) (ls ms : List Location) → from_each doc f (ls ++ ms) ≡ from_each doc f ls ++ from_each doc f ms
from_each-append doc f [] ms = refl
from_each-append doc f (l ∷ ls) ms = ap (λ (xs : List Location). from doc f l ++ xs) (from_each-append doc f ls ms) ∙ sym (append_assoc (from doc f l) (from_each doc f ls) (from_each doc f ms))

-- from locations below l, where d stands, as from d
pub from_each-deeper : (doc : Document) (f : Document → List Location) (l : Location) (d : Document) (ms : List Location) → at doc l ≡ Some d → from_each doc f (map (λ m. l ++ m) ms) ≡ map (λ m. l ++ m) (from_each d f ms)
from_each-deeper doc f l d [] is = refl
from_each-deeper doc f l d (m ∷ ms) is =
    let there : at doc (l ++ m) ≡ at d m = at-append l m doc ∙ ap (option_and_then (λ c. at c m)) is in
    let here : from doc f (l ++ m) ≡ map (λ x. l ++ x) (from d f m) =
    ap (λ (o : Option Document). map (λ x. (l ++ m) ++ x) (unwrap_or (option_map f o) [])) there ∙ map-twice l m (unwrap_or (option_map f (at d m)) []) in
    ap₂ (λ (x y : List Location). x ++ y) here (from_each-deeper doc f l d ms is) ∙ sym (map-append (λ (x : Location). l ++ x) (from d f m) (from_each d f ms))

from_each-below : (doc : Document) (f g : Document → List Location) (l : Location) (o : Option Document) → at doc l ≡ o
    → from_each doc f (map (λ m. l ++ m) (unwrap_or (option_map g o) [])) ≡ map (λ m. l ++ m) (unwrap_or (option_map (λ d. from_each d f (g d)) o) [])
from_each-below doc f g l o is = grind (arith, from_each-deeper)

-- f after g is one function of the value
pub from_each-twice : (doc : Document) (f g : Document → List Location) (ls : List Location) → from_each doc f (from_each doc g ls) ≡ from_each doc (λ d. from_each d f (g d)) ls
from_each-twice doc f g [] = refl
from_each-twice doc f g (l ∷ ls) = grind (arith, from_each-append, from_each-below, from_each-twice doc f g ls)

-- f after g at each child
pub from_each-through : (f g : Document → List Location) (d : Document) (ks : List Kid) → AreAt d ks → from_each d f (through g ks) ≡ through (λ c. from_each c f (g c)) ks
from_each-through f g d [] h = refl
from_each-through f g d (k ∷ ks) h =
    let there : at d (k.0 ∷ []) ≡ Some k.1 = ap (option_and_then (λ c. at c [])) h.0 in
    from_each-append d f (map (λ m. k.0 ∷ m) (g k.1)) (through g ks)
    ∙ ap₂ (λ (x y : List Location). x ++ y) (from_each-deeper d f (k.0 ∷ []) k.1 (g k.1) there) (from_each-through f g d ks h.1)
