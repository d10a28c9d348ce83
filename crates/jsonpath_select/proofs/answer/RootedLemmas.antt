-- What begins at the root is the same at every candidate.
use Rattle.std.proofs.Common.{◌≡◌, ℕ, List, [], ◌∷◌, Bool, true, false, cond, refl, ap, ap₂, ◌∙◌, filter, IsTrue}
use Rattle.std.proofs.lemmas.Bool.{and_parts}
use Rattle.jsonpath_nodes.specs.document.Document.{Document}
use Rattle.jsonpath_paths.specs.tree.Tree.{Path, path, lone, compare, join, Term, at_path, literal}
use Rattle.jsonpath_nodes.specs.place.Location.{Location}
use Rattle.jsonpath_select.specs.Meaning.{reached, holds, values, is_some_location, values_at}
use Rattle.jsonpath_select.specs.Parts.{has_pair, joined}
use Rattle.jsonpath_select.specs.Rooted.{RootedTermIsFixed, is_rooted_path, is_rooted_term, is_rooted, RootedHoldsAlike, RootedKeepsAllOrNone}

pub rooted_term_is_fixed : RootedTermIsFixed
rooted_term_is_fixed text doc steps c d = refl

rooted_path : (text : List ℕ) (doc : Document) (p : Path) (c d : Location) → IsTrue (is_rooted_path p) → reached text doc p c ≡ reached text doc p d
rooted_path text doc (path true steps) c d h = refl
rooted_path text doc (path false steps) c d h = cc

rooted_term : (text : List ℕ) (doc : Document) (t : Term) (c d : Location) → IsTrue (is_rooted_term t) → values text doc t c ≡ values text doc t d
rooted_term text doc (at_path p) c d h = ap (values_at doc) (rooted_path text doc p c d h)
rooted_term text doc (literal token) c d h = refl

pub rooted_holds_alike : RootedHoldsAlike
rooted_holds_alike text doc (lone p) c d h = ap is_some_location (rooted_path text doc p c d h)
rooted_holds_alike text doc (compare l op r) c d h =
    let parts = and_parts (is_rooted_term l) (is_rooted_term r) h in
    ap₂ (has_pair op) (rooted_term text doc l c d parts.0) (rooted_term text doc r c d parts.1)
rooted_holds_alike text doc (join op a b) c d h =
    let parts = and_parts (is_rooted a) (is_rooted b) h in
    ap₂ (joined op) (rooted_holds_alike text doc a c d parts.0) (rooted_holds_alike text doc b c d parts.1)

filter_same : (b : Bool) (ls : List Location) → filter (λ (c : Location). b) ls ≡ cond b ls []
filter_same true [] = refl
filter_same true (l ∷ ls) = ap (λ (ms : List Location). l ∷ ms) (filter_same true ls)
filter_same false [] = refl
filter_same false (l ∷ ls) = filter_same false ls

pub rooted_keeps_all_or_none : RootedKeepsAllOrNone
rooted_keeps_all_or_none text doc f ls h = (λ i. filter (λ c. rooted_holds_alike text doc f c [] h i) ls) ∙ filter_same (holds text doc f []) ls
