-- Texts that are compiled one after the other: those that are done, and those that are left.
use Rattle.std.proofs.Common.{◌≡◌, ℕ, ◌+◌, ◌<◌, ◌≤◌, List, [], ◌∷◌, ◌++◌, length, map, drop, get_or, All, Bor, Option, refl, sym, ap, ◌∙◌, subst, append-nil, drop_of_length-le}
use Rattle.std.proofs.lemmas.List.{drop_more, append_assoc}
use Rattle.std.proofs.lemmas.List.Elements.{All-push}
use Rattle.jsonpath_paths.specs.Spelling.{IsInGrammar}
use Rattle.jsonpath_select.specs.JsonPathErrors.{IsPathRefused}
use Rattle.jsonpath_select.specs.declared.error.JsonPathError.{JsonPathError}
use Rattle.jsonpath_select.specs.declared.error.JsonPathError.TheVariants.{EmptyPath, EmptyValue, Path, Serde, OutOfMemory}
use Rattle.jsonpath_lib.specs.update.Masked.{ArePathsRefused, place_unless_memory}

abbrev texts_of : List (Bor (List ℕ)) → List (List ℕ)
texts_of = map (λ t. t.now)

-- where some texts are done, the next one and those behind it are left
pub next_text : (texts : List (Bor (List ℕ))) (done : List (List ℕ)) (i : ℕ) (d : Bor (List ℕ))
    → i < length texts → texts_of texts ≡ done ++ texts_of (drop i texts)
    → texts_of texts ≡ done ++ ((get_or texts i d).now ∷ texts_of (drop (i + 1) texts))
next_text texts done i d within h = h ∙ ap (λ xs. done ++ texts_of xs) (drop_more texts i d within)

-- the next text is done, as this path
pub text_done : (texts : List (Bor (List ℕ))) (done : List (List ℕ)) (i : ℕ) (d : Bor (List ℕ)) (path : List ℕ) (more : List (List ℕ))
    → i < length texts → texts_of texts ≡ done ++ texts_of (drop i texts) → path ≡ (get_or texts i d).now → more ≡ done ++ (path ∷ [])
    → texts_of texts ≡ more ++ texts_of (drop (i + 1) texts)
text_done texts done i d path more within h is pushed =
    let left = texts_of (drop (i + 1) texts) in
    next_text texts done i d within h ∙ sym (append_assoc done ((get_or texts i d).now ∷ []) left)
    ∙ ap (λ p. (done ++ (p ∷ [])) ++ left) (sym is) ∙ ap (λ xs. xs ++ left) (sym pushed)

pub spelled_done : (done : List (List ℕ)) (text path : List ℕ) (more : List (List ℕ))
    → All IsInGrammar done → IsInGrammar text → path ≡ text → more ≡ done ++ (path ∷ []) → All IsInGrammar more
spelled_done done text path more h p is pushed =
    subst (All IsInGrammar) (ap (λ x. done ++ (x ∷ [])) (sym is) ∙ sym pushed)
    (All-push IsInGrammar done text h p)

-- no text is left
pub all_done : (texts : List (Bor (List ℕ))) (done : List (List ℕ)) (i : ℕ)
    → length texts ≤ i → texts_of texts ≡ done ++ texts_of (drop i texts) → All IsInGrammar done → All IsInGrammar (texts_of texts)
all_done texts done i at_end h spelled =
    subst (All IsInGrammar) (sym (h ∙ ap (λ xs. done ++ texts_of xs) (drop_of_length-le texts at_end) ∙ append-nil done)) spelled

-- a text that is refused behind texts that are paths is the first
pub first_refused : (texts front : List (List ℕ)) (text : List ℕ) (rest : List (List ℕ)) (error : JsonPathError)
    → texts ≡ front ++ (text ∷ rest) → All IsInGrammar front → IsPathRefused text error → ArePathsRefused texts (place_unless_memory (length front) error) error
first_refused texts front text rest EmptyPath parts spelled h = h
first_refused texts front text rest EmptyValue parts spelled h = h
first_refused texts front text rest (Path m) parts spelled h =
    (length front, refl, record { front = front; text = text; rest = rest; parts = parts; count = refl; spelled = spelled; refused = h })
first_refused texts front text rest (Serde m) parts spelled h = h
first_refused texts front text rest OutOfMemory parts spelled h = refl

-- how a list of paths is refused, said of an error and a place that are equal to these
pub told_as : (texts : List (List ℕ)) (index place : Option ℕ) (error fault : JsonPathError) → index ≡ place → error ≡ fault → ArePathsRefused texts place fault → ArePathsRefused texts index error
told_as texts index place error fault same is h =
    let P : Option ℕ → Type 0 = λ o. ArePathsRefused texts o error in
    let Q : JsonPathError → Type 0 = λ e. ArePathsRefused texts place e in
    subst P (sym same) (subst Q (sym is) h)
