-- A text begins a document exactly if the machine does not refuse it.
use Rattle.std.proofs.Common.{◌≡◌, ℕ, List, [], ◌∷◌, ◌++◌, Bool, true, false, map, ap, sym, ◌∙◌}
use Rattle.std.proofs.lemmas.List.{map-append, append-nil}
use Rattle.json_recognizer.specs.Classes.{class_of}
use Rattle.json_recognizer.specs.Grammar.{IsWritten, IsDocument, Begins, max_depth, put_blanks, put}
use Rattle.json_recognizer.specs.Machine.{accepts, goes, refused, after_all, goes_from, step, is_final}
use Rattle.json_recognizer.specs.declared.class.Class.{Class}
use Rattle.json_recognizer.specs.declared.machine.Mode.{Mode}
use Rattle.json_recognizer.specs.declared.machine.Mode.TheVariants.{Value}
use Rattle.json_recognizer.proofs.Sound.{sound}
use Rattle.json_recognizer.proofs.Complete.{whole_document}
use Rattle.json_recognizer.proofs.Live.{bytes_of, classes-bytes_of, live, run, accepts_next, after_snoc}

pub written_of : (text : List Class) → accepts Value [] max_depth text ≡ true → IsWritten text
written_of text h =
    let s = sound text Value [] max_depth h in
    record { blanks_before = s.0; value = s.1; blanks_behind = s.5.0; nests = s.4; written = s.3 ∙ ap (λ t. put_blanks s.0 (put s.1 t)) s.5.1 }

pub accepted : (text : List Class) → IsWritten text → accepts Value [] max_depth text ≡ true
accepted text w = ap (accepts Value [] max_depth) w.written ∙ whole_document w.blanks_before w.value w.blanks_behind max_depth w.nests

-- the machine goes on
pub begins : (front : List ℕ) (m : Mode) (b : List Bool) (r : ℕ) → after_all Value [] max_depth (map class_of front) ≡ goes m b r → Begins front
begins front m b r h =
    let l = live m b r in
    let whole : map class_of (front ++ bytes_of l.0) ≡ map class_of front ++ l.0 = map-append class_of front (bytes_of l.0) ∙ ap (λ t. map class_of front ++ t) (classes-bytes_of l.0) in
    let yes : accepts Value [] max_depth (map class_of front ++ l.0) ≡ true = run (map class_of front) Value [] max_depth l.0 ∙ ap (λ n. accepts_next n l.0) h ∙ l.1 in
    (bytes_of l.0, written_of (map class_of (front ++ bytes_of l.0)) (ap (accepts Value [] max_depth) whole ∙ yes))

-- it refuses
pub begins_none : (front : List ℕ) → after_all Value [] max_depth (map class_of front) ≡ refused → Begins front → ⊥
begins_none front h d =
    let yes : accepts Value [] max_depth (map class_of (front ++ d.0)) ≡ true = accepted (map class_of (front ++ d.0)) d.1 in
    let no : accepts Value [] max_depth (map class_of (front ++ d.0)) ≡ false = ap (accepts Value [] max_depth) (map-append class_of front d.0) ∙ run (map class_of front) Value [] max_depth (map class_of d.0) ∙ ap (λ n. accepts_next n (map class_of d.0)) h in
    cc

-- of a text that the machine goes over, whether it is a document is its last state's to say
pub document_final : (bytes : List ℕ) (m : Mode) (b : List Bool) (r : ℕ) → after_all Value [] max_depth (map class_of bytes) ≡ goes m b r → is_final m b ≡ true → IsDocument bytes
unfolding accepts
document_final bytes m b r h f =
    let yes : accepts Value [] max_depth (map class_of bytes ++ []) ≡ true = run (map class_of bytes) Value [] max_depth [] ∙ ap (λ n. accepts_next n []) h ∙ f in
    written_of (map class_of bytes) (ap (accepts Value [] max_depth) (sym (append-nil (map class_of bytes))) ∙ yes)

-- where such a state is none, the text is no document
pub no_document : (bytes : List ℕ) (m : Mode) (b : List Bool) (r : ℕ) → after_all Value [] max_depth (map class_of bytes) ≡ goes m b r → is_final m b ≡ false → IsDocument bytes → ⊥
unfolding accepts
no_document bytes m b r h f d =
    let yes : accepts Value [] max_depth (map class_of bytes) ≡ true = accepted (map class_of bytes) d in
    let is : accepts Value [] max_depth (map class_of bytes) ≡ is_final m b = ap (accepts Value [] max_depth) (sym (append-nil (map class_of bytes))) ∙ run (map class_of bytes) Value [] max_depth [] ∙ ap (λ n. accepts_next n []) h in
    cc

-- where the next byte leads
pub one_more : (front : List ℕ) (x : ℕ) (m : Mode) (b : List Bool) (r : ℕ) → after_all Value [] max_depth (map class_of front) ≡ goes m b r → after_all Value [] max_depth (map class_of (front ++ x ∷ [])) ≡ step m b r (class_of x)
one_more front x m b r h =
    ap (after_all Value [] max_depth) (map-append class_of front (x ∷ [])) ∙ after_snoc (map class_of front) Value [] max_depth (class_of x) ∙ ap (λ n. goes_from n (λ m. λ b. λ r. step m b r (class_of x))) h
