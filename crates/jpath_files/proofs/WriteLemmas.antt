-- What is in a file over which a text was written, its front last.
use Rattle.std.proofs.Common.{◌≡◌, ℕ, ◌+◌, ◌-◌, List, [], ◌∷◌, ◌++◌, length, drop, replicate, refl, arith, length-append, append_assoc, zero-add}
use Rattle.std.proofs.lemmas.List.{length-take, length-replicate, take_at, drop_at}
use Rattle.jpath_files.specs.DiskState.{resized, overwritten}

length-resized : (n : ℕ) (content : List ℕ) → length (resized n content) ≡ n
length-resized n content = simp (length-take, length-append, length-replicate) (omega arith)

resized_front : (front behind : List ℕ) → resized (length front) (front ++ behind) ≡ front
resized_front front behind = rw append_assoc (take_at front (behind ++ replicate (length front - length (front ++ behind)) 0) (length front) refl)

front_written : (front more behind content : List ℕ) → drop (length front) content ≡ more ++ behind
    → resized (length (front ++ more)) (overwritten 0 front content) ≡ front ++ more
front_written [] more behind content e = rw e (resized_front more behind)
front_written (x ∷ xs) more behind content e = rw (zero-add (length (x ∷ xs)), e, ← append_assoc xs more behind) (resized_front ((x ∷ xs) ++ more) behind)

pub text_written : (front more content : List ℕ) → resized (length (front ++ more)) (overwritten 0 front (overwritten (length front) more content)) ≡ front ++ more
text_written front [] content = front_written front [] (drop (length front) content) content refl
text_written front (y ∷ ys) content =
    let at : ℕ = length front in
    let behind : List ℕ = drop (at + length (y ∷ ys)) content in
    front_written front (y ∷ ys) behind (resized at content ++ ((y ∷ ys) ++ behind)) (drop_at (resized at content) ((y ∷ ys) ++ behind) at (length-resized at content))
