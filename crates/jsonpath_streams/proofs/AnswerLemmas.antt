-- What the calls behind one answer add to what was answered.
use Rattle.std.proofs.Common.{◌≡◌, ℕ, zero, suc, List, [], ◌∷◌, ◌++◌, Bool, true, Ok, Err, refl, ap, ◌∙◌, replicate}
use Rattle.std.proofs.lemmas.List.{append-nil}
use Rattle.std.proofs.lemmas.List.Concat.{flat_map-append}
use Rattle.jsonpath_streams.specs.Answers.{CallAnswer, IsTold, bytes_in, bytes_in_answer}

no_bytes : (n : ℕ) → bytes_in (replicate n (Err true)) ≡ []
no_bytes zero = refl
no_bytes (suc n) = no_bytes n

bytes_told : (most : ℕ) (before after : List CallAnswer) (answer : CallAnswer) → IsTold most before after answer → bytes_in after ≡ bytes_in before ++ bytes_in_answer answer
bytes_told most before after answer told =
    let tries = replicate told.interrupted (Err true) in
    ap bytes_in told.answers ∙ flat_map-append bytes_in_answer before (tries ++ answer ∷ [])
    ∙ ap (λ xs. bytes_in before ++ xs) (flat_map-append bytes_in_answer tries (answer ∷ []) ∙ ap (λ xs. xs ++ bytes_in (answer ∷ [])) (no_bytes told.interrupted) ∙ append-nil (bytes_in_answer answer))

-- the bytes that went through are those of the answer that is told
pub bytes_taken : (most : ℕ) (before after : List CallAnswer) (bytes : List ℕ) → IsTold most before after (Ok bytes) → bytes_in after ≡ bytes_in before ++ bytes
bytes_taken most before after bytes told = bytes_told most before after (Ok bytes) told

-- none where it is told that the call was refused
pub bytes_kept : (most : ℕ) (before after : List CallAnswer) (is_interrupted : Bool) → IsTold most before after (Err is_interrupted) → bytes_in after ≡ bytes_in before
bytes_kept most before after is_interrupted told = bytes_told most before after (Err is_interrupted) told ∙ append-nil (bytes_in before)
