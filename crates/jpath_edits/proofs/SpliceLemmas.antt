-- One more part of a text that gives way.
use Rattle.std.proofs.Common.{◌≡◌, ℕ, ◌+◌, ◌-◌, ◌<◌, ◌≤◌, List, [], ◌∷◌, ◌++◌, length, map, take, drop, slice_index_or, add-one, sym, ap, ap₂, ◌∙◌, arith, append_assoc, append-nil}
use Rattle.std.proofs.Math.Seq.{take-add, take-suc}
use Rattle.std.proofs.lemmas.Grind.{flat_map-append}
use Rattle.std.proofs.lemmas.List.{map-append}
use Rattle.jpath_edits.specs.Changed.{Cut, whole, replaced, part_text, IsSplicedAt}
use Rattle.jpath_edits.specs.declared.parts.part.Part.{Part}

pub take_on : (xs : List ℕ) (i j : ℕ) → i ≤ j → take j xs ≡ take i xs ++ take (j - i) (drop i xs)
take_on xs i j le = let sum : j ≡ i + (j - i) = omega arith in ap (λ n. take n xs) sum ∙ take-add i (j - i) xs

-- the stretch from a place up to the part, and the part
pub cut_at : List ℕ → ℕ → ℕ → ℕ → Cut
cut_at text at start end = record { kept = take (start - at) (drop at text); gone = take (end - start) (drop start text) }

pub whole_more : (text : List ℕ) (cuts : List Cut) (at start end : ℕ) → at ≤ start → start ≤ end → take at text ≡ whole cuts → take end text ≡ whole (cuts ++ cut_at text at start end ∷ [])
unfolding cut_at
whole_more text cuts at start end h i so_far =
    take_on text start end i ∙ ap (λ ys. ys ++ take (end - start) (drop start text)) (take_on text at start h) ∙ append_assoc (take at text) (take (start - at) (drop at text)) (take (end - start) (drop start text))
    ∙ ap₂ (λ (xs ys : List ℕ). xs ++ ys) so_far (sym (append-nil (take (start - at) (drop at text) ++ take (end - start) (drop start text))))
    ∙ sym (flat_map-append (λ (c : Cut). c.kept ++ c.gone) cuts (cut_at text at start end ∷ []))

pub replaced_more : (put text : List ℕ) (cuts : List Cut) (at start end : ℕ) (xs ys zs : List ℕ) → xs ≡ replaced put cuts → ys ≡ xs ++ take (start - at) (drop at text) → zs ≡ ys ++ put → zs ≡ replaced put (cuts ++ cut_at text at start end ∷ [])
unfolding cut_at
replaced_more put text cuts at start end xs ys zs so_far kept behind =
    behind ∙ ap (λ us. us ++ put) kept ∙ append_assoc xs (take (start - at) (drop at text)) put
    ∙ ap₂ (λ (us vs : List ℕ). us ++ vs) so_far (sym (append-nil (take (start - at) (drop at text) ++ put)))
    ∙ sym (flat_map-append (λ (c : Cut). c.kept ++ put) cuts (cut_at text at start end ∷ []))

pub gone_more : (text : List ℕ) (cuts : List Cut) (parts : List Part) (i at : ℕ) (none : Part) → i < length parts → map (λ c. c.gone) cuts ≡ map (part_text text) (take i parts)
    → map (λ c. c.gone) (cuts ++ cut_at text at (slice_index_or parts i none).start (slice_index_or parts i none).end ∷ []) ≡ map (part_text text) (take (i + 1) parts)
unfolding cut_at
gone_more text cuts parts i at none lt so_far =
    let part = slice_index_or parts i none in
    map-append (λ (c : Cut). c.gone) cuts (cut_at text at part.start part.end ∷ [])
    ∙ ap (λ (us : List (List ℕ)). us ++ part_text text part ∷ []) so_far
    ∙ sym (map-append (part_text text) (take i parts) (part ∷ []))
    ∙ ap (map (part_text text)) (sym (ap (λ n. take n parts) (add-one i) ∙ take-suc parts i none lt))

pub spliced_at : (parts : List Part) (put text written : List ℕ) (cuts : List Cut) (rest : List ℕ) → text ≡ whole cuts ++ rest → written ≡ replaced put cuts ++ rest → map (λ c. c.gone) cuts ≡ map (part_text text) parts → IsSplicedAt parts put text written
spliced_at parts put text written cuts rest before after gone = record {
  spliced = record { cuts = cuts; rest = rest; before = before; after = after };
  gone = gone;
}
