-- The tokens at the front of a text stay its tokens where what follows them is changed.
use Rattle.std.proofs.Common.{◌≡◌, ◌<◌, ◌≤◌, ◌+◌, ℕ, Bool, true, List, [], ◌∷◌, ◌++◌, length, take, drop, Some, refl, sym, subst, ap, ◌∙◌, arith, append_assoc, length-append, length-take}
use Rattle.std.proofs.lemmas.List.{take-append-drop}
use Rattle.jsonpath_paths.specs.Grammar.{Lexemes}
use Rattle.jsonpath_paths.specs.RefusedAt.{end_of}
use Rattle.jsonpath_paths.specs.text.Characters.{byte_len}
use Rattle.jsonpath_paths.specs.token.Reading.{first}
use Rattle.jsonpath_paths.specs.token.Tokens.{TokensAt, no_token, one_token, lexeme}
use Rattle.jsonpath_paths.specs.declared.token.tokens.Kind.{Kind}
use Rattle.jsonpath_paths.specs.declared.token.tokens.Lexeme.{Lexeme}
use Rattle.jsonpath_paths.proofs.token.FoundLemmas.{first_is}
use Rattle.jsonpath_paths.proofs.token.KeptLemmas.{ends, GoesOn, EndsAlike, first_stays}
use Rattle.jsonpath_paths.proofs.token.ReadingLemmas.{more_at}
use Rattle.jsonpath_paths.proofs.token.TokenizedLemmas.{found_one}
use Rattle.jsonpath_paths.proofs.tree.FencedLemmas.{token_then}

-- where tokens end that begin at this byte
abbrev pub reach : ℕ → Lexemes → ℕ
reach pos [] = pos
reach pos (p ∷ ps) = end_of (p ∷ ps)

-- each ends at this byte or before
abbrev pub Within : ℕ → Lexemes → Type 0
Within n [] = Unit {0}
Within n (p ∷ ps) = (p.span.pos + p.span.offset ≤ n) × Within n ps

-- the last of them is no longer by these characters behind it
abbrev pub LastEnds : Lexemes → List ℕ → Type 0
LastEnds [] w = Unit {0}
LastEnds (p ∷ []) w = (test : ℕ → Bool) → GoesOn p.kind test → ends test w ≡ true
LastEnds (p ∷ q ∷ ps) w = LastEnds (q ∷ ps) w

pub record Kept (pos : ℕ) (cs : List ℕ) (front here : Lexemes) : Type 0 where
  pub characters : List ℕ
  pub tail : List ℕ
  pub split : cs ≡ characters ++ tail
  pub end : reach pos front ≡ pos + byte_len characters
  pub within : Within (pos + byte_len characters) front
  pub some : 0 < length front → 0 < length characters
  pub again : (w : List ℕ) (later : Lexemes) → LastEnds front w → TokensAt (pos + byte_len characters) w later [] → TokensAt pos (characters ++ w) (front ++ later) []

pub byte_len_upon : (us vs : List ℕ) → byte_len (us ++ vs) ≡ byte_len us + byte_len vs
byte_len_upon [] vs = omega arith
byte_len_upon (u ∷ us) vs = omega (arith, byte_len_upon us vs)

pub reach_on : (p : Lexeme) (ps : Lexemes) → end_of (p ∷ ps) ≡ reach (p.span.pos + p.span.offset) ps
reach_on p ps = grind arith

last_on : (p : Lexeme) (ps : Lexemes) (w : List ℕ) → LastEnds (p ∷ ps) w → LastEnds ps w
last_on p ps w h = grind arith

alike_on : (kind : Kind) (p : Lexeme) (fs : Lexemes) (c tail w : List ℕ) → p.kind ≡ kind → (0 < length fs → 0 < length c) → LastEnds (p ∷ fs) w → EndsAlike kind (c ++ tail) (c ++ w)
alike_on kind p fs (d ∷ c) tail w e some last = λ test may h. h
alike_on kind p [] [] tail w e some last = λ test may h. last test (subst (λ x. GoesOn x test) (sym e) may)
alike_on kind p (q ∷ fs) [] tail w e some last = grind arith

one_more : (pos : ℕ) (u v : List ℕ) (p : Lexeme) (kind : Kind) (fs here : Lexemes) → p ≡ lexeme kind pos u → 0 < length u → first (u ++ v) ≡ Some (kind, length u) → Kept (pos + byte_len u) v fs here
    → Kept pos (u ++ v) (p ∷ fs) here
one_more pos u v p kind fs here is some found r =
    let c = r.characters in
    let size : pos + byte_len u + byte_len c ≡ pos + byte_len (u ++ c) = omega (arith, byte_len_upon u c) in
    let p_end : p.span.pos + p.span.offset ≡ pos + byte_len u = ap (λ (x : Lexeme). x.span.pos + x.span.offset) is in
    record {
      characters = u ++ c;
      tail = r.tail;
      split = ap (λ x. u ++ x) r.split ∙ sym (append_assoc u c r.tail);
      end = reach_on p fs ∙ (ap (λ n. reach n fs) p_end ∙ (r.end ∙ size));
      within = (omega (arith, p_end, byte_len_upon u c), subst (λ n. Within n fs) size r.within);
      some = λ h. omega (arith, some, length-append u c);
      again = λ w later last more.
          let inner : TokensAt (pos + byte_len u) (c ++ w) (fs ++ later) [] = r.again w later (last_on p fs w last) (subst (λ n. TokensAt n w later []) (sym size) more) in
          let alike : EndsAlike kind v (c ++ w) = subst (λ x. EndsAlike kind x (c ++ w)) (sym r.split) (alike_on kind p fs c r.tail w (ap (λ (x : Lexeme). x.kind) is) r.some last) in
          let stays = first_is (u ++ (c ++ w)) kind (length u) (first_stays u v (c ++ w) kind some alike found) in
          subst (λ x. TokensAt pos x (p ∷ (fs ++ later)) []) (sym (append_assoc u c w))
          (subst (λ (x : Lexeme). TokensAt pos (u ++ (c ++ w)) (x ∷ (fs ++ later)) []) (sym is) (token_then pos u (c ++ w) kind (fs ++ later) stays inner));
    }

front_kept : (front here : Lexemes) (pos : ℕ) (cs rest : List ℕ) (ps : Lexemes) → ps ≡ front ++ here → TokensAt pos cs ps rest → Kept pos cs front here
front_kept [] here pos cs rest ps e h = grind arith
front_kept (p ∷ fs) here pos cs rest ps e (no_token none) = cc e
front_kept (p ∷ fs) here pos cs rest ps e (one_token {kind = kind} {ps = qs} n is more) =
    let left : qs ≡ fs ++ here = cc e in
    let same : lexeme kind pos (take n cs) ≡ p = cc e in
    let found = found_one cs kind n is in
    let m = more_at pos cs (kind, n) found in
    let size : length (take n cs) ≡ n = omega (arith, length-take n cs, m.1) in
    let whole : take n cs ++ drop n cs ≡ cs = take-append-drop n cs in
    subst (λ x. Kept pos x (p ∷ fs) here) whole
    (one_more pos (take n cs) (drop n cs) p kind fs here (sym same) (omega (arith, size, m.0))
    (ap first whole ∙ (found ∙ ap (λ m. let x : Kind × ℕ = (kind, m) in Some x) (sym size)))
    (front_kept fs here (pos + byte_len (take n cs)) (drop n cs) rest qs left more))

-- the front of the tokens of a text
pub kept : (front here : Lexemes) (cs rest : List ℕ) → TokensAt 0 cs (front ++ here) rest → Kept 0 cs front here
kept front here cs rest h = front_kept front here 0 cs rest (front ++ here) refl h
