-- The tokens found from left to right are those of the text.
use Rattle.std.proofs.Common.{◌≡◌, ◌<◌, ◌+◌, ℕ, zero, suc, List, [], length, take, drop, Option, Some, None, refl, sym, ◌∙◌, ap, subst, arith, length-drop}
use Rattle.std.specs.Str.{chars}
use Rattle.jsonpath_paths.specs.Grammar.{Lexemes, SpellsPath}
use Rattle.jsonpath_paths.specs.token.Kinds.{IsFirst, HasNone}
use Rattle.std.specs.Prelude.{option_map, Result, IfOk, IfErr}
use Rattle.jsonpath_paths.specs.plan.NextToken.{next_at, next_by, token_of}
use Rattle.jsonpath_paths.specs.text.TextPlace.{Place, ahead, past, span_to}
use Rattle.jsonpath_paths.specs.token.Refusals.{fault}
use Rattle.jsonpath_paths.specs.token.Reading.{Reading, reading_from, first, and_then}
use Rattle.jsonpath_paths.specs.text.Spans.{IsSpan}
use Rattle.jsonpath_paths.specs.Spelling.{Spells}
use Rattle.jsonpath_paths.specs.text.Characters.{byte_len}
use Rattle.jsonpath_paths.specs.token.Tokens.{TokensAt, no_token, one_token, lexeme, token, kind_of, span_of, TakesToken}
use Rattle.jsonpath_paths.specs.tree.Tree.{Path}
use Rattle.jsonpath_paths.specs.declared.text.str_reader.StrRange.{StrRange}
use Rattle.jsonpath_paths.specs.declared.token.tokens.Kind.{Kind}
use Rattle.jsonpath_paths.specs.declared.token.tokens.Kind.TheVariants as k
use Rattle.jsonpath_paths.specs.declared.token.tokens.Token.{Token}
use Rattle.jsonpath_paths.specs.declared.token.tokens.TokenError.{TokenError}
use Rattle.jsonpath_paths.proofs.token.FoundLemmas.{first_is}
use Rattle.jsonpath_paths.proofs.token.LongestLemmas.{first_has_none}
use Rattle.jsonpath_paths.proofs.token.ReadingLemmas.{more_at, end_at}

abbrev Reads : ℕ → List ℕ → Reading → Type 0
Reads pos cs r = TokensAt pos cs r.lexemes r.rest

-- the tokens found are the text's
pub reads : (fuel pos : ℕ) (cs : List ℕ) → length cs < fuel → Reads pos cs (reading_from 0 pos cs)
reads zero pos cs h = absurd (omega arith)
reads (suc fuel) pos cs h = by_first (first cs) refl (λ n small. reads fuel (pos + byte_len (take n cs)) (drop n cs) small)
  where
    by_first : (o : Option (Kind × ℕ)) → first cs ≡ o → ((n : ℕ) → length (drop n cs) < fuel → Reads (pos + byte_len (take n cs)) (drop n cs) (reading_from 0 (pos + byte_len (take n cs)) (drop n cs)))
        → Reads pos cs (reading_from 0 pos cs)
    by_first None e more = subst (Reads pos cs) (sym (end_at pos cs e)) (no_token (first_has_none cs e))
    by_first (Some f) e more =
        let m = more_at pos cs f e in
        subst (Reads pos cs) (sym m.2) (one_token f.1 (first_is cs f.0 f.1 e) (more f.1 (omega (arith, m.0, m.1, length-drop f.1 cs))))

-- a first token is the one that is found
pub found_one : (cs : List ℕ) (kind : Kind) (n : ℕ) → IsFirst cs kind n → first cs ≡ Some (kind, n)
found_one cs kind n h = by_first (first cs) refl
  where
    by_first : (o : Option (Kind × ℕ)) → first cs ≡ o → first cs ≡ Some (kind, n)
    by_first None e = absurd (first_has_none cs e kind n h.within h.token)
    by_first (Some f) e =
        let found = first_is cs f.0 f.1 e in
        let most = (found.longest kind n h.within h.token).0 in
        let least = (h.longest f.0 f.1 found.within found.token).0 in
        let same : f.1 ≡ n = omega arith in
        let kinds = (h.longest f.0 f.1 found.within found.token).1 same in
        e ∙ (ap (λ m. Some (f.0, m)) same ∙ ap (λ k. Some (k, n)) kinds)

found_none : (cs : List ℕ) → HasNone cs → first cs ≡ None
found_none cs h = by_first (first cs) refl
  where
    by_first : (o : Option (Kind × ℕ)) → first cs ≡ o → first cs ≡ None
    by_first None e = e
    by_first (Some f) e = let found = first_is cs f.0 f.1 e in absurd (h f.0 f.1 found.within found.token)

-- the text's tokens are the ones that are found
pub read_so : {pos : ℕ} {cs rest : List ℕ} {ps : Lexemes} → TokensAt pos cs ps rest → (let r : Reading = record { lexemes = ps; rest = rest } in reading_from 0 pos cs ≡ r)
read_so (no_token {pos = pos} {cs = cs} h) = end_at pos cs (found_none cs h)
read_so (one_token {pos = pos} {cs = cs} {kind = kind} n h more) =
    (more_at pos cs (kind, n) (found_one cs kind n h)).2 ∙ ap (and_then (lexeme kind pos (take n cs))) (read_so more)

pub spells_found : (text : List ℕ) (p : Path) (found : Lexemes) → found ≡ (reading_from 0 0 (chars text)).lexemes → (reading_from 0 0 (chars text)).rest ≡ [] → SpellsPath text p found → Spells text p
spells_found text p found same whole spelled = grind (arith, reads)

pub found_spelled : (text : List ℕ) (p : Path) → Spells text p → ((reading_from 0 0 (chars text)).rest ≡ []) × SpellsPath text p (reading_from 0 0 (chars text)).lexemes
found_spelled text p h = grind (arith, read_so)

-- the token at the front

abbrev Taken : Place → Result Token TokenError × Place → Type 0
Taken p z = IfOk z.0 (λ t. TakesToken p t z.1)

-- a token tells its kind and its span
token_back : (kind : Kind) (s : StrRange) → (kind_of (token kind s) ≡ kind) × (span_of (token kind s) ≡ s)
token_back kind s = grind arith

pub token_taken : (p q : Place) (r : Result Token TokenError) → token_of (next_at p) ≡ (r, q) → IfOk r (λ t. TakesToken p t q)
token_taken p q r h = subst (Taken p) h (by_first (first (ahead p)) refl)
  where
    by_first : (o : Option (Kind × ℕ)) → first (ahead p) ≡ o → Taken p (token_of (next_by (option_map (λ f. (f.0, past p (take f.1 (ahead p)))) o) p))
    by_first None e = tt
    by_first (Some f) e =
        let s = span_to p (past p (take f.1 (ahead p))) in
        let same = (token_back f.0 s).0 in
        record {
          count = f.1;
          longest = subst (λ kind. IsFirst (ahead p) kind f.1) (sym same) (first_is (ahead p) f.0 f.1 e);
          behind = refl;
          spanned = (token_back f.0 s).1;
        }

pub none_taken : (p q : Place) (r : Result Token TokenError) → token_of (next_at p) ≡ (r, q) → IfErr r (λ e. HasNone (ahead p) × (q ≡ p) × (e ≡ fault p.pos (ahead p)))
none_taken p q r h = grind (arith, first_has_none)

pub token_within : (text : List ℕ) (kind : Kind) (s : StrRange) (t : Token) → t ≡ token kind s → IsSpan text s → IsSpan text (span_of t)
token_within text kind s t e h = subst (IsSpan text) (sym (ap span_of e ∙ (token_back kind s).1)) h
