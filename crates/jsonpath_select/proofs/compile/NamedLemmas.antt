-- A text is a word or a quoted text exactly if its first token is one and takes the whole text.
use Rattle.std.proofs.Common.{◌≡◌, ◌+◌, ◌-◌, ◌==◌, ℕ, zero, suc, Bool, true, false, ◌||◌, List, [], ◌∷◌, length, take, Some, None, refl, sym, subst, ap, ◌∙◌, arith, eqb-true, chars, IsUtf8}
use Rattle.std.proofs.lemmas.Bool.{false_from_ne_true, eq-eqb, or_right}
use Rattle.std.proofs.lemmas.Str.{encodes-chars, len_utf8_bounds}
use Rattle.std.proofs.Math.Seq.{take-length}
use Rattle.jsonpath_paths.specs.token.Kinds.{is_word, is_quoted, is_name, is_token, IsFirst, HasNone}
use Rattle.jsonpath_paths.specs.text.TextPlace.{Place, ahead}
use Rattle.jsonpath_paths.specs.text.Characters.{byte_len, byte_len_is, double_quote, single_quote}
use Rattle.jsonpath_paths.specs.token.Tokens.{TakesToken, kind_of, span_of}
use Rattle.jsonpath_paths.specs.declared.text.str_reader.StrRange.{StrRange}
use Rattle.jsonpath_paths.specs.declared.token.tokens.Kind.{Kind}
use Rattle.jsonpath_paths.specs.declared.token.tokens.Kind.TheVariants as k
use Rattle.jsonpath_paths.specs.declared.token.tokens.Token.{Token}
use Rattle.jsonpath_paths.specs.declared.token.tokens.Token.TheVariants as token
use Rattle.jsonpath_select.specs.plan.Entries.{name_span}
use Rattle.jsonpath_select.proofs.step.QuotedLemmas.{ahead-start}

abbrev is_name_kind : Kind → Bool
is_name_kind k.Key = true
is_name_kind k.DoubleQuoted = true
is_name_kind k.SingleQuoted = true
is_name_kind _ = false

-- ---- lengths

bytes_of_text : (text : List ℕ) → IsUtf8 text → byte_len (chars text) ≡ length text
bytes_of_text text u = byte_len_is (chars text) ∙ ap length (encodes-chars text u)

-- a front of as many bytes is the whole
whole_front : (n : ℕ) (cs : List ℕ) → byte_len (take n cs) ≡ byte_len cs → take n cs ≡ cs
whole_front zero [] h = refl
whole_front zero (c ∷ cs) h = absurd (omega (arith, len_utf8_bounds c))
whole_front (suc n) [] h = refl
whole_front (suc n) (c ∷ cs) h = ap (λ (ds : List ℕ). c ∷ ds) (whole_front n cs (omega arith))

-- ---- names by kinds

pub name_from : (kind : Kind) (cs : List ℕ) → is_name_kind kind ≡ true → is_token kind cs ≡ true → is_name cs ≡ true
name_from k.Key cs h is = rw is refl
name_from k.DoubleQuoted cs h is = or_right (is_word cs) (is_quoted double_quote cs || is_quoted single_quote cs) (rw is refl)
name_from k.SingleQuoted cs h is = or_right (is_word cs) (is_quoted double_quote cs || is_quoted single_quote cs) (or_right (is_quoted double_quote cs) (is_quoted single_quote cs) is)
name_from _ cs h is = cc h

-- a name is a token of one of these kinds
no_name : (cs : List ℕ) → ((kind : Kind) → is_name_kind kind ≡ true → is_token kind cs ≡ true → ⊥) → is_name cs ≡ false
no_name cs h =
    let word : is_token k.Key cs ≡ false = false_from_ne_true (is_token k.Key cs) (h k.Key refl) in
    let double : is_token k.DoubleQuoted cs ≡ false = false_from_ne_true (is_token k.DoubleQuoted cs) (h k.DoubleQuoted refl) in
    let single : is_token k.SingleQuoted cs ≡ false = false_from_ne_true (is_token k.SingleQuoted cs) (h k.SingleQuoted refl) in
    rw (word, double, single) refl

span_kind : (t : Token) (s : StrRange) → name_span t ≡ Some s → (is_name_kind (kind_of t) ≡ true) × (span_of t ≡ s)
span_kind (token.Key s') s h = (refl, cc)
span_kind (token.DoubleQuoted s') s h = (refl, cc)
span_kind (token.SingleQuoted s') s h = (refl, cc)
span_kind _ s h = cc

other_kind : (t : Token) → name_span t ≡ None → is_name_kind (kind_of t) ≡ false
other_kind (token.Key s') h = cc
other_kind (token.DoubleQuoted s') h = cc
other_kind (token.SingleQuoted s') h = cc
other_kind _ h = refl

-- ---- the first token

abbrev start : List ℕ → Place
start text = record { text = text; pos = 0 }

all_of : (cs : List ℕ) (kind : Kind) → is_token kind cs ≡ true → is_token kind (take (length cs) cs) ≡ true
all_of cs kind h = ap (is_token kind) (take-length cs) ∙ h

first_of_text : (text : List ℕ) (t : Token) (to : Place) (h : TakesToken (start text) t to) → IsFirst (chars text) (kind_of t) h.count
first_of_text text t to h = subst (λ (cs : List ℕ). IsFirst cs (kind_of t) h.count) (ahead-start text) h.longest

-- how many bytes the first token takes
first_bytes : (text : List ℕ) (t : Token) (to : Place) (h : TakesToken (start text) t to) → (span_of t).offset ≡ byte_len (take h.count (chars text))
first_bytes text t to h =
    let all : to.pos - 0 ≡ to.pos = omega arith in
    let none : 0 + byte_len (take h.count (ahead (start text))) ≡ byte_len (take h.count (ahead (start text))) = omega arith in
    ap (λ (r : StrRange). r.offset) h.spanned ∙ all ∙ ap (λ (p : Place). p.pos) h.behind ∙ none ∙ ap (λ (cs : List ℕ). byte_len (take h.count cs)) (ahead-start text)

pub by_span : (text : List ℕ) (t : Token) (to : Place) (s : StrRange) → IsUtf8 text → TakesToken (start text) t to → name_span t ≡ Some s → (s.offset == length text) ≡ is_name (chars text)
by_span text t to s u h is = by_size (s.offset == length text) refl
  where
    first : IsFirst (chars text) (kind_of t) h.count
    first = first_of_text text t to h

    bytes : s.offset ≡ byte_len (take h.count (chars text))
    bytes = ap (λ (r : StrRange). r.offset) (sym (span_kind t s is).1) ∙ first_bytes text t to h

    by_size : (b : Bool) → (s.offset == length text) ≡ b → b ≡ is_name (chars text)
    by_size true e =
        let whole : take h.count (chars text) ≡ chars text = whole_front h.count (chars text) (sym bytes ∙ eqb-true s.offset (length text) e ∙ sym (bytes_of_text text u)) in
        sym (name_from (kind_of t) (chars text) (span_kind t s is).0 (ap (is_token (kind_of t)) (sym whole) ∙ first.token))
    by_size false e =
        sym (no_name (chars text) (λ kind of_name is_one.
        let most = (first.longest kind (length (chars text)) (omega arith) (all_of (chars text) kind is_one)).0 in
        let count : h.count ≡ length (chars text) = omega (arith, most, first.within) in
        let size : s.offset ≡ length text = bytes ∙ ap (λ n. byte_len (take n (chars text))) count ∙ ap byte_len (take-length (chars text)) ∙ bytes_of_text text u in
        cc (e, eq-eqb s.offset (length text) size)))

pub by_other : (text : List ℕ) (t : Token) (to : Place) → TakesToken (start text) t to → name_span t ≡ None → is_name (chars text) ≡ false
by_other text t to h is =
    let first = first_of_text text t to h in
    no_name (chars text) (λ kind of_name is_one.
    let longest = first.longest kind (length (chars text)) (omega arith) (all_of (chars text) kind is_one) in
    let count : length (chars text) ≡ h.count = omega (arith, longest.0, first.within) in
    cc (of_name, ap is_name_kind (longest.1 count), other_kind t is))

pub by_none : (text : List ℕ) → HasNone (ahead (start text)) → is_name (chars text) ≡ false
by_none text h =
    let none : HasNone (chars text) = subst HasNone (ahead-start text) h in
    no_name (chars text) (λ kind of_name is_one. none kind (length (chars text)) (omega arith) (all_of (chars text) kind is_one))
