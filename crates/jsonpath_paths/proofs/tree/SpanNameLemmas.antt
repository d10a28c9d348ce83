-- At each span of the tree that a text spells stands a word or a quoted text.
use Rattle.std.proofs.Common.{◌≡◌, ◌≤◌, ◌+◌, ℕ, zero, suc, Bool, true, List, [], ◌∷◌, ◌++◌, length, take, drop, All, refl, sym, subst, ap, ◌∙◌, arith, length-append, length-drop}
use Rattle.std.specs.Str.{chars, IsUtf8}
use Rattle.std.proofs.lemmas.Bool.{and_from, and_parts, or_right}
use Rattle.std.proofs.lemmas.List.{drop-drop, take-append-drop}
use Rattle.std.proofs.lemmas.List.Elements.{All-cons, All-nil}
use Rattle.std.proofs.lemmas.Str.{encodes-chars, scalars-chars, chars-encodes, encodes-append, IsCharBoundary-from_drop}
use Rattle.std.proofs.Math.Seq.{drop-append_seam, take-append_seam}
use lib.Utf8.{scalars, encodes}
use Rattle.jsonpath_paths.specs.Grammar.{Lexemes}
use Rattle.jsonpath_paths.proofs.parser.FormLemmas.{quote_kind}
use Rattle.jsonpath_paths.specs.token.Kinds.{is_token, is_name}
use Rattle.jsonpath_paths.specs.text.Spans.{IsSpan}
use Rattle.jsonpath_paths.specs.Spelling.{Spells}
use Rattle.jsonpath_paths.specs.text.Characters.{byte_len, byte_len_is, bytes_at}
use Rattle.jsonpath_paths.specs.token.Tokens.{TokensAt, no_token, one_token, lexeme}
use Rattle.jsonpath_paths.specs.tree.Tree.{Path}
use Rattle.jsonpath_paths.specs.tree.Visit.{MayReadPath}
use Rattle.jsonpath_paths.specs.declared.text.str_reader.StrRange.{StrRange}
use Rattle.jsonpath_paths.specs.declared.token.tokens.Kind.{Kind}
use Rattle.jsonpath_paths.specs.declared.token.tokens.Kind.TheVariants as k
use Rattle.jsonpath_paths.specs.declared.token.tokens.Lexeme.{Lexeme}
use Rattle.jsonpath_paths.proofs.tree.ReadableLemmas.{each_span}
use Rattle.jsonpath_paths.proofs.token.ReadingLemmas.{scalars_drop}

scalars_take : (n : ℕ) (cs : List ℕ) → scalars cs ≡ true → scalars (take n cs) ≡ true
scalars_take zero cs h = refl
scalars_take (suc n) [] h = h
scalars_take (suc n) (c ∷ cs) h = let both = and_parts _ _ h in and_from _ _ both.0 (scalars_take n cs both.1)

module _ (text : List ℕ) where
  abbrev IsPieceOf : Kind → StrRange → Type 0
  IsPieceOf kind s = IsSpan text s × (is_token kind (chars (bytes_at text s)) ≡ true)

  -- what stands at the span of a token, and behind it
  pub span_is : (pos : ℕ) (front later : List ℕ) → pos ≤ length text → scalars front ≡ true → scalars later ≡ true → IsUtf8 (drop pos text) → drop pos text ≡ encodes front ++ encodes later
      → IsSpan text (record { pos = pos; offset = byte_len front }) × (chars (bytes_at text (record { pos = pos; offset = byte_len front })) ≡ front) × (drop (pos + byte_len front) text ≡ encodes later)
  span_is pos front later within ok more u whole =
      let bytes : byte_len front ≡ length (encodes front) = byte_len_is front in
      let here : take (byte_len front) (drop pos text) ≡ encodes front =
      ap (take (byte_len front)) whole ∙ ap (λ n. take n (encodes front ++ encodes later)) bytes ∙ take-append_seam (encodes front) (encodes later) in
      let cut : drop (pos + byte_len front) text ≡ encodes later =
      sym (drop-drop (byte_len front) pos text) ∙ ap (drop (byte_len front)) whole ∙ ap (λ n. drop n (encodes front ++ encodes later)) bytes ∙ drop-append_seam (encodes front) (encodes later) in
      let size : pos + byte_len front ≤ length text = omega (arith, bytes, length-drop pos text, ap length whole, length-append (encodes front) (encodes later)) in
      let behind : IsUtf8 (drop (pos + byte_len front) text) = subst IsUtf8 (sym cut) (later, (more, refl)) in
      let span : IsSpan text (record { pos = pos; offset = byte_len front }) =
      record { within = size; start = IsCharBoundary-from_drop text pos within u; end = IsCharBoundary-from_drop text (pos + byte_len front) size behind } in
      (span, ap chars here ∙ chars-encodes front ok, cut)

  lexemes_are : {pos : ℕ} {cs rest : List ℕ} {ps : Lexemes} → TokensAt pos cs ps rest → pos ≤ length text → scalars cs ≡ true → drop pos text ≡ encodes cs → All (λ q. IsPieceOf q.kind q.span) ps
  lexemes_are (no_token none) within ok whole = All-nil (λ (q : Lexeme). IsPieceOf q.kind q.span)
  lexemes_are (one_token {pos = pos} {cs = cs} {kind = kind} {ps = ps} n first more) within ok whole =
      let utf8 : IsUtf8 (drop pos text) = subst IsUtf8 (sym whole) (cs, (ok, refl)) in
      let parts : drop pos text ≡ encodes (take n cs) ++ encodes (drop n cs) = whole ∙ ap encodes (sym (take-append-drop n cs)) ∙ encodes-append (take n cs) (drop n cs) in
      let here = span_is pos (take n cs) (drop n cs) within (scalars_take n cs ok) (scalars_drop n cs ok) utf8 parts in
      All-cons (λ (q : Lexeme). IsPieceOf q.kind q.span) (lexeme kind pos (take n cs)) ps (here.0, ap (is_token kind) here.1 ∙ first.token) (lexemes_are more here.0.within (scalars_drop n cs ok) here.2)

  abbrev IsNamed : StrRange → Type 0
  IsNamed s = IsSpan text s × (is_name (chars (bytes_at text s)) ≡ true)

  word_named : (s : StrRange) → IsPieceOf k.Key s → IsNamed s
  word_named s h = (h.0, rw (h.1) refl)

  quoted_named : (double : Bool) (s : StrRange) → IsPieceOf (quote_kind double) s → IsNamed s
  quoted_named double s h = grind (arith, or_right)

  pub names_read : (p : Path) → IsUtf8 text → Spells text p → MayReadPath (λ s. IsNamed s.now) p
  names_read p u h =
      let all = lexemes_are h.read (omega arith) (scalars-chars text u) (sym (encodes-chars text u)) in
      each_span IsPieceOf IsNamed word_named quoted_named text p h.tokens all h.spelled
