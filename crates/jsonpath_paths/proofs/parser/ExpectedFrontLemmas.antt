-- The longest front of a text with which a path begins, and the tokens that are tried behind it.
use Rattle.std.proofs.Common.{◌≡◌, ◌<◌, ◌≤◌, ◌+◌, ◌-◌, ℕ, Bool, true, List, [], ◌∷◌, ◌++◌, length, take, Option, Some, None, refl, sym, subst, ap, ◌∙◌, arith, ◌⊎◌, inl, inr, cond, get_or, append-nil, length-append}
use Rattle.std.specs.Prelude.{is_some, is_none, unwrap_or, option_map, slice_index, ◌==◌, ◌↔◌}
use Rattle.std.specs.List.{list_any}
use Rattle.std.specs.Str.{chars, IsUtf8, IsCharBoundary}
use Rattle.std.proofs.lemmas.Bool.{cases_lt}
use Rattle.std.proofs.lemmas.List.{get_or_append_left, get_or-append_right, take_all, take_at}
use Rattle.std.proofs.lemmas.List.Folds.{list_any_at}
use Rattle.std.proofs.lemmas.List.Elements.{All-append, All-weaker, All-head, All-tail, All-cons, All-nil}
use Rattle.std.proofs.lemmas.Str.{IsCharBoundary-start, IsCharBoundary-end}
use Rattle.std.proofs.Math.Seq.{drop-append_seam, take-append_seam}
use Rattle.jsonpath_paths.specs.Expectations.{IsLongestFront, AreExpected, GoesOnWith, is_meant}
use Rattle.jsonpath_paths.specs.Grammar.{Lexemes}
use Rattle.jsonpath_paths.specs.Literals.{truth_of}
use Rattle.jsonpath_paths.specs.Numbers.{index_of, range_step_of, decimal_of, fraction_of}
use Rattle.jsonpath_paths.specs.RefusedAt.{end_of, BeginsPath}
use Rattle.jsonpath_paths.specs.Spelling.{IsInGrammar}
use Rattle.jsonpath_paths.specs.text.Characters.{bytes_at}
use Rattle.jsonpath_paths.specs.text.Spans.{IsSpan, AreSpans}
use Rattle.jsonpath_paths.specs.token.Tokens.{TokensAt, lexeme}
use Rattle.jsonpath_paths.specs.declared.parser.expected.Expected.{Expected}
use Rattle.jsonpath_paths.specs.declared.parser.expected.Expected.TheVariants.{Token}
use Rattle.jsonpath_paths.specs.declared.parser.expected.TheConstants.{OTHER_KINDS}
use Rattle.jsonpath_paths.specs.declared.text.str_reader.StrRange.{StrRange}
use Rattle.jsonpath_paths.specs.declared.token.tokens.Kind.{Kind}
use Rattle.jsonpath_paths.specs.declared.token.tokens.Kind.TheVariants as k
use Rattle.jsonpath_paths.specs.declared.token.tokens.Lexeme.{Lexeme}
use Rattle.jsonpath_paths.specs.plan.Expecting.{all_fed}
use Rattle.jsonpath_paths.specs.plan.Wants.{Want, Sign, stop, stop_on, feed, run, run_on, signs, whole_wants}
use Rattle.jsonpath_paths.proofs.parser.DerivationLemmas.{sound_path}
use Rattle.jsonpath_paths.proofs.parser.ExpectedLemmas.{all_meant}
use Rattle.jsonpath_paths.proofs.parser.FollowPathLemmas.{ends_read}
use Rattle.jsonpath_paths.proofs.parser.RefusedAtLemmas.{Refused, stopped, begins, begins_all, begins_next, longer, never_begins, runs, run_stops, spelled_stops, path_there, signs_same, reach_end}
use Rattle.jsonpath_paths.proofs.parser.WantsLemmas.{sample}
use Rattle.jsonpath_paths.proofs.token.FrontKeptLemmas.{Within, kept}
use Rattle.jsonpath_paths.proofs.token.TokenizedLemmas.{read_so}

-- a text with a word behind it

boundary_upon : (text word : List ℕ) (i : ℕ) → IsCharBoundary word 0 → IsCharBoundary text i → IsCharBoundary (text ++ word) i
boundary_upon text word i w h = (omega (arith, h.0, length-append text word), by_place (cases_lt i (length text)))
  where
    by_place : (i < length text) ⊎ (length text ≤ i) → i < length (text ++ word) → 128 ≤ slice_index (text ++ word) i → 192 ≤ slice_index (text ++ word) i
    by_place (inl less) within high = let same = get_or_append_left text word 0 i less in subst (λ b. 192 ≤ b) (sym same) (h.1 less (subst (λ b. 128 ≤ b) same high))
    by_place (inr more) within high =
        let none : i - length text ≡ 0 = omega (arith, h.0) in
        let same : slice_index (text ++ word) i ≡ slice_index word 0 = get_or-append_right text word (length text) i 0 refl more ∙ ap (slice_index word) none in
        let some : 0 < length word = omega (arith, h.0, length-append text word) in
        subst (λ b. 192 ≤ b) (sym same) (w.1 some (subst (λ b. 128 ≤ b) same high))

span_upon : (text word : List ℕ) (s : StrRange) → IsCharBoundary word 0 → IsSpan text s → IsSpan (text ++ word) s
span_upon text word s w h =
    record { within = omega (arith, h.within, length-append text word); start = boundary_upon text word s.pos w h.start; end = boundary_upon text word (s.pos + s.offset) w h.end }

-- a token behind the text
abbrev pub behind_text : List ℕ → List ℕ → Kind → Lexeme
behind_text text word kind = record { kind = kind; span = record { pos = length text; offset = length word } }

pub spans_upon : (text word : List ℕ) (front : Lexemes) (kind : Kind) → IsUtf8 word → AreSpans text front → AreSpans (text ++ word) (front ++ behind_text text word kind ∷ [])
spans_upon text word front kind utf8 h =
    let w = IsCharBoundary-start word utf8 in
    let P = λ (p : Lexeme). IsSpan (text ++ word) p.span in
    let last : IsSpan (text ++ word) (record { pos = length text; offset = length word }) = record {
      within = omega (arith, length-append text word);
      start = boundary_upon text word (length text) w (IsCharBoundary-end text);
      end = subst (IsCharBoundary (text ++ word)) (length-append text word) (IsCharBoundary-end (text ++ word));
    } in
    All-append P front (behind_text text word kind ∷ []) (All-weaker (λ p. IsSpan text p.span) P (λ p s. span_upon text word p.span w s) front h) (All-cons P (behind_text text word kind) [] last (All-nil P))

within_text : (text : List ℕ) (ps : Lexemes) → AreSpans text ps → Within (length text) ps
within_text text [] h = tt
within_text text (p ∷ ps) h = ((All-head (λ p. IsSpan text p.span) p ps h).within, within_text text ps (All-tail (λ p. IsSpan text p.span) p ps h))

-- whether all tokens are taken, by how many are left
abbrev pub all_taken : Option ℕ → Bool
all_taken o = unwrap_or o 0 == 0

pub taken_next : (text word : List ℕ) (front : Lexemes) (kind : Kind) (us : List Want) → AreSpans text front → run whole_wants (signs text front) ≡ Some us
    → all_taken (option_map length (stop (text ++ word) whole_wants (front ++ behind_text text word kind ∷ []))) ≡ is_some (feed us kind word)
taken_next text word front kind us h ran =
    let other = text ++ word in
    let t = behind_text text word kind in
    let same : take (length text) other ≡ take (length text) text = take-append_seam text word ∙ sym (take_all (length text) text (omega arith)) in
    let ran_there : run whole_wants (signs other front) ≡ Some us = ap (run whole_wants) (signs_same (length text) other text front same (within_text text front h)) ∙ ran in
    let bytes : bytes_at other t.span ≡ word = ap (take (length word)) (drop-append_seam text word) ∙ take_all (length word) word (omega arith) in
    ap (λ o. all_taken (option_map length o)) (run_stops other whole_wants us front (t ∷ []) ran_there)
    ∙ (ap (λ w. all_taken (option_map length (stop_on (feed us kind w) (t ∷ []) (λ vs. stop other vs [])))) bytes ∙ by_fed other t (feed us kind word))
  where
    by_end : (b : Bool) → all_taken (option_map length (cond {A = Option Lexemes} b None (Some []))) ≡ true
    by_end b = grind arith

    by_fed : (other : List ℕ) (t : Lexeme) (o : Option (List Want)) → all_taken (option_map length (stop_on o (t ∷ []) (λ vs. stop other vs []))) ≡ is_some o
    by_fed other t o = grind arith

-- the front

pub front_left : (text : List ℕ) (ts : Lexemes) (cs : List ℕ) → IsUtf8 text → TokensAt 0 (chars text) ts cs → IsLongestFront text (take (length ts - unwrap_or (option_map length (stop text whole_wants ts)) 0) ts)
front_left text ts cs utf8 read = by_stop (stop text whole_wants ts) refl
  where
    by_stop : (o : Option Lexemes) → stop text whole_wants ts ≡ o → IsLongestFront text (take (length ts - unwrap_or (option_map length o) 0) ts)
    by_stop None e =
        subst (IsLongestFront text) (sym (take_all (length ts - 0) ts (omega arith)))
        (record { later = []; rest = cs; read = subst (λ ps. TokensAt 0 (chars text) ps cs) (sym (append-nil ts)) read; begins = begins_all text ts cs utf8 read (inr e); longest = λ t more i. cc i })
    by_stop (Some here) e =
        let s = stopped text whole_wants ts here e in
        let front = s.0.front in
        let tokens = subst (λ ps. TokensAt 0 (chars text) ps cs) s.0.split read in
        let size : length front ≡ length ts - length here = omega (arith, ap length s.0.split, length-append front here) in
        subst (IsLongestFront text) (sym (ap (take (length ts - length here)) s.0.split ∙ take_at front here (length ts - length here) size))
        (record {
          later = here;
          rest = cs;
          read = tokens;
          begins = begins text front here cs s.0.left utf8 tokens s.0.ran;
          longest = λ t more i. never_begins text front more t cs s.0.left (subst (λ ps. TokensAt 0 (chars text) (front ++ ps) cs) i tokens) s.0.ran (subst (Refused text s.0.left) i s.1);
        })

none_left : (o : Option Lexemes) → is_none (option_map length o) ≡ true → o ≡ None
none_left o h = grind arith

pub a_path : (text : List ℕ) (ts : Lexemes) (cs : List ℕ) → TokensAt 0 (chars text) ts cs → cs ≡ [] → is_none (option_map length (stop text whole_wants ts)) ≡ true → IsInGrammar text
a_path text ts cs read whole h = grind (arith, ends_read, sound_path)

pub no_path : (text : List ℕ) (ts : Lexemes) (cs : List ℕ) → TokensAt 0 (chars text) ts cs → (is_none (option_map length (stop text whole_wants ts)) ≡ true → cs ≡ [] → ⊥) → IsInGrammar text → ⊥
no_path text ts cs read none g = grind (arith, path_there, read_so)

-- what may stand behind it

abbrev named : Expected → Kind
named (Token kind) = kind
named _ = k.Key

sample_meant : (e : Expected) → is_meant e (named e) (sample (named e)) ≡ true
unfolding index_of range_step_of decimal_of fraction_of truth_of
sample_meant e = grind arith

abbrev first_word : List Sign → List ℕ
first_word [] = []
first_word (s ∷ ss) = s.word

-- the sample of each kind that is reported goes on
goes_on_with : (text : List ℕ) (front later : Lexemes) (rest : List ℕ) (us : List Want) (e : Expected) → IsUtf8 text → TokensAt 0 (chars text) (front ++ later) rest → run whole_wants (signs text front) ≡ Some us
    → is_some (feed us (named e) (sample (named e))) ≡ true → GoesOnWith text front e
goes_on_with text front later rest us e utf8 read ran some = by_fed (feed us (named e) (sample (named e))) refl some
  where
    by_fed : (o : Option (List Want)) → feed us (named e) (sample (named e)) ≡ o → is_some o ≡ true → GoesOnWith text front e
    by_fed None f h = cc h
    by_fed (Some vs) f h =
        let w = longer text front later rest us vs (named e ∷ []) utf8 read ran (ap (λ o. run_on o (λ ws. Some ws)) f) in
        let t = lexeme (named e) w.pos (sample (named e)) in
        let bytes : bytes_at w.other t.span ≡ sample (named e) = ap first_word w.added in
        record {
          other = w.other;
          token = t;
          same = w.same;
          begins = begins_next w.other front [] t [] us vs w.utf8 w.read (ap (run whole_wants) w.kept_signs ∙ ran) (ap (feed us (named e)) bytes ∙ f);
          meant = ap (is_meant e (named e)) bytes ∙ sample_meant e;
        }

pub are_expected : (text : List ℕ) (front : Lexemes) (expected : List Expected) (left : Option ℕ) → IsUtf8 text → IsLongestFront text front
    → ((us : List Want) → run whole_wants (signs text front) ≡ Some us → expected ≡ all_fed us OTHER_KINDS) → left ≡ option_map length (stop text whole_wants front) → AreExpected text expected (is_none left)
are_expected text front expected left utf8 longest reported ended =
    let r = runs text front longest.later longest.rest longest.read longest.begins in
    record {
      front = front;
      longest = longest;
      tokens = λ other t later rest utf8 same read. behind r.0 r.1 other t later rest utf8 same read;
      each = λ i d less.
          let e = get_or expected i d in
          let meant = list_any_at (λ e'. is_meant e' (named e) (sample (named e))) expected i d less (sample_meant e) in
          goes_on_with text front longest.later longest.rest r.0 e utf8 longest.read r.1
          (sym (ap (list_any (λ e'. is_meant e' (named e) (sample (named e)))) (reported r.0 r.1) ∙ all_meant r.0 (named e) (sample (named e))) ∙ meant);
      ends = (
        λ h. let path = ends_read text front (none_left (stop text whole_wants front) (subst (λ o. is_none o ≡ true) ended h)) in (path.0, sound_path text front path.0 path.1),
        λ p. subst (λ o. is_none o ≡ true) (sym ended) (ap (λ o. is_none (option_map length o)) (spelled_stops text front p.0 p.1)),
      );
    }
  where
    behind : (us : List Want) → run whole_wants (signs text front) ≡ Some us → (other : List ℕ) (t : Lexeme) (later : Lexemes) (rest : List ℕ) → IsUtf8 other → take (end_of front) other ≡ take (end_of front) text
        → TokensAt 0 (chars other) (front ++ t ∷ later) rest → BeginsPath other (front ++ t ∷ []) ↔ (list_any (λ e. is_meant e t.kind (bytes_at other t.span)) expected ≡ true)
    behind us ran other t later rest utf8 same read =
        let w = bytes_at other t.span in
        let k = kept front (t ∷ later) (chars other) rest read in
        let within : Within (end_of front) front = subst (λ n. Within n front) (sym (sym (reach_end front) ∙ k.end)) k.within in
        let ran_there : run whole_wants (signs other front) ≡ Some us = ap (run whole_wants) (signs_same (end_of front) other text front same within) ∙ ran in
        let meant : list_any (λ e. is_meant e t.kind w) expected ≡ is_some (feed us t.kind w) = ap (list_any (λ e. is_meant e t.kind w)) (reported us ran) ∙ all_meant us t.kind w in
        by_fed (feed us t.kind w) refl meant ran_there
      where
        by_fed : (o : Option (List Want)) → feed us t.kind (bytes_at other t.span) ≡ o → list_any (λ e. is_meant e t.kind (bytes_at other t.span)) expected ≡ is_some o → run whole_wants (signs other front) ≡ Some us
            → BeginsPath other (front ++ t ∷ []) ↔ (list_any (λ e. is_meant e t.kind (bytes_at other t.span)) expected ≡ true)
        by_fed o e m ran_there = grind (arith, begins_next, never_begins)
