-- Where the machine of wants stops, the grammar refuses the text.
use Rattle.std.proofs.Common.{◌≡◌, ◌≤◌, ◌+◌, ℕ, zero, suc, Bool, true, false, List, [], ◌∷◌, ◌++◌, length, take, drop, Option, Some, None, cond, refl, sym, subst, ap, ap₂, ◌∙◌, arith, append_assoc, append-nil, length-append, ◌⊎◌, inl, inr, rules}
use Rattle.std.specs.Prelude.{if◌then◌else◌}
use Rattle.std.specs.Char.{len_utf8}
use Rattle.std.specs.Str.{chars, IsUtf8}
use Rattle.std.proofs.Math.Seq.{drop-append_seam, take-append_seam}
use Rattle.std.proofs.lemmas.Str.{encodes-append}
use lib.Utf8.{scalars, encodes}
use Rattle.jsonpath_paths.specs.Grammar.{Lexemes, SpellsPath}
use Rattle.jsonpath_paths.specs.RefusedAt.{end_of, BeginsPath, place_in, RefusedAt, at_token, at_character, at_end}
use Rattle.jsonpath_paths.specs.tree.Tree.{Path}
use Rattle.jsonpath_paths.specs.text.Characters.{byte_len, byte_len_is, bytes_at, is_quote}
use Rattle.jsonpath_paths.specs.token.Tokens.{TokensAt}
use Rattle.jsonpath_paths.specs.declared.token.tokens.Kind.{Kind}
use Rattle.jsonpath_paths.specs.declared.token.tokens.Lexeme.{Lexeme}
use Rattle.jsonpath_paths.specs.declared.token.tokens.TokenError.{TokenError}
use Rattle.jsonpath_paths.specs.declared.token.tokens.TokenError.TheVariants.{Eof}
use Rattle.jsonpath_paths.specs.Spelling.{IsInGrammar}
use Rattle.jsonpath_paths.specs.WholeText.{place_after, place_of_text}
use Rattle.jsonpath_paths.specs.plan.Wants.{Want, Sign, signs, stop, stop_on, feed, run, run_on, may_end, whole_wants}
use Rattle.jsonpath_paths.proofs.parser.DerivationLemmas.{sound_path, complete_path}
use Rattle.jsonpath_paths.proofs.parser.EndedLemmas.{characters_of, lexemes_of, ends_there, added_tokens, added_scalars, added_signs}
use Rattle.jsonpath_paths.proofs.parser.FollowPathLemmas.{read_ends, ends_read}
use Rattle.jsonpath_paths.proofs.parser.ApartLemmas.{Apart, safe, fed_safe, safe_real}
use Rattle.jsonpath_paths.proofs.parser.WantsLemmas.{endings, kinds_of, samples, goes_on, all_end, run_behind}
use Rattle.jsonpath_paths.proofs.token.FrontKeptLemmas.{reach, Within, LastEnds, kept}
use Rattle.jsonpath_paths.proofs.tree.FencedLemmas.{At, scalars_both, scalars_parts}
use Rattle.jsonpath_paths.proofs.token.TokenizedLemmas.{reads, read_so, found_spelled}
use Rattle.jsonpath_paths.specs.token.Reading.{reading_from}
use Rattle.jsonpath_paths.specs.text.Spans.{Tile}
use Rattle.jsonpath_paths.specs.text.TextPlace.{Place, ahead}
use Rattle.jsonpath_paths.specs.plan.RefusedPlace.{behind_character, refused_place}
use Rattle.jsonpath_paths.proofs.parser.SoundLemmas.{some_same}
use Rattle.std.proofs.lemmas.Str.{encodes-chars, chars-encodes, scalars-chars}

-- the machine over the signs of tokens

-- the tokens that ran, and why no more did
pub record Stopped (text : List ℕ) (ws : List Want) (ts here : Lexemes) : Type 0 where
  pub front : Lexemes
  pub left : List Want
  pub split : ts ≡ front ++ here
  pub ran : run ws (signs text front) ≡ Some left

-- the next token may not come
abbrev pub Refused : List ℕ → List Want → Lexemes → Type 0
Refused text ws [] = Unit {0}
Refused text ws (t ∷ ts) = feed ws t.kind (bytes_at text t.span) ≡ None

abbrev pub StoppedSo : List ℕ → List Want → Lexemes → Lexemes → Type 0
StoppedSo text ws ts here = (s : Stopped text ws ts here) × Refused text s.left here

pub stopped : (text : List ℕ) (ws : List Want) (ts here : Lexemes) → stop text ws ts ≡ Some here → StoppedSo text ws ts here
stopped text ws [] here h = by_end (may_end ws) h
  where
    at_start : [] ≡ here → StoppedSo text ws [] here
    at_start e = subst (StoppedSo text ws []) e (record { front = []; left = ws; split = refl; ran = refl }, tt)

    by_end : (b : Bool) → cond {A = Option Lexemes} b None (Some []) ≡ Some here → StoppedSo text ws [] here
    by_end b h = grind (arith, at_start)
stopped text ws (p ∷ ps) here h = by_fed (feed ws p.kind (bytes_at text p.span)) refl h (λ us i. stopped text us ps here i)
  where
    by_fed : (o : Option (List Want)) → feed ws p.kind (bytes_at text p.span) ≡ o → stop_on o (p ∷ ps) (λ us. stop text us ps) ≡ Some here
        → ((us : List Want) → stop text us ps ≡ Some here → StoppedSo text us ps here) → StoppedSo text ws (p ∷ ps) here
    by_fed None e h more = subst (StoppedSo text ws (p ∷ ps)) (some_same (p ∷ ps) here h) (record { front = []; left = ws; split = refl; ran = refl }, e)
    by_fed (Some us) e h more =
        let r = more us h in
        (record { front = p ∷ r.0.front; left = r.0.left; split = ap (λ x. p ∷ x) r.0.split; ran = ap (λ o. run_on o (λ vs. run vs (signs text r.0.front))) e ∙ r.0.ran }, r.1)

-- all tokens ran, and a path may end there
abbrev AllRan : List ℕ → List Want → Lexemes → Type 0
AllRan text ws ts = (us : List Want) × (run ws (signs text ts) ≡ Some us) × (may_end us ≡ true)

all_ran : (text : List ℕ) (ws : List Want) (ts : Lexemes) → stop text ws ts ≡ None → AllRan text ws ts
all_ran text ws [] h = grind arith
all_ran text ws (p ∷ ps) h = by_fed (feed ws p.kind (bytes_at text p.span)) refl h (λ us i. all_ran text us ps i)
  where
    by_fed : (o : Option (List Want)) → feed ws p.kind (bytes_at text p.span) ≡ o → stop_on o (p ∷ ps) (λ us. stop text us ps) ≡ None
        → ((us : List Want) → stop text us ps ≡ None → AllRan text us ps) → AllRan text ws (p ∷ ps)
    by_fed o e h more = grind arith

pub run_stops : (text : List ℕ) (ws us : List Want) (front here : Lexemes) → run ws (signs text front) ≡ Some us → stop text ws (front ++ here) ≡ stop text us here
run_stops text ws us [] here h = ap (λ vs. stop text vs here) (some_same ws us h)
run_stops text ws us (p ∷ ps) here h = by_fed (feed ws p.kind (bytes_at text p.span)) h (λ vs i. run_stops text vs us ps here i)
  where
    by_fed : (o : Option (List Want)) → run_on o (λ vs. run vs (signs text ps)) ≡ Some us
        → ((vs : List Want) → run vs (signs text ps) ≡ Some us → stop text vs (ps ++ here) ≡ stop text us here) → stop_on o (p ∷ (ps ++ here)) (λ vs. stop text vs (ps ++ here)) ≡ stop text us here
    by_fed o h more = grind arith

-- the machine stops behind all tokens, or they are the end of a path
pub stops_behind : (text : List ℕ) (us : List Want) (front : Lexemes) → run whole_wants (signs text front) ≡ Some us → stop text whole_wants front ≡ stop text us []
stops_behind text us front h = subst (λ ps. stop text whole_wants ps ≡ stop text us []) (append-nil front) (run_stops text whole_wants us front [] h)

-- tokens of two texts that begin alike

signs_upon : (text : List ℕ) (ps qs : Lexemes) → signs text (ps ++ qs) ≡ signs text ps ++ signs text qs
signs_upon text [] qs = refl
signs_upon text (p ∷ ps) qs = ap (λ x. record { kind = p.kind; word = bytes_at text p.span } ∷ x) (signs_upon text ps qs)

shorter_cut : (k n : ℕ) (xs : List ℕ) → k ≤ n → take k (take n xs) ≡ take k xs
shorter_cut zero n xs h = refl
shorter_cut (suc k) zero xs h = absurd (omega arith)
shorter_cut (suc k) (suc n) [] h = refl
shorter_cut (suc k) (suc n) (x ∷ xs) h = ap (λ ys. x ∷ ys) (shorter_cut k n xs (omega arith))

cut_within : (i k n : ℕ) (xs : List ℕ) → i + k ≤ n → take k (drop i (take n xs)) ≡ take k (drop i xs)
cut_within zero k n xs h = shorter_cut k n xs (omega arith)
cut_within (suc i) k zero xs h = absurd (omega arith)
cut_within (suc i) k (suc n) [] h = refl
cut_within (suc i) k (suc n) (x ∷ xs) h = cut_within i k n xs (omega arith)

pub signs_same : (n : ℕ) (here there : List ℕ) (ps : Lexemes) → take n here ≡ take n there → Within n ps → signs here ps ≡ signs there ps
signs_same n here there [] e h = refl
signs_same n here there (p ∷ ps) e h =
    let bytes : bytes_at here p.span ≡ bytes_at there p.span =
    sym (cut_within p.span.pos p.span.offset n here h.0) ∙ (ap (λ x. take p.span.offset (drop p.span.pos x)) e ∙ cut_within p.span.pos p.span.offset n there h.0) in
    ap₂ (λ (w : List ℕ) (more : List Sign). record { kind = p.kind; word = w } ∷ more) bytes (signs_same n here there ps e h.1)

-- what the last of these tokens leaves takes none that it may be longer by
abbrev LastApart : Lexemes → List Want → Type 0
LastApart [] us = Unit {0}
LastApart (p ∷ []) us = Apart p.kind us
LastApart (p ∷ q ∷ ps) us = LastApart (q ∷ ps) us

ran_apart : (text : List ℕ) (vs us : List Want) (ps : Lexemes) → safe vs ≡ true → run vs (signs text ps) ≡ Some us → (safe us ≡ true) × LastApart ps us
ran_apart text vs us [] s h = (subst (λ x. safe x ≡ true) (some_same vs us h) s, tt)
ran_apart text vs us (p ∷ ps) s h = by_fed (feed vs p.kind (bytes_at text p.span)) refl h (λ ws g i. ran_apart text ws us ps g i)
  where
    last : (ws : List Want) (ps : Lexemes) → run ws (signs text ps) ≡ Some us → Apart p.kind ws → LastApart ps us → LastApart (p ∷ ps) us
    last ws ps h a b = grind arith

    by_fed : (o : Option (List Want)) → feed vs p.kind (bytes_at text p.span) ≡ o → run_on o (λ ws. run ws (signs text ps)) ≡ Some us
        → ((ws : List Want) → safe ws ≡ true → run ws (signs text ps) ≡ Some us → (safe us ≡ true) × LastApart ps us) → (safe us ≡ true) × LastApart (p ∷ ps) us
    by_fed o e h more = grind (arith, fed_safe, last)

last_ends : (us vs : List Want) (ps : Lexemes) (kinds : List Kind) → LastApart ps us → run us (samples kinds) ≡ Some vs → LastEnds ps (characters_of kinds)
last_ends us vs [] kinds a h = tt
last_ends us vs (p ∷ []) kinds a h = λ test g. ends_there us vs p.kind kinds test a h g
last_ends us vs (p ∷ q ∷ ps) kinds a h = last_ends us vs (q ∷ ps) kinds a h

pub reach_end : (front : Lexemes) → reach 0 front ≡ end_of front
reach_end front = grind arith

front_bytes : (cs ds : List ℕ) → take (byte_len cs) (encodes (cs ++ ds)) ≡ encodes cs
front_bytes cs ds = ap₂ (λ n xs. take n xs) (byte_len_is cs) (encodes-append cs ds) ∙ take-append_seam (encodes cs) (encodes ds)

-- a text that begins with the tokens that ran, and goes on with samples that may come next
pub record Longer (text : List ℕ) (front : Lexemes) (kinds : List Kind) : Type 0 where
  pub other : List ℕ
  pub pos : ℕ
  pub utf8 : IsUtf8 other
  pub same : take (end_of front) other ≡ take (end_of front) text
  pub read : TokensAt 0 (chars other) (front ++ lexemes_of pos kinds) []
  pub kept_signs : signs other front ≡ signs text front
  pub added : signs other (lexemes_of pos kinds) ≡ samples kinds

pub longer : (text : List ℕ) (front here : Lexemes) (rest : List ℕ) (us vs : List Want) (kinds : List Kind) → IsUtf8 text → TokensAt 0 (chars text) (front ++ here) rest → run whole_wants (signs text front) ≡ Some us
    → run us (samples kinds) ≡ Some vs → Longer text front kinds
longer text front here rest us vs kinds utf8 read ran next =
    let k = kept front here (chars text) rest read in
    let fc = k.characters in
    let w = characters_of kinds in
    let other : List ℕ = encodes (fc ++ w) in
    let later = lexemes_of (0 + byte_len fc) kinds in
    let end : end_of front ≡ byte_len fc = sym (reach_end front) ∙ (k.end ∙ omega arith) in
    let text_is : text ≡ encodes (fc ++ k.tail) = sym (encodes-chars text utf8) ∙ ap encodes k.split in
    let same : take (end_of front) other ≡ take (end_of front) text =
    ap (λ n. take n other) end ∙ (front_bytes fc w ∙ (sym (front_bytes fc k.tail) ∙ (ap (take (byte_len fc)) (sym text_is) ∙ ap (λ n. take n text) (sym end)))) in
    let front_scalars = (scalars_parts fc k.tail (subst (λ x. scalars x ≡ true) k.split (scalars-chars text utf8))).0 in
    let all_scalars = scalars_both fc w front_scalars (added_scalars kinds) in
    let apart = ran_apart text whole_wants us front refl ran in
    let there : At other (0 + byte_len fc) w = (
      omega (arith, byte_len_is fc, ap length (encodes-append fc w), length-append (encodes fc) (encodes w)),
      added_scalars kinds,
      ap₂ (λ n xs. drop n xs) (let e : 0 + byte_len fc ≡ length (encodes fc) = omega (arith, byte_len_is fc) in e) (encodes-append fc w) ∙ drop-append_seam (encodes fc) (encodes w),
    ) in
    let tokens : TokensAt 0 (fc ++ w) (front ++ later) [] = k.again w later (last_ends us vs front kinds apart.1 next) (added_tokens (0 + byte_len fc) us vs kinds apart.0 next) in
    let within : Within (end_of front) front = subst (λ n. Within n front) (sym (sym (reach_end front) ∙ k.end)) k.within in
    record {
      other = other;
      pos = 0 + byte_len fc;
      utf8 = (fc ++ w, (all_scalars, refl));
      same = same;
      read = subst (λ cs. TokensAt 0 cs (front ++ later) []) (sym (chars-encodes (fc ++ w) all_scalars)) tokens;
      kept_signs = signs_same (end_of front) other text front same within;
      added = added_signs other (0 + byte_len fc) kinds there;
    }

-- a path that begins with the tokens that ran
pub begins : (text : List ℕ) (front here : Lexemes) (rest : List ℕ) (us : List Want) → IsUtf8 text → TokensAt 0 (chars text) (front ++ here) rest → run whole_wants (signs text front) ≡ Some us
    → BeginsPath text front
begins text front here rest us utf8 read ran =
    let kinds = kinds_of (endings us) in
    let real = safe_real us (ran_apart text whole_wants us front refl ran).0 in
    let w = longer text front here rest us (all_end us real).left kinds utf8 read ran (all_end us real).ran in
    let later = lexemes_of w.pos kinds in
    let goes = goes_on whole_wants us (signs text front) ran real in
    let path = ends_read w.other (front ++ later) (stops_behind w.other goes.left (front ++ later) (ap (run whole_wants) (signs_upon w.other front later ∙ ap₂ (λ a b. a ++ b) w.kept_signs w.added) ∙ goes.ran) ∙ ap (λ b. cond {A = Option Lexemes} b None (Some [])) goes.ended) in
    record { whole = w.other; later = later; path = path.0; same = w.same; read = w.read; spelled = sound_path w.other (front ++ later) path.0 path.1 }

-- with which a path begins, they ran

pub runs : (text : List ℕ) (front here : Lexemes) (rest : List ℕ) → TokensAt 0 (chars text) (front ++ here) rest → BeginsPath text front → (us : List Want) × (run whole_wants (signs text front) ≡ Some us)
runs text front here rest read b =
    let k = kept front here (chars text) rest read in
    let within : Within (end_of front) front = subst (λ n. Within n front) (sym (sym (reach_end front) ∙ k.end)) k.within in
    let all_signs = signs_upon b.whole front b.later ∙ ap (λ x. x ++ signs b.whole b.later) (signs_same (end_of front) b.whole text front b.same within) in
    let ran = all_ran b.whole whole_wants (front ++ b.later) (read_ends b.whole (front ++ b.later) b.path (complete_path b.whole (front ++ b.later) b.path b.spelled)) in
    by_run (λ vs. run vs (signs b.whole b.later)) (run whole_wants (signs text front)) refl (sym (ap (run whole_wants) all_signs ∙ run_behind whole_wants (signs text front) (signs b.whole b.later)) ∙ ran.1)
  where
    by_run : {x : List Want} (f : List Want → Option (List Want)) (o : Option (List Want)) → run whole_wants (signs text front) ≡ o → run_on o f ≡ Some x
        → (us : List Want) × (run whole_wants (signs text front) ≡ Some us)
    by_run f o e h = grind arith

-- what one more token does
fed_next : (text : List ℕ) (front : Lexemes) (t : Lexeme) (us : List Want) → run whole_wants (signs text front) ≡ Some us → run whole_wants (signs text (front ++ t ∷ [])) ≡ feed us t.kind (bytes_at text t.span)
fed_next text front t us ran = grind (arith, run_behind, signs_upon)

-- and no path begins with one more that is refused
pub never_begins : (text : List ℕ) (front here : Lexemes) (t : Lexeme) (rest : List ℕ) (us : List Want) → TokensAt 0 (chars text) (front ++ t ∷ here) rest → run whole_wants (signs text front) ≡ Some us
    → feed us t.kind (bytes_at text t.span) ≡ None → BeginsPath text (front ++ t ∷ []) → ⊥
never_begins text front here t rest us read ran refused b =
    let more = runs text (front ++ t ∷ []) here rest (subst (λ ps. TokensAt 0 (chars text) ps rest) (sym (append_assoc front (t ∷ []) here)) read) b in
    cc (more.1, fed_next text front t us ran, refused)

-- but with one that is taken
pub begins_next : (text : List ℕ) (front here : Lexemes) (t : Lexeme) (rest : List ℕ) (us vs : List Want) → IsUtf8 text → TokensAt 0 (chars text) (front ++ t ∷ here) rest → run whole_wants (signs text front) ≡ Some us
    → feed us t.kind (bytes_at text t.span) ≡ Some vs → BeginsPath text (front ++ t ∷ [])
begins_next text front here t rest us vs utf8 read ran fed =
    begins text (front ++ t ∷ []) here rest vs utf8 (subst (λ ps. TokensAt 0 (chars text) ps rest) (sym (append_assoc front (t ∷ []) here)) read) (fed_next text front t us ran ∙ fed)

-- the places

end_last : (front : Lexemes) (t : Lexeme) → end_of (front ++ t ∷ []) ≡ t.span.pos + t.span.offset
end_last (p ∷ q ∷ ps) t = end_last (q ∷ ps) t
end_last _ t = refl

refused_token : (text : List ℕ) (ts later : Lexemes) (t : Lexeme) (rest : List ℕ) → IsUtf8 text → TokensAt 0 (chars text) ts rest → stop text whole_wants ts ≡ Some (t ∷ later)
    → RefusedAt text (place_in text (t.span.pos + t.span.offset))
refused_token text ts later t rest utf8 read h =
    let s = stopped text whole_wants ts (t ∷ later) h in
    let front = s.0.front in
    let tokens = subst (λ ps. TokensAt 0 (chars text) ps rest) s.0.split read in
    subst (λ n. RefusedAt text (place_in text n)) (end_last front t)
    (at_token front later t rest tokens (begins text front (t ∷ later) rest s.0.left utf8 tokens s.0.ran) (never_begins text front later t rest s.0.left tokens s.0.ran s.1))

-- all tokens may begin a path
pub begins_all : (text : List ℕ) (ts : Lexemes) (rest : List ℕ) → IsUtf8 text → TokensAt 0 (chars text) ts rest → (stop text whole_wants ts ≡ Some []) ⊎ (stop text whole_wants ts ≡ None) → BeginsPath text ts
begins_all text ts rest utf8 read (inl h) = search (rules, arith, begins, stopped)
begins_all text ts rest utf8 read (inr h) =
    let r = all_ran text whole_wants ts h in
    begins text ts [] rest r.0 utf8 (subst (λ ps. TokensAt 0 (chars text) ps rest) (sym (append-nil ts)) read) r.1

pub spelled_stops : (text : List ℕ) (ts : Lexemes) (p : Path) → SpellsPath text p ts → stop text whole_wants ts ≡ None
spelled_stops text ts p h = read_ends text ts p (complete_path text ts p h)

tile_end : (from to : ℕ) (ps : Lexemes) → Tile from ps to → reach from ps ≡ to
tile_end from to [] h = h
tile_end from to (p ∷ []) h = ap (λ n. n + p.span.offset) h.0 ∙ h.1
tile_end from to (p ∷ q ∷ ps) h = tile_end (from + p.span.offset) to (q ∷ ps) h.1

pub all_tokens : (text : List ℕ) (ts : Lexemes) → ts ≡ (reading_from 0 0 (chars text)).lexemes → TokensAt 0 (chars text) ts (reading_from 0 0 (chars text)).rest
all_tokens text ts same = grind (arith, reads)

-- a path that is written with these tokens alone
pub path_there : (text : List ℕ) (ts : Lexemes) → TokensAt 0 (chars text) ts [] → IsInGrammar text → stop text whole_wants ts ≡ None
path_there text ts read g = spelled_stops text ts g.0 (subst (SpellsPath text g.0) (ap (λ r. r.lexemes) (read_so read)) (found_spelled text g.0 g.1).1)

-- behind all tokens, if they may begin a path
refused_left : (text : List ℕ) (ts : Lexemes) (cs : List ℕ) → IsUtf8 text → TokensAt 0 (chars text) ts cs
    → (stop text whole_wants ts ≡ Some []) ⊎ ((stop text whole_wants ts ≡ None) × (cs ≡ [] → ⊥)) → RefusedAt text (behind_character text (end_of ts) cs)
refused_left text ts [] utf8 read (inl h) = at_end ts read (begins_all text ts [] utf8 read (inl h)) (λ g. cc (h, path_there text ts read g))
refused_left text ts [] utf8 read (inr h) = absurd (h.1 refl)
refused_left text ts (c ∷ cs) utf8 read (inl h) = at_character ts c cs read (begins_all text ts (c ∷ cs) utf8 read (inl h))
refused_left text ts (c ∷ cs) utf8 read (inr h) = at_character ts c cs read (begins_all text ts (c ∷ cs) utf8 read (inr h.0))

module _ (text : List ℕ) (ts : Lexemes) (p : Place) (utf8 : IsUtf8 text) (same : ts ≡ (reading_from 0 0 (chars text)).lexemes) (left : (reading_from 0 0 (chars text)).rest ≡ ahead p) (tile : Tile 0 ts p.pos) where
  behind_all : (stop text whole_wants ts ≡ Some []) ⊎ ((stop text whole_wants ts ≡ None) × (ahead p ≡ [] → ⊥)) → RefusedAt text (behind_character text p.pos (ahead p))
  behind_all h = grind (arith, all_tokens, reach_end, refused_left, tile_end)

  -- where the tokens stop, or what is behind them
  pub refused_there : (here : Lexemes) → stop text whole_wants ts ≡ Some here → RefusedAt text (refused_place text here p)
  refused_there (t ∷ later) h = refused_token text ts later t _ utf8 (all_tokens text ts same) h
  refused_there [] h = behind_all (inl h)

  -- all the tokens are a path, and something is behind them
  pub refused_behind : (q : Path) → SpellsPath text q ts → (ahead p ≡ [] → ⊥) → RefusedAt text (behind_character text p.pos (ahead p))
  refused_behind q spelled some = behind_all (inr (spelled_stops text ts q spelled, some))

-- the place that is computed

pub place_found : (text : List ℕ) (error : TokenError) → IsUtf8 text → place_of_text text ≡ Some error → RefusedAt text error
place_found text error utf8 h = by_stop (stop text whole_wants ts) (reading_from 0 0 (chars text)).rest refl (all_tokens text ts refl) h
  where
    ts : Lexemes
    ts = (reading_from 0 0 (chars text)).lexemes

    by_stop : (o : Option Lexemes) (cs : List ℕ) → stop text whole_wants ts ≡ o → TokensAt 0 (chars text) ts cs → place_after text (end_of ts) cs o ≡ Some error → RefusedAt text error
    by_stop (Some (t ∷ later)) cs e read h = subst (RefusedAt text) (some_same _ _ h) (refused_token text ts later t cs utf8 read e)
    by_stop (Some []) cs e read h = subst (RefusedAt text) (some_same _ _ h) (refused_left text ts cs utf8 read (inl e))
    by_stop None [] e read h = cc h
    by_stop None (c ∷ cs) e read h = subst (RefusedAt text) (some_same _ _ h) (refused_left text ts (c ∷ cs) utf8 read (inr (e, λ i. cc i)))

-- the place that is computed from these tokens
placed : (text : List ℕ) (ts : Lexemes) (cs : List ℕ) (o : Option Lexemes) → TokensAt 0 (chars text) ts cs → stop text whole_wants ts ≡ o → place_of_text text ≡ place_after text (end_of ts) cs o
placed text ts cs o read h = ap (λ r. place_after text (end_of r.lexemes) r.rest (stop text whole_wants r.lexemes)) (read_so read) ∙ ap (place_after text (end_of ts) cs) h

pub place_only : (text : List ℕ) (error : TokenError) → IsUtf8 text → RefusedAt text error → place_of_text text ≡ Some error
place_only text _ utf8 (at_token front later t rest read b none) =
    let r = runs text front (t ∷ later) rest read b in
    by_fed r.0 r.1 (feed r.0 t.kind (bytes_at text t.span)) refl
  where
    by_fed : (us : List Want) → run whole_wants (signs text front) ≡ Some us → (o : Option (List Want)) → feed us t.kind (bytes_at text t.span) ≡ o
        → place_of_text text ≡ Some (place_in text (end_of (front ++ t ∷ [])))
    by_fed us ran None e =
        placed text (front ++ t ∷ later) rest (Some (t ∷ later)) read (run_stops text whole_wants us front (t ∷ later) ran ∙ ap (λ o. stop_on o (t ∷ later) (λ vs. stop text vs later)) e)
        ∙ ap (λ n. Some (place_in text n)) (sym (end_last front t))
    by_fed us ran (Some vs) e = absurd (none (begins_next text front later t rest us vs utf8 read ran e))
place_only text _ utf8 (at_character front c rest read b) =
    let r = runs text front [] (c ∷ rest) (subst (λ ps. TokensAt 0 (chars text) ps (c ∷ rest)) (sym (append-nil front)) read) b in
    by_end (may_end r.0) (stops_behind text r.0 front r.1)
  where
    by_end : (m : Bool) → stop text whole_wants front ≡ cond {A = Option Lexemes} m None (Some []) → place_of_text text ≡ Some (if is_quote c then Eof else place_in text (end_of front + len_utf8 c))
    by_end true e = placed text front (c ∷ rest) None read e
    by_end false e = placed text front (c ∷ rest) (Some []) read e
place_only text _ utf8 (at_end front read b none) =
    let r = runs text front [] [] (subst (λ ps. TokensAt 0 (chars text) ps []) (sym (append-nil front)) read) b in
    by_end (may_end r.0) (stops_behind text r.0 front r.1)
  where
    by_end : (m : Bool) → stop text whole_wants front ≡ cond {A = Option Lexemes} m None (Some []) → place_of_text text ≡ Some Eof
    by_end true e =
        let path = ends_read text front e in
        absurd (none (path.0, record { tokens = front; read = read; spelled = sound_path text front path.0 path.1 }))
    by_end false e = placed text front [] (Some []) read e
