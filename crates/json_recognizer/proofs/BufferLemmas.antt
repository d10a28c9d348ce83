-- A stream's buffer: what was looked through, what is passed, and its line and column.
use Rattle.std.proofs.Common.{◌≡◌, ℕ, ◌+◌, ◌-◌, ◌<◌, ◌≤◌, Bool, true, false, cond, List, [], ◌∷◌, ◌++◌, length, reverse, take, drop, refl, sym, ap, ap₂, subst, ◌∙◌, arith, length-drop, length-take}
use Rattle.std.specs.Prelude.{◌==◌, ◌||◌, nat_eq, nat_lt, not, position, Some, None, slice_range, if◌then◌else◌}
use Rattle.std.specs.List.{starts_with, list_any, position_or_len, prefix_len}
use Rattle.std.proofs.lemmas.List.{append-nil, append_assoc, drop-drop, drop-append-le, take-append-le, take_rest, reverse-append, length-reverse}
use Rattle.std.proofs.lemmas.List.Folds.{list_any-append, prefix_len-append}
use Rattle.std.proofs.lemmas.List.Sums.{prefix_len-le-length, sum_by-append, sum_by-cons}
use Rattle.std.proofs.Math.Seq.{drop-length, drop-append-add}
use Rattle.json_recognizer.specs.Blanks.{is_blank_text}
use Rattle.json_recognizer.specs.Buffer.{left, piece_of, piece_by, kind_by, IsFirstOf, IsSound, wrong_in, place_of}
use Rattle.json_recognizer.specs.Lines.{behind_line, counted, line_ends, last_line_len, place_behind}
use Rattle.json_recognizer.specs.Machine.{Next, is_final}
use Rattle.json_recognizer.specs.Machine as machine
use Rattle.json_recognizer.specs.State.{frames}
use Rattle.json_recognizer.specs.Stream.{is_over_in, later, found_by, found_from, found_at, found_in, end_or, or_later}
use Rattle.json_recognizer.specs.declared.state.State.{State}
use Rattle.json_recognizer.specs.declared.stream.Found.{Found}
use Rattle.json_recognizer.specs.declared.stream.Found.TheVariants.{GoesOn, Ends, Refused}
use Rattle.json_recognizer.specs.declared.buffer.piece.LineColumn.{LineColumn}
use Rattle.json_recognizer.specs.declared.buffer.stream_buffer.StreamBuffer.{StreamBuffer}
use Rattle.json_recognizer.specs.declared.buffer.piece.Kind.{Kind}
use Rattle.json_recognizer.specs.declared.buffer.piece.Kind.TheVariants as kinds

-- ---- what was looked through

-- what is looked through next: from what was seen on
pub rest_is : (lent bytes : List ℕ) (seen : ℕ) → lent ≡ bytes → slice_range lent seen (length lent) ≡ drop seen bytes
rest_is lent bytes seen same = ap (λ xs. slice_range xs seen (length xs)) same ∙ take_rest bytes seen

later_more : (a b c : ℕ) (found : Found) → a + b ≡ c → later a (later b found) ≡ later c found
later_more a b c GoesOn e = refl
later_more a b c (Ends k) e = let f : a + (b + k) ≡ c + k = omega (arith, e) in ap Ends f
later_more a b c (Refused k) e = let f : a + (b + k) ≡ c + k = omega (arith, e) in ap Refused f

module _ (old new : State) (lent bytes more : List ℕ) (start seen : ℕ) (found : Found) (same : lent ≡ bytes) (ordered : start ≤ seen) (inside : seen ≤ length bytes)
    (ahead : found_in (drop start bytes ++ more) ≡ later (seen - start) (found_at old (drop seen bytes ++ more)))
    (is_found : found_at old (slice_range lent seen (length lent) ++ more) ≡ or_later found (length (slice_range lent seen (length lent))) (found_at new more)) where
  turned : found_in (drop start bytes ++ more) ≡ later (seen - start) (or_later found (length (drop seen bytes)) (found_at new more))
  turned =
      let rest = rest_is lent bytes seen same in
      ahead ∙ ap (λ xs. later (seen - start) (found_at old (xs ++ more))) (sym rest) ∙ ap (later (seen - start)) is_found ∙ ap (λ xs. later (seen - start) (or_later found (length xs) (found_at new more))) rest

  pub goes_on : found ≡ GoesOn → (len : ℕ) → len ≡ length bytes → found_in (drop start bytes ++ more) ≡ later (len - start) (found_at new (drop len bytes ++ more))
  goes_on is len long =
      let none : drop len bytes ≡ [] = ap (λ n. drop n bytes) long ∙ drop-length bytes in
      let all : seen - start + length (drop seen bytes) ≡ len - start = omega (arith, ordered, inside, long, length-drop seen bytes) in
      turned ∙ ap (λ f. later (seen - start) (or_later f (length (drop seen bytes)) (found_at new more))) is ∙ later_more (seen - start) (length (drop seen bytes)) (len - start) (found_at new more) all
      ∙ ap (λ xs. later (len - start) (found_at new (xs ++ more))) (sym none)

-- at a stream's end
found_at_end : (state : State) → found_at state [] ≡ cond (is_final state.mode (frames state.depth state.kinds)) (Ends 0) GoesOn
unfolding found_from
found_at_end state = refl

pub end_at_end : (state : State) (n : ℕ) → end_or n (later n (found_at state [])) ≡ n
end_at_end state n = ap (λ f. end_or n (later n f)) (found_at_end state) ∙ by_final (is_final state.mode (frames state.depth state.kinds))
  where
    by_final : (final : Bool) → end_or n (later n (cond final (Ends 0) GoesOn)) ≡ n
    by_final true = omega arith
    by_final false = refl

take_whole : (xs : List ℕ) → take (length xs) xs ≡ xs
take_whole [] = refl
take_whole (x ∷ xs) = ap (λ ys. x ∷ ys) (take_whole xs)

first_at_end : (state : State) (bytes more : List ℕ) (start len : ℕ) (final : Bool) → is_final state.mode (frames state.depth state.kinds) ≡ final → start ≤ len → len ≡ length bytes → more ≡ []
    → found_in (drop start bytes ++ more) ≡ later (len - start) (found_at state (drop len bytes ++ more))
    → IsFirstOf (if final then kinds.Document else (if is_blank_text (drop start bytes) then kinds.Blanks else kinds.Refused)) (drop start bytes) (drop start bytes ++ more)
first_at_end state bytes more start len final is ordered long none goes =
    let nothing : drop len bytes ++ more ≡ [] = ap₂ (λ (xs ys : List ℕ). xs ++ ys) (ap (λ n. drop n bytes) long ∙ drop-length bytes) none in
    let all : drop start bytes ++ more ≡ drop start bytes = ap (λ ys. drop start bytes ++ ys) none ∙ append-nil (drop start bytes) in
    let e : found_in (drop start bytes) ≡ later (len - start) (cond final (Ends 0) GoesOn) =
    ap found_in (sym all) ∙ goes ∙ ap (λ xs. later (len - start) (found_at state xs)) nothing ∙ ap (later (len - start)) (found_at_end state ∙ ap (λ b. cond b (Ends 0) GoesOn) is) in
    let l : len - start + 0 ≡ length (drop start bytes) = omega (arith, ordered, long, length-drop start bytes) in
    subst (IsFirstOf _ (drop start bytes)) (sym all) (by_final final e l)
  where
    by_final : (final : Bool) → found_in (drop start bytes) ≡ later (len - start) (cond final (Ends 0) GoesOn) → len - start + 0 ≡ length (drop start bytes)
        → IsFirstOf (if final then kinds.Document else (if is_blank_text (drop start bytes) then kinds.Blanks else kinds.Refused)) (drop start bytes) (drop start bytes)
    by_final true e l = (sym (ap (λ f. kind_by f (drop start bytes)) e), sym (ap (λ f. piece_by f (drop start bytes)) e ∙ ap (λ n. take n (drop start bytes)) l ∙ take_whole (drop start bytes)))
    by_final false e l = (sym (ap (λ f. kind_by f (drop start bytes)) e), sym (ap (λ f. piece_by f (drop start bytes)) e))

pub first_whole : (state : State) (bytes more : List ℕ) (start len : ℕ) (kind : Kind) → start ≤ len → len ≡ length bytes → more ≡ [] → found_in (drop start bytes ++ more) ≡ later (len - start) (found_at state (drop len bytes ++ more))
    → kind ≡ (if is_final state.mode (frames state.depth state.kinds) then kinds.Document else (if is_blank_text (slice_range bytes start len) then kinds.Blanks else kinds.Refused)) → IsFirstOf kind (slice_range bytes start len) (drop start bytes ++ more)
first_whole state bytes more start len kind ordered long none goes is =
    let piece : slice_range bytes start len ≡ drop start bytes = ap (slice_range bytes start) long ∙ take_rest bytes start in
    let is_kind : kind ≡ (if is_final state.mode (frames state.depth state.kinds) then kinds.Document else (if is_blank_text (drop start bytes) then kinds.Blanks else kinds.Refused)) =
    is ∙ ap (λ xs. if is_final state.mode (frames state.depth state.kinds) then kinds.Document else (if is_blank_text xs then kinds.Blanks else kinds.Refused)) piece in
    subst (λ xs. IsFirstOf kind xs (drop start bytes ++ more)) (sym piece) (subst (λ k. IsFirstOf k (drop start bytes) (drop start bytes ++ more)) (sym is_kind) (first_at_end state bytes more start len _ refl ordered long none goes))

-- ---- lines

place_by : (p : ℕ → Bool) (xs : List ℕ) (b : Bool) (at : ℕ) → cond b (Some (position_or_len p xs)) None ≡ Some at → position_or_len p xs ≡ at
place_by p xs true at e = cc
place_by p xs false at e = absurd (cc)

pub place_is : (p : ℕ → Bool) (xs : List ℕ) (at : ℕ) → position p xs ≡ Some at → position_or_len p xs ≡ at
place_is p xs at e = place_by p xs (nat_lt (position_or_len p xs) (length xs)) at e

pub no_place : (p : ℕ → Bool) (xs : List ℕ) → position p xs ≡ None → position_or_len p xs ≡ length xs
no_place p xs e = let within : position_or_len p xs ≤ length xs = prefix_len-le-length (λ x. not (p x)) xs in grind (arith, within, e)

abbrev line_len : List ℕ → ℕ
line_len xs = position_or_len (λ byte. byte == 10) xs

pub line_found : (xs more : List ℕ) (at : ℕ) → position (λ byte. byte == 10) xs ≡ Some at → at < length xs → behind_line (xs ++ more) ≡ drop (at + 1) xs ++ more
line_found xs more at is below =
    let n : line_len xs ≡ at = place_is (λ byte. byte == 10) xs at is in
    let whole = prefix_len-append (λ byte. not (byte == 10)) xs more in
    let e : line_len (xs ++ more) ≡ at = grind (arith, whole, n, below) in
    ap (λ k. drop (k + 1) (xs ++ more)) e ∙ drop-append-le (at + 1) xs more (omega (arith, below))

pub no_line : (xs more : List ℕ) → position (λ byte. byte == 10) xs ≡ None → behind_line (xs ++ more) ≡ behind_line more
no_line xs more is =
    let n : line_len xs ≡ length xs = no_place (λ byte. byte == 10) xs is in
    let whole = prefix_len-append (λ byte. not (byte == 10)) xs more in
    let all : line_len (xs ++ more) ≡ length xs + line_len more = grind (arith, whole, n) in
    let e : line_len (xs ++ more) + 1 ≡ length xs + (line_len more + 1) = omega (arith, all) in
    ap (λ k. drop k (xs ++ more)) e ∙ drop-append-add xs more (line_len more + 1)

module _ (lent bytes left₁ : List ℕ) (start : ℕ) (same : lent ≡ bytes) where
  pub passed_line : (at : ℕ) → position (λ byte. byte == 10) (slice_range lent start (length lent)) ≡ Some at → at < length (slice_range lent start (length lent)) → left₁ ≡ drop (start + at + 1) bytes
      → (more : List ℕ) → behind_line (drop start bytes ++ more) ≡ left₁ ++ more
  passed_line at is below lies more =
      let rest = rest_is lent bytes start same in
      let far : start + (at + 1) ≡ start + at + 1 = omega arith in
      line_found (drop start bytes) more at (ap (position (λ byte. byte == 10)) (sym rest) ∙ is) (subst (λ xs. at < length xs) rest below)
      ∙ ap (λ xs. xs ++ more) (drop-drop (at + 1) start bytes ∙ ap (λ k. drop k bytes) far ∙ sym lies)

  pub passed_all : position (λ byte. byte == 10) (slice_range lent start (length lent)) ≡ None → (len : ℕ) → len ≡ length bytes → left₁ ≡ drop len bytes → (more : List ℕ)
      → (behind_line (drop start bytes ++ more) ≡ behind_line (left₁ ++ more)) × (more ≡ [] → behind_line (drop start bytes ++ more) ≡ left₁ ++ more)
  passed_all is len long lies more =
      let nothing : left₁ ≡ [] = lies ∙ ap (λ n. drop n bytes) long ∙ drop-length bytes in
      let e = no_line (drop start bytes) more (ap (position (λ byte. byte == 10)) (sym (rest_is lent bytes start same)) ∙ is) in
      (e ∙ ap (λ xs. behind_line (xs ++ more)) (sym nothing), λ none. e ∙ ap behind_line none ∙ sym (ap₂ (λ (xs ys : List ℕ). xs ++ ys) nothing none))

-- ---- a byte order mark

pub mark_first : (xs : List ℕ) → starts_with nat_eq xs (239 ∷ 187 ∷ 191 ∷ []) ≡ true → xs ≡ 239 ∷ 187 ∷ 191 ∷ drop 3 xs
mark_first [] e = absurd (cc)
mark_first (x ∷ []) e = grind arith
mark_first (x ∷ y ∷ []) e = grind arith
mark_first (x ∷ y ∷ z ∷ xs) e = grind arith

-- ---- where a refused piece is wrong

none_before : (n k : ℕ) → (if nat_lt n n then Refused k else GoesOn) ≡ GoesOn
none_before n k = grind arith

cut_short : (final blank : Bool) (n : ℕ) (kind : Kind) → kind ≡ (if final then kinds.Document else (if blank then kinds.Blanks else kinds.Refused)) → kind ≡ kinds.Refused → later n (cond final (Ends 0) GoesOn) ≡ GoesOn
cut_short true blank n kind is wrong = absurd (cc)
cut_short false blank n kind is wrong = refl

pub wrong_whole : (state : State) (bytes more : List ℕ) (start len : ℕ) (kind : Kind) (blank : Bool) → len ≡ length bytes → more ≡ [] → found_in (drop start bytes ++ more) ≡ later (len - start) (found_at state (drop len bytes ++ more))
    → kind ≡ (if is_final state.mode (frames state.depth state.kinds) then kinds.Document else (if blank then kinds.Blanks else kinds.Refused)) → kind ≡ kinds.Refused → found_in (drop start bytes ++ more) ≡ (if nat_lt len len then Refused (len - start) else GoesOn)
wrong_whole state bytes more start len kind blank long none goes is wrong =
    let nothing : drop len bytes ++ more ≡ [] = ap₂ (λ (xs ys : List ℕ). xs ++ ys) (ap (λ n. drop n bytes) long ∙ drop-length bytes) none in
    goes ∙ ap (λ xs. later (len - start) (found_at state xs)) nothing ∙ ap (later (len - start)) (found_at_end state) ∙ cut_short _ blank (len - start) kind is wrong ∙ sym (none_before len (len - start))

module _ (feed : StreamBuffer) (passed stream : List ℕ) where
  pub wrong_at_byte : (lent more : List ℕ) (place : LineColumn) → lent ≡ feed.bytes.items → IsSound feed → wrong_in feed ≡ Refused (feed.seen - feed.start) → stream ≡ left feed ++ more → place ≡ place_behind (passed ++ slice_range lent feed.start feed.seen)
      → place ≡ place_of (wrong_in feed) passed stream
  wrong_at_byte lent more place same sound wrong is placed =
      let within : feed.seen - feed.start ≤ length (left feed) = grind (arith, sound.seen, length-drop) in
      let front : slice_range lent feed.start feed.seen ≡ take (feed.seen - feed.start) stream =
      ap (λ xs. slice_range xs feed.start feed.seen) same ∙ sym (take-append-le (feed.seen - feed.start) (left feed) more within) ∙ ap (take (feed.seen - feed.start)) (sym is) in
      placed ∙ ap (λ xs. place_behind (passed ++ xs)) front ∙ sym (ap (λ f. place_of f passed stream) wrong)

  pub wrong_at_end : (lent : List ℕ) (behind : LineColumn) (column : ℕ) → lent ≡ piece_of feed → wrong_in feed ≡ GoesOn → (wrong_in feed ≡ GoesOn → piece_of feed ≡ stream) → behind ≡ place_behind (passed ++ lent) → column ≡ behind.column - 1
      → ◌≡◌ {A = LineColumn} (record { line = behind.line; column = column }) (place_of (wrong_in feed) passed stream)
  wrong_at_end lent behind column same wrong whole placed less =
      let place = placed ∙ ap (λ xs. place_behind (passed ++ xs)) (same ∙ whole wrong) in
      ap (λ n. record { line = behind.line; column = n }) less ∙ ap (λ (p : LineColumn). record { line = p.line; column = p.column - 1 }) place ∙ sym (ap (λ f. place_of f passed stream) wrong)

-- ---- a document is no empty piece

later_some : (behind : Found) (n : ℕ) → later 1 behind ≡ Ends n → 0 < n
later_some GoesOn n e = absurd (cc)
later_some (Ends k) n e = grind arith
later_some (Refused k) n e = absurd (cc)

by_some : (next : Next) (behind : Found) (n : ℕ) → found_by next behind ≡ Ends n → 0 < n
by_some machine.refused behind n e = absurd (cc)
by_some (machine.goes m st r) behind n e = over (is_over_in m st) e
  where
    over : (b : Bool) → cond b (Ends 1) (later 1 behind) ≡ Ends n → 0 < n
    over true e = grind arith
    over false e = later_some behind n e

ends_some : (text : List ℕ) (n : ℕ) → found_in text ≡ Ends n → (0 < n) × (0 < length text)
unfolding found_from
ends_some [] n e = absurd (cc)
ends_some (x ∷ xs) n e = (by_some _ _ n e, omega arith)

piece_some : (found : Found) (piece stream : List ℕ) → found_in stream ≡ found → kinds.Document ≡ kind_by found stream → piece ≡ piece_by found stream → 0 < length piece
piece_some (Ends n) piece stream is kind lies = let some = ends_some stream n is in grind (arith, lies, some.0, some.1, length-take)
piece_some (Refused n) piece stream is kind lies = absurd (cc)
piece_some GoesOn piece stream is kind lies = absurd (none (is_blank_text stream) kind)
  where
    none : (b : Bool) → kinds.Document ≡ (if b then kinds.Blanks else kinds.Refused) → ⊥
    none true e = cc
    none false e = cc

pub document_some : (kind : Kind) (piece stream : List ℕ) → IsFirstOf kind piece stream → kind ≡ kinds.Document → 0 < length piece
document_some kind piece stream first is = piece_some (found_in stream) piece stream refl (sym is ∙ first.0) first.1

-- ---- lines and columns

-- the byte of a line end
abbrev ends_line : ℕ → Bool
ends_line byte = byte == 10

or_none : (a b : Bool) → (a || b) ≡ false → (a ≡ false) × (b ≡ false)
or_none true b e = absurd (cc)
or_none false b e = (refl, e)

abbrev weight : Bool → ℕ
weight b = cond b 1 0

none_ends : (xs : List ℕ) → list_any ends_line xs ≡ false → line_ends xs ≡ 0
none_ends [] e = refl
none_ends (x ∷ xs) e =
    let parts = or_none (x == 10) (list_any ends_line xs) e in
    let rest : line_ends xs ≡ 0 = none_ends xs parts.1 in
    let first : weight (x == 10) ≡ 0 = ap weight parts.0 in
    let all : line_ends (x ∷ xs) ≡ weight (x == 10) + line_ends xs = sum_by-cons (λ byte. weight (byte == 10)) x xs in
    omega (arith, rest, first, all)

none_stops : (xs : List ℕ) → list_any ends_line xs ≡ false → prefix_len (λ byte. not (byte == 10)) xs ≡ length xs
none_stops [] e = refl
none_stops (x ∷ xs) e =
    let parts = or_none (x == 10) (list_any ends_line xs) e in
    let rest : prefix_len (λ byte. not (byte == 10)) xs ≡ length xs = none_stops xs parts.1 in
    let step : prefix_len (λ byte. not (byte == 10)) (x ∷ xs) ≡ 1 + prefix_len (λ byte. not (byte == 10)) xs = ap (λ b. cond (not b) (1 + prefix_len (λ byte. not (byte == 10)) xs) 0) parts.0 in
    grind (arith, step, rest)

none_back : (xs : List ℕ) → list_any ends_line xs ≡ false → list_any ends_line (reverse xs) ≡ false
none_back [] e = refl
none_back (x ∷ xs) e =
    let parts = or_none (x == 10) (list_any ends_line xs) e in
    let turned : list_any ends_line (reverse (x ∷ xs)) ≡ list_any ends_line (reverse xs ++ x ∷ []) = ap (list_any ends_line) (reverse-append (x ∷ []) xs) in
    let both : list_any ends_line (reverse xs ++ x ∷ []) ≡ (list_any ends_line (reverse xs) || ((x == 10) || false)) = list_any-append ends_line (reverse xs) (x ∷ []) in
    turned ∙ both ∙ ap₂ (λ a b. a || (b || false)) (none_back xs parts.1) parts.0

module _ (place : LineColumn) (passed bytes : List ℕ) (placed : place ≡ place_behind passed) where
  line_more : (line : ℕ) → line ≡ counted (place.line + line_ends bytes) → line ≡ counted (line_ends (passed ++ bytes) + 1)
  line_more line is =
      let all : line_ends (passed ++ bytes) ≡ line_ends passed + line_ends bytes = sum_by-append (λ byte. cond (byte == 10) 1 0) passed bytes in
      let before : place.line ≡ counted (line_ends passed + 1) = ap (λ (p : LineColumn). p.line) placed in
      omega (arith, is, all, before)

  last_line : last_line_len (passed ++ bytes) ≡ prefix_len (λ byte. not (byte == 10)) (reverse bytes ++ reverse passed)
  last_line = ap (prefix_len (λ byte. not (byte == 10))) (reverse-append passed bytes)

  pub place_in_line : (line column behind : ℕ) → line ≡ counted (place.line + line_ends bytes) → position (λ byte. byte == 10) (reverse bytes) ≡ Some behind → behind < length bytes → column ≡ counted (behind + 1)
      → ◌≡◌ {A = LineColumn} (record { line = line; column = column }) (place_behind (passed ++ bytes))
  place_in_line line column behind lines at below is =
      let n : position_or_len (λ byte. byte == 10) (reverse bytes) ≡ behind = place_is (λ byte. byte == 10) (reverse bytes) behind at in
      let whole = prefix_len-append (λ byte. not (byte == 10)) (reverse bytes) (reverse passed) in
      let long = length-reverse bytes in
      let e : last_line_len (passed ++ bytes) ≡ behind = last_line ∙ grind (arith, whole, n, below, long) in
      ap₂ (λ (l c : ℕ). record { line = l; column = c }) (line_more line lines) (is ∙ ap (λ k. counted (k + 1)) (sym e))

  pub place_on_line : (line column len : ℕ) → line ≡ counted (place.line + line_ends bytes) → position (λ byte. byte == 10) (reverse bytes) ≡ None → len ≡ length bytes → column ≡ counted (place.column + len)
      → ◌≡◌ {A = LineColumn} (record { line = line; column = column }) (place_behind (passed ++ bytes))
  place_on_line line column len lines none long is =
      let n : position_or_len (λ byte. byte == 10) (reverse bytes) ≡ length (reverse bytes) = no_place (λ byte. byte == 10) (reverse bytes) none in
      let whole = prefix_len-append (λ byte. not (byte == 10)) (reverse bytes) (reverse passed) in
      let same = length-reverse bytes in
      let e : last_line_len (passed ++ bytes) ≡ length bytes + last_line_len passed = last_line ∙ grind (arith, whole, n, same) in
      let before : place.column ≡ counted (last_line_len passed + 1) = ap (λ (p : LineColumn). p.column) placed in
      ap₂ (λ (l c : ℕ). record { line = l; column = c }) (line_more line lines) (omega (arith, is, e, before, long))

  pub place_in_bytes : (line column : ℕ) → list_any (λ byte. byte == 10) bytes ≡ false → line ≡ place.line → column ≡ counted (place.column + length bytes)
      → ◌≡◌ {A = LineColumn} (record { line = line; column = column }) (place_behind (passed ++ bytes))
  place_in_bytes line column none same is =
      let lines : line_ends bytes ≡ 0 = none_ends bytes none in
      let n : prefix_len (λ byte. not (byte == 10)) (reverse bytes) ≡ length (reverse bytes) = none_stops (reverse bytes) (none_back bytes none) in
      let whole = prefix_len-append (λ byte. not (byte == 10)) (reverse bytes) (reverse passed) in
      let long = length-reverse bytes in
      let e : last_line_len (passed ++ bytes) ≡ length bytes + last_line_len passed = last_line ∙ grind (arith, whole, n, long) in
      let before : place.column ≡ counted (last_line_len passed + 1) = ap (λ (p : LineColumn). p.column) placed in
      let first : place.line ≡ counted (line_ends passed + 1) = ap (λ (p : LineColumn). p.line) placed in
      ap₂ (λ (l c : ℕ). record { line = l; column = c }) (line_more line (omega (arith, same, lines, first))) (omega (arith, is, e, before))

abbrev line_end : List ℕ
line_end = 10 ∷ []

pub place_on_next_line : (place : LineColumn) (passed bytes rest : List ℕ) (line : ℕ) (result : LineColumn) → place ≡ place_behind passed → bytes ≡ 10 ∷ rest → line ≡ counted (place.line + 1)
    → ((before : List ℕ) → ◌≡◌ {A = LineColumn} (record { line = line; column = 1 }) (place_behind before) → result ≡ place_behind (before ++ rest)) → result ≡ place_behind (passed ++ bytes)
place_on_next_line place passed bytes rest line result placed is lines h =
    let below : 0 < length line_end = omega arith in
    let behind = place_in_line place passed line_end placed line 1 0 lines refl below refl in
    h (passed ++ line_end) behind ∙ ap place_behind (append_assoc passed line_end rest ∙ ap (λ xs. passed ++ xs) (sym is))
