-- What the next of a stream is, by the piece that was found.
use Rattle.std.proofs.Common.{◌≡◌, ℕ, ◌+◌, ◌<◌, ◌≤◌, ◌^◌, Bool, true, false, List, ◌++◌, length, take, drop, refl, sym, ap, subst, ◌∙◌, arith, append_assoc, length-append, length-take, Some, Result, Ok, Err, IfOk, IfErr, OnOk, OnErr, codes, if◌then◌else◌}
use Rattle.std.proofs.lemmas.List.{drop-append-le, take-append-drop}
use Rattle.std.proofs.Math.Seq.{drop-append_seam}
use Rattle.serde_json.specs.View.{view}
use Rattle.serde_json.specs.declared.value.Value.{Value}
use Rattle.jsonpath_select.specs.answer.AnswerText.{IsTextOf}
use Rattle.json_recognizer.specs.Blanks.{is_blank_text}
use Rattle.json_recognizer.specs.Buffer.{left, piece_of, piece_by, kind_by, MayCome, IsFirstOf, StandsBehind, wrong_in, place_of}
use Rattle.json_recognizer.specs.Stream.{found_in}
use Rattle.json_recognizer.specs.declared.stream.Found.{Found}
use Rattle.json_recognizer.specs.declared.stream.Found.TheVariants.{GoesOn, Ends, Refused}
use Rattle.json_recognizer.specs.declared.buffer.stream_buffer.StreamBuffer.{StreamBuffer}
use Rattle.json_recognizer.specs.declared.buffer.piece.Kind.{Kind}
use Rattle.json_recognizer.specs.declared.buffer.piece.Kind.TheVariants as kinds
use Rattle.jsonpath_lib.specs.stream.Documents.{IsBehind, IsPassed, Gives, most_left}
use Rattle.jsonpath_lib.specs.stream.Faults.{place_of_fault, Says, IsUnread, IsFault}
use Rattle.jsonpath_lib.specs.declared.stream.document_fault.DocumentFault.{DocumentFault}
use Rattle.jsonpath_lib.specs.declared.stream.document_fault.FaultKind.{FaultKind}
use Rattle.jsonpath_lib.specs.declared.stream.document_fault.FaultKind.TheVariants.{WrongByte, CutShort, Unread, ReadFailed, OutOfMemory, TooLong}
use Rattle.jsonpath_lib.specs.declared.stream.documents.Documents.{Documents}

-- ---- what was found, by the kind of the piece

no_kind : (b : Bool) → kinds.Document ≡ (if b then kinds.Blanks else kinds.Refused) → ⊥
no_kind true e = cc
no_kind false e = cc

document_ends : (found : Found) (stream : List ℕ) → kinds.Document ≡ kind_by found stream → (n : ℕ) × (found ≡ Ends n)
document_ends (Ends n) stream e = (n, refl)
document_ends (Refused n) stream e = absurd (cc)
document_ends GoesOn stream e = absurd (no_kind (is_blank_text stream) e)

not_blank : (b : Bool) → kinds.Refused ≡ (if b then kinds.Blanks else kinds.Refused) → b ≡ false
not_blank true e = absurd (cc)
not_blank false e = refl

drop_taken : (n : ℕ) (xs : List ℕ) → drop (length (take n xs)) xs ≡ drop n xs
drop_taken n xs = ap (drop (length (take n xs))) (sym (take-append-drop n xs)) ∙ drop-append_seam (take n xs) (drop n xs)

counted_more : (count before : ℕ) (passed piece xs : List ℕ) → count ≡ before + length piece → before ≡ length passed → piece ≡ xs → count ≡ length (passed ++ xs)
counted_more count before passed piece xs counts is same =
    counts ∙ ap (λ n. n + length piece) is ∙ ap (λ ys. length passed + length ys) same ∙ sym (length-append passed xs)

module _ {R : Type 0} (given : R → List ℕ) (has_ended has_failed : R → Bool) (before : Documents R) (is_open : before.is_over ≡ false) (begun buffer : StreamBuffer) (input : R)
    (stays : left begun ≡ left before.buffer) (begun_whole : begun.is_whole ≡ before.buffer.is_whole) (begun_place : begun.place ≡ before.buffer.place)
    (whole : (begun.is_whole ≡ true → has_ended before.input ≡ true) → buffer.is_whole ≡ true → has_ended input ≡ true) (place : buffer.place ≡ begun.place)
    (read : (more : List ℕ) × (given input ≡ given before.input ++ more) × (left buffer ≡ left begun ++ more))
    (kind : Kind) (first : (later : List ℕ) → MayCome buffer later → IsFirstOf kind (piece_of buffer) (left buffer ++ later)) where
  whole_stream : (later : List ℕ) → left buffer ++ later ≡ left before.buffer ++ (read.0 ++ later)
  whole_stream later = ap (λ xs. xs ++ later) (read.2 ∙ ap (λ xs. xs ++ read.0) stays) ∙ append_assoc (left before.buffer) read.0 later

  stands : (passed : List ℕ) → IsBehind given has_ended has_failed before passed → StandsBehind buffer passed
  stands passed is = place ∙ begun_place ∙ is.place

  found_there : (later : List ℕ) (found : Found) → found_in (left buffer ++ later) ≡ found → found_in (left before.buffer ++ (read.0 ++ later)) ≡ found
  found_there later found e = ap found_in (sym (whole_stream later)) ∙ e

  piece_there : (later : List ℕ) (found : Found) → MayCome buffer later → found_in (left buffer ++ later) ≡ found → piece_of buffer ≡ piece_by found (left before.buffer ++ (read.0 ++ later))
  piece_there later found may e = (first later may).1 ∙ ap (λ f. piece_by f (left buffer ++ later)) e ∙ ap (piece_by found) (whole_stream later)

  -- ---- a document

  pub document : kind ≡ kinds.Document → length (piece_of buffer) ≤ length (left buffer) → (result : Result Value DocumentFault) (after : Documents R) → IfOk result (λ d. IsTextOf (piece_of buffer) (view d))
      → (held : Documents R) → held.buffer ≡ buffer → held.count ≡ before.count → held.is_over ≡ true → OnOk result (IsPassed held after) → after.buffer.is_whole ≡ buffer.is_whole → after.input ≡ input → OnErr result (after.is_over ≡ held.is_over)
      → IfErr result (λ fault. fault.kind ≡ TooLong → (2 ^ 64 ≤ before.count + length (piece_of buffer)) × (place_of_fault fault ≡ buffer.place) × Says (codes "too many bytes") fault)
      → IfErr result (λ fault. (fault.kind ≡ TooLong → ⊥) → IsUnread fault.kind (piece_of buffer) fault) → Gives given has_ended has_failed before (Some result) after
  document is within (Ok d) after text held holds as_many ends passes still same over long unread = record {
    over = λ e. absurd (cc);
    goes = λ e. record {
      read = read.0;
      is_read = ap given same ∙ read.1;
      next = λ passed behind later may.
          let may' : MayCome buffer later = λ w. may (still ∙ w) in
          let found = document_ends (found_in (left buffer ++ later)) (left buffer ++ later) (sym is ∙ (first later may').0) in
          let piece = piece_there later (Ends found.0) may' found.1 in
          let stream = left before.buffer ++ (read.0 ++ later) in
          let lies : left after.buffer ≡ drop (length (piece_of buffer)) (left buffer) = subst (λ b. left after.buffer ≡ drop (length (piece_of b)) (left b)) holds passes.left in
          let placed : StandsBehind after.buffer (passed ++ piece_of buffer) = subst (λ b. StandsBehind b passed → StandsBehind after.buffer (passed ++ piece_of b)) holds (passes.place passed) (stands passed behind) in
          let counts : after.count ≡ before.count + length (piece_of buffer) = subst (λ b. after.count ≡ held.count + length (piece_of b)) holds passes.count ∙ ap (λ n. n + length (piece_of buffer)) as_many in
          let rest : left after.buffer ++ later ≡ drop found.0 stream =
          ap (λ xs. xs ++ later) lies ∙ sym (drop-append-le (length (piece_of buffer)) (left buffer) later within) ∙ ap (drop (length (piece_of buffer))) (whole_stream later) ∙ ap (λ xs. drop (length xs) stream) piece ∙ drop_taken found.0 stream in
          let counted : after.count ≡ length (passed ++ take found.0 stream) = counted_more after.count before.count passed (piece_of buffer) (take found.0 stream) counts behind.count piece in (
            found.0,
            found_there later (Ends found.0) found.1,
            subst (λ xs. IsTextOf xs (view d)) piece text,
            rest,
            record {
              place = subst (λ xs. StandsBehind after.buffer (passed ++ xs)) piece placed;
              count = counted;
              ended = λ w. ap has_ended same ∙ whole (λ b. behind.ended (sym begun_whole ∙ b)) (sym still ∙ w);
            },
            passes.open_,
          );
    };
  }
  document is within (Err fault) after text held holds as_many ends passes still same over long unread = record {
    over = λ e. absurd (cc);
    goes = λ e. record {
      read = read.0;
      is_read = ap given same ∙ read.1;
      next = λ passed behind later may.
          let may' : MayCome buffer later = λ w. may (still ∙ w) in
          let found = document_ends (found_in (left buffer ++ later)) (left buffer ++ later) (sym is ∙ (first later may').0) in
          let piece = piece_there later (Ends found.0) may' found.1 in
          (by_kind passed later behind found.0 (found_there later (Ends found.0) found.1) piece fault.kind long unread, over ∙ ends);
    };
  }
    where
      by_kind : (passed later : List ℕ) → IsBehind given has_ended has_failed before passed → (n : ℕ) → found_in (left before.buffer ++ (read.0 ++ later)) ≡ Ends n → piece_of buffer ≡ take n (left before.buffer ++ (read.0 ++ later)) → (k : FaultKind)
          → (k ≡ TooLong → (2 ^ 64 ≤ before.count + length (piece_of buffer)) × (place_of_fault fault ≡ buffer.place) × Says (codes "too many bytes") fault) → ((k ≡ TooLong → ⊥) → IsUnread k (piece_of buffer) fault)
          → IsFault k passed (left before.buffer ++ read.0) (left before.buffer ++ (read.0 ++ later)) (has_failed after.input) fault
      by_kind passed later behind n ends piece WrongByte long unread = absurd (unread (λ e. cc))
      by_kind passed later behind n ends piece CutShort long unread = absurd (unread (λ e. cc))
      by_kind passed later behind n ends piece Unread long unread = (n, ends, subst (λ xs. IsUnread Unread xs fault) piece (unread (λ e. cc)))
      by_kind passed later behind n ends piece ReadFailed long unread = absurd (unread (λ e. cc))
      by_kind passed later behind n ends piece OutOfMemory long unread = unread (λ e. cc)
      by_kind passed later behind n ends piece TooLong long unread =
          let so = long refl in
          let much : 2 ^ 64 ≤ length passed + n = grind (arith, so.0, behind.count, piece, length-take) in
          (n, ends, much, so.1 ∙ stands passed behind, so.2)

  -- ---- a piece that is refused

  pub refused : kind ≡ kinds.Refused → ((later : List ℕ) → MayCome buffer later → found_in (left buffer ++ later) ≡ wrong_in buffer) → (fault : DocumentFault)
      → ((passed stream : List ℕ) → StandsBehind buffer passed → (wrong_in buffer ≡ GoesOn → piece_of buffer ≡ stream) → ((more : List ℕ) × (stream ≡ left buffer ++ more)) → place_of_fault fault ≡ place_of (wrong_in buffer) passed stream)
      → (wrong_in buffer ≡ GoesOn → (fault.kind ≡ CutShort) × Says (codes "EOF while parsing") fault) → ((n : ℕ) → wrong_in buffer ≡ Refused n → (fault.kind ≡ WrongByte) × Says (codes "invalid JSON") fault)
      → (after : Documents R) → after.input ≡ input → after.buffer ≡ buffer → after.is_over ≡ true → Gives given has_ended has_failed before (Some (Err fault)) after
  refused is wrong fault placed cut byte after same held over = record {
    over = λ e. absurd (cc);
    goes = λ e. record {
      read = read.0;
      is_read = ap given same ∙ read.1;
      next = λ passed behind later may. (by_wrong passed later behind (λ w. may (ap (λ (b : StreamBuffer). b.is_whole) held ∙ w)) (wrong_in buffer) refl, over);
    };
  }
    where
      by_wrong : (passed later : List ℕ) → IsBehind given has_ended has_failed before passed → MayCome buffer later → (w : Found) → wrong_in buffer ≡ w → IsFault fault.kind passed (left before.buffer ++ read.0) (left before.buffer ++ (read.0 ++ later)) (has_failed after.input) fault
      by_wrong passed later behind may w e =
          let stream = left before.buffer ++ (read.0 ++ later) in
          let at : found_in (left buffer ++ later) ≡ w = wrong later may ∙ e in
          let kind_is : kinds.Refused ≡ kind_by w (left buffer ++ later) = sym is ∙ (first later may).0 ∙ ap (λ f. kind_by f (left buffer ++ later)) at in
          let place_is = placed passed stream (stands passed behind) (λ goes. piece_there later GoesOn may (wrong later may ∙ goes)) (later, sym (whole_stream later)) ∙ ap (λ f. place_of f passed stream) e in
          by_found w e (found_there later w at) kind_is place_is
        where
          by_found : (w : Found) → wrong_in buffer ≡ w → found_in (left before.buffer ++ (read.0 ++ later)) ≡ w → kinds.Refused ≡ kind_by w (left buffer ++ later) → place_of_fault fault ≡ place_of w passed (left before.buffer ++ (read.0 ++ later))
              → IsFault fault.kind passed (left before.buffer ++ read.0) (left before.buffer ++ (read.0 ++ later)) (has_failed after.input) fault
          by_found GoesOn e found kind_is place_is =
              let so = cut e in
              let nonblank : is_blank_text (left before.buffer ++ (read.0 ++ later)) ≡ false = ap is_blank_text (sym (whole_stream later)) ∙ not_blank (is_blank_text (left buffer ++ later)) kind_is in
              subst (λ k. IsFault k passed (left before.buffer ++ read.0) (left before.buffer ++ (read.0 ++ later)) (has_failed after.input) fault) (sym so.0) (found, nonblank, place_is, so.1)
          by_found (Refused n) e found kind_is place_is =
              let so = byte n e in
              subst (λ k. IsFault k passed (left before.buffer ++ read.0) (left before.buffer ++ (read.0 ++ later)) (has_failed after.input) fault) (sym so.0) (n, found, place_is, so.1)
          by_found (Ends n) e found kind_is place_is = absurd (cc)

-- ---- fewer are left

pub fewer_left : {R : Type 0} (before held after : Documents R) (result : Result Value DocumentFault) → before.is_over ≡ false → held.count ≡ before.count → held.is_over ≡ true → 0 < length (piece_of held.buffer) → OnOk result (IsPassed held after) → OnErr result (after.is_over ≡ held.is_over)
    → most_left after < most_left before
fewer_left before held after (Ok d) is_open as_many ends some passes over = grind (arith, is_open, as_many, some, passes.count, passes.fits, passes.open_)
fewer_left before held after (Err fault) is_open as_many ends some passes over = grind (arith, is_open, ends, over)
