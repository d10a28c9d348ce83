-- Along a stream, piece by piece.
use Rattle.std.proofs.Common.{◌≡◌, ℕ, ◌+◌, ◌-◌, ◌≤◌, ◌^◌, min, Bool, false, List, [], ◌∷◌, ◌++◌, length, drop, refl, sym, ap, ap₂, subst, ◌∙◌, arith, append_assoc, length-take}
use Rattle.std.specs.Prelude.{sum_by}
use Rattle.std.proofs.lemmas.List.{append-nil, drop-append-le}
use Rattle.std.proofs.lemmas.List.Sums.{sum_by-append, prefix_len-le-length}
use Rattle.json_recognizer.specs.Blanks.{blanks_len}
use Rattle.json_recognizer.specs.Buffer.{left, piece_of, MayCome, IsFirstOf}
use Rattle.json_recognizer.specs.Lines.{behind_line}
use Rattle.json_recognizer.specs.declared.buffer.stream_buffer.StreamBuffer.{StreamBuffer}
use Rattle.json_recognizer.specs.declared.buffer.piece.Kind.{Kind}
use Rattle.json_recognizer.specs.declared.buffer.piece.Kind.TheVariants as kinds
use Rattle.jpath_texts.specs.Stream.{behind_piece, Visited, Passes, Gives, AreGiven, StayGiven, texts_of, count_of, AskMore, GoesAlong, IsCutShort, is_enough}
use Rattle.jpath_texts.specs.declared.stream.visit_documents.Taken.{Taken}
use Rattle.jpath_texts.specs.declared.stream.visit_documents.How.{How}
use Rattle.jpath_texts.specs.declared.stream.visit_documents.How.TheVariants.{Whole, Enough, ReadFailed, Stopped, Endless}

-- ---- behind a refused line

piece_within : (feed : StreamBuffer) → length (piece_of feed) ≤ length (left feed)
piece_within feed = grind (arith, length-take)

blanks_passed : (piece left₀ left₁ ys : List ℕ) → length piece ≤ length left₀ → left₁ ≡ drop (blanks_len piece) left₀ → behind_piece kinds.Refused piece (left₀ ++ ys) ≡ behind_line (left₁ ++ ys)
blanks_passed piece left₀ left₁ ys within lies =
    let blanks : blanks_len piece ≤ length piece = prefix_len-le-length _ piece in
    ap behind_line (drop-append-le (blanks_len piece) left₀ ys (omega (arith, blanks, within)) ∙ ap (λ xs. xs ++ ys) (sym lies))

-- the line of a refused piece is passed: what was read meanwhile, and what is left of the line
pub record IsPassing (given_before given : List ℕ) (found feed : StreamBuffer) : Type 0 where
  pub more : List ℕ
  pub is_given : given ≡ given_before ++ more
  pub on : (later : List ℕ) → MayCome feed later → MayCome found (more ++ later) × (behind_piece kinds.Refused (piece_of found) (left found ++ (more ++ later)) ≡ behind_line (left feed ++ later))

pub passing_start : (given : List ℕ) (found feed : StreamBuffer) → feed.is_whole ≡ found.is_whole → left feed ≡ drop (blanks_len (piece_of found)) (left found) → IsPassing given given found feed
passing_start given found feed whole lies = record {
  more = [];
  is_given = sym (append-nil given);
  on = λ later may. (λ is. may (whole ∙ is), blanks_passed (piece_of found) (left found) (left feed) later (piece_within found) lies);
}

pub passing_stopped : (given_before given : List ℕ) (found feed : StreamBuffer) → IsPassing given_before given found feed → (more : List ℕ) × (given ≡ given_before ++ more) × MayCome found more
passing_stopped given_before given found feed so_far = (so_far.more, so_far.is_given, subst (MayCome found) (append-nil so_far.more) (so_far.on [] (λ is. refl)).0)

module _ (given_before given : List ℕ) (found feed passed : StreamBuffer) (so_far : IsPassing given_before given found feed) (whole : passed.is_whole ≡ feed.is_whole) where
  pub passing_read : (next : StreamBuffer) (given₁ chunk : List ℕ) → passed.is_whole ≡ false → ((more : List ℕ) → behind_line (left feed ++ more) ≡ behind_line (left passed ++ more)) → given₁ ≡ given ++ chunk → left next ≡ left passed ++ chunk
      → IsPassing given_before given₁ found next
  passing_read next given₁ chunk unread line is lies = record {
    more = so_far.more ++ chunk;
    is_given = is ∙ ap (λ xs. xs ++ chunk) so_far.is_given ∙ append_assoc given_before so_far.more chunk;
    on = λ later may.
        let before = so_far.on (chunk ++ later) (λ ended. absurd (cc)) in
        let longer : so_far.more ++ (chunk ++ later) ≡ (so_far.more ++ chunk) ++ later = sym (append_assoc so_far.more chunk later) in
        let further : left passed ++ (chunk ++ later) ≡ left next ++ later = sym (append_assoc (left passed) chunk later) ∙ ap (λ xs. xs ++ later) (sym lies) in (
          subst (MayCome found) longer before.0,
          ap (λ xs. behind_piece kinds.Refused (piece_of found) (left found ++ xs)) (sym longer) ∙ before.1 ∙ line (chunk ++ later) ∙ ap behind_line further,
        );
  }

-- ---- one step

passes_one : (vs : List Visited) (v : Visited) (stream rest : List ℕ) → Passes vs stream rest → IsFirstOf v.kind v.piece rest → Passes (vs ++ v ∷ []) stream (behind_piece v.kind v.piece rest)
passes_one [] v stream rest same first = (subst (λ s. IsFirstOf v.kind v.piece s) (sym same) first, ap (behind_piece v.kind v.piece) same)
passes_one (w ∷ vs) v stream rest h first = (h.0, passes_one vs v (behind_piece w.kind w.piece stream) rest h.1 first)

given_stay : (g h : Gives) (vs : List Visited) → StayGiven g h → AreGiven g vs → AreGiven h vs
given_stay g h [] stay all = tt
given_stay g h (v ∷ vs) stay all = (stay v.kind v.piece v.taken v.text all.0, given_stay g h vs stay all.1)

given_one : (g : Gives) (vs : List Visited) (v : Visited) → AreGiven g vs → g v.kind v.piece v.taken v.text → AreGiven g (vs ++ v ∷ [])
given_one g [] v all one = (one, tt)
given_one g (w ∷ vs) v all one = (all.0, given_one g vs v all.1 one)

texts_one : (vs : List Visited) (v : Visited) → texts_of (vs ++ v ∷ []) ≡ texts_of vs ++ v.text
texts_one [] v = append-nil v.text
texts_one (w ∷ vs) v = ap (λ xs. w.text ++ xs) (texts_one vs v) ∙ sym (append_assoc w.text (texts_of vs) v.text)

ask_one : (vs : List Visited) (v : Visited) (is_enough : Bool) → AskMore vs false → v.taken.is_enough ≡ is_enough → AskMore (vs ++ v ∷ []) is_enough
ask_one [] v is_enough so_far is = is
ask_one (w ∷ []) v is_enough so_far is = (so_far, is)
ask_one (w ∷ x ∷ vs) v is_enough so_far is = (so_far.0, ask_one (x ∷ vs) v is_enough so_far.1 is)

-- ---- so far

-- What was read of a stream that began by `start`, and what was made of it: where more may come, `left_of` says what is left with it.
pub record IsAlong (gives : Gives) (given_before given start : List ℕ) (may : List ℕ → Type 0) (left_of : List ℕ → List ℕ) (before after : List ℕ) (count : ℕ) (is_enough : Bool) : Type 0 where
  pub read : List ℕ
  pub visited : List Visited
  pub is_given : given ≡ given_before ++ read
  pub passes : (more : List ℕ) → may more → Passes visited ((start ++ read) ++ more) (left_of more)
  pub are_given : AreGiven gives visited
  pub written : after ≡ before ++ texts_of visited
  pub counted : count ≡ count_of visited
  pub asked : AskMore visited is_enough

pub along_start : (gives : Gives) (given : List ℕ) (feed : StreamBuffer) (before : List ℕ) → IsAlong gives given given (left feed) (MayCome feed) (λ more. left feed ++ more) before before 0 false
along_start gives given feed before = record {
  read = [];
  visited = [];
  is_given = sym (append-nil given);
  passes = λ more may. ap (λ xs. xs ++ more) (append-nil (left feed));
  are_given = tt;
  written = sym (append-nil before);
  counted = refl;
  asked = refl;
}

module _ (g h : Gives) (given_before given start : List ℕ) (may : List ℕ → Type 0) (left_of : List ℕ → List ℕ) (before after : List ℕ) (count : ℕ) (enough : Bool) (so_far : IsAlong g given_before given start may left_of before after count enough) (stay : StayGiven g h) where
  -- more was read, and the visitor told
  pub along_read : (may' : List ℕ → Type 0) (left_of' : List ℕ → List ℕ) (given' after' more : List ℕ) → given' ≡ given ++ more → ((later : List ℕ) → may' later → may (more ++ later) × (left_of (more ++ later) ≡ left_of' later)) → after' ≡ after
      → IsAlong h given_before given' start may' left_of' before after' count enough
  along_read may' left_of' given' after' more is on same = record {
    read = so_far.read ++ more;
    visited = so_far.visited;
    is_given = is ∙ ap (λ xs. xs ++ more) so_far.is_given ∙ append_assoc given_before so_far.read more;
    passes = λ later may'. subst (λ (p : List ℕ × List ℕ). Passes so_far.visited p.0 p.1) (ap₂ (λ (xs ys : List ℕ). (xs, ys)) (longer later) (on later may').1) (so_far.passes (more ++ later) (on later may').0);
    are_given = given_stay g h so_far.visited stay so_far.are_given;
    written = same ∙ so_far.written;
    counted = so_far.counted;
    asked = so_far.asked;
  }
    where
      longer : (later : List ℕ) → (start ++ so_far.read) ++ (more ++ later) ≡ (start ++ (so_far.read ++ more)) ++ later
      longer later = sym (append_assoc (start ++ so_far.read) more later) ∙ ap (λ xs. xs ++ later) (append_assoc start so_far.read more)

  -- it ended, behind what was read beside
  pub along_end : (given' after' more : List ℕ) → given' ≡ given ++ more → may more → after' ≡ after → (read : List ℕ) × (given' ≡ given_before ++ read) × GoesAlong h (start ++ read) (left_of more) before after' count enough
  along_end given' after' more is comes same = (
    so_far.read ++ more,
    is ∙ ap (λ xs. xs ++ more) so_far.is_given ∙ append_assoc given_before so_far.read more,
    record {
      visited = so_far.visited;
      passes = subst (λ xs. Passes so_far.visited xs (left_of more)) (append_assoc start so_far.read more) (so_far.passes more comes);
      given = given_stay g h so_far.visited stay so_far.are_given;
      written = same ∙ so_far.written;
      counted = so_far.counted;
      asked = so_far.asked;
    },
  )

-- a piece was found and visited
module _ (g h : Gives) (given_before given start : List ℕ) (feed found : StreamBuffer) (before after : List ℕ) (count : ℕ) (so_far : IsAlong g given_before given start (MayCome feed) (λ more. left feed ++ more) before after count false) (stay : StayGiven g h)
    (stays : left found ≡ left feed) (whole : found.is_whole ≡ feed.is_whole) where
  pub along_visited : (kind : Kind) (after' text : List ℕ) (taken : Taken) (count' : ℕ) → ((more : List ℕ) → MayCome found more → IsFirstOf kind (piece_of found) (left found ++ more)) → after' ≡ after ++ text → h kind (piece_of found) taken text → count' ≡ min (count + taken.count) (2 ^ 64 - 1)
      → IsAlong h given_before given start (MayCome found) (λ more. behind_piece kind (piece_of found) (left found ++ more)) before after' count' taken.is_enough
  along_visited kind after' text taken count' first wrote gives_ counts =
      let v : Visited = record { kind = kind; piece = piece_of found; taken = taken; text = text } in record {
        read = so_far.read;
        visited = so_far.visited ++ v ∷ [];
        is_given = so_far.is_given;
        passes = λ more may.
            passes_one so_far.visited v _ _ (subst (λ xs. Passes so_far.visited ((start ++ so_far.read) ++ more) (xs ++ more)) (sym stays) (so_far.passes more (λ is. may (whole ∙ is)))) (first more may);
        are_given = given_one h so_far.visited v (given_stay g h so_far.visited stay so_far.are_given) gives_;
        written = wrote ∙ ap (λ xs. xs ++ text) so_far.written ∙ append_assoc before (texts_of so_far.visited) text ∙ ap (λ xs. before ++ xs) (sym (texts_one so_far.visited v));
        counted =
            let summed : sum_by (λ w. w.taken.count) (so_far.visited ++ v ∷ []) ≡ sum_by (λ w. w.taken.count) so_far.visited + (0 + taken.count) = sum_by-append (λ w. w.taken.count) so_far.visited (v ∷ []) in
            omega (arith, counts, so_far.counted, summed);
        asked = ask_one so_far.visited v taken.is_enough so_far.asked refl;
      }

pub document_passed : (kind : Kind) (found next : StreamBuffer) (later : List ℕ) → kind ≡ kinds.Document → left next ≡ drop (length (piece_of found)) (left found) → behind_piece kind (piece_of found) (left found ++ later) ≡ left next ++ later
document_passed kind found next later is lies =
    ap (λ k. behind_piece k (piece_of found) (left found ++ later)) is ∙ drop-append-le (length (piece_of found)) (left found) later (piece_within found) ∙ ap (λ xs. xs ++ later) (sym lies)

-- it didn't end since nothing more was asked for
pub not_enough : {S : Type 0} (how : How S) → IsCutShort how → is_enough how ≡ false
not_enough Whole cut = absurd cut
not_enough Enough cut = absurd cut
not_enough (ReadFailed failure) cut = refl
not_enough (Stopped stop) cut = refl
not_enough Endless cut = refl
