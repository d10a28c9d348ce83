use Rattle.std.proofs.Common.{◌≡◌, ℕ, List, ◌++◌, [], false, refl, sym, ap, subst, ◌∙◌, arith, append_assoc}
use Rattle.std.proofs.lemmas.List.{append-nil}
use Rattle.json_recognizer.specs.Buffer.{left, piece_of, MayCome}
use Rattle.jpath_texts.specs.Stream.{behind_piece, GoesAlong, IsCutShort}
use Rattle.jpath_texts.proofs.StreamLemmas.{IsAlong, not_enough, along_start, along_read, along_visited, along_end, document_passed}
use Rattle.jpath_texts.proofs.stream.visit_documents.visit_each_piece.Goals.{in-Document, in-Refused+in_default-pass_refused_line}
use Rattle.jpath_texts.proofs.stream.visit_documents.visit_each_piece.Goals as goal

pub loop-init : goal.loop-init
loop-init g c = record {
  ready = c.requires.ready;
  whole = c.requires.whole;
  read = refl;
  along = along_start (g.V.Visitor.gives c.args.visitor.now) (g.R.Input.given c.args.reader.now) c.args.feed.now (g.V.Visitor.written c.args.visitor.now);
}

pub returns-in-Err-clause-along : goal.returns-in-Err-clause-along
returns-in-Err-clause-along g c =
    let more = c.in-Err.ensures.err in
    let unread : c.loop.feed.is_whole ≡ false = sym c.find_next_piece.ensures.whole ∙ c.in_default.ensures.bytes.1 in
    let e = along_end (g.V.Visitor.gives c.loop.visitor) (g.V.Visitor.gives c.notify_visitor_then_read.new.visitor) (g.R.Input.given c.args.reader.now) (g.R.Input.given c.loop.reader) (left c.args.feed.now) (MayCome c.loop.feed) (λ more. left c.loop.feed ++ more)
    (g.V.Visitor.written c.args.visitor.now) (g.V.Visitor.written c.loop.visitor) c.loop.count false c.loop.invariant.along c.notify_visitor_then_read.ensures.stay
    (g.R.Input.given c.notify_visitor_then_read.new.reader) (g.V.Visitor.written c.notify_visitor_then_read.new.visitor) more.0 more.1 (λ whole. absurd (cc)) c.notify_visitor_then_read.ensures.written in
    (e.0, left c.loop.feed ++ more.0, e.1, subst (GoesAlong _ _ _ _ _ _) (sym (not_enough _ c.in-Err.ensures.how)) e.2, λ is. absurd (subst IsCutShort is c.in-Err.ensures.how))

pub loop-preserved-in_default : goal.loop-preserved-in_default
loop-preserved-in_default g c =
    let more = c.in_default-notify_visitor_then_read.ensures.ok in
    let next = c.notify_visitor_then_read.new.feed in
    let unread : c.loop.feed.is_whole ≡ false = sym c.find_next_piece.ensures.whole ∙ c.in_default.ensures.bytes.1 in
    let lies : left c.loop.feed ++ more.0 ≡ left next = ap (λ xs. xs ++ more.0) (sym c.find_next_piece.ensures.stays) ∙ sym more.2 in record {
      ready = c.in_default-notify_visitor_then_read.ensures.ready;
      whole = λ is. (c.in_default-notify_visitor_then_read.ensures.whole is).1;
      read = c.in_default-notify_visitor_then_read.ensures.read (λ is. absurd (cc)) ∙ c.loop.invariant.read;
      along = along_read (g.V.Visitor.gives c.loop.visitor) (g.V.Visitor.gives c.notify_visitor_then_read.new.visitor) (g.R.Input.given c.args.reader.now) (g.R.Input.given c.loop.reader) (left c.args.feed.now) (MayCome c.loop.feed) (λ more. left c.loop.feed ++ more)
          (g.V.Visitor.written c.args.visitor.now) (g.V.Visitor.written c.loop.visitor) c.loop.count false c.loop.invariant.along c.notify_visitor_then_read.ensures.stay (MayCome next) (λ more. left next ++ more)
          (g.R.Input.given c.notify_visitor_then_read.new.reader) (g.V.Visitor.written c.notify_visitor_then_read.new.visitor) more.0 more.1
          (λ later may. (λ whole. absurd (cc), sym (append_assoc (left c.loop.feed) more.0 later) ∙ ap (λ xs. xs ++ later) lies)) c.notify_visitor_then_read.ensures.written;
    }

pub returns-in-Err-visit_current_piece-clause-along : goal.returns-in-Err-visit_current_piece-clause-along
returns-in-Err-visit_current_piece-clause-along g c =
    let e = along_end (g.V.Visitor.gives c.loop.visitor) (g.V.Visitor.gives c.visit_current_piece.new.visitor) (g.R.Input.given c.args.reader.now) (g.R.Input.given c.loop.reader) (left c.args.feed.now) (MayCome c.loop.feed) (λ more. left c.loop.feed ++ more)
    (g.V.Visitor.written c.args.visitor.now) (g.V.Visitor.written c.loop.visitor) c.loop.count false c.loop.invariant.along c.visit_current_piece.ensures.stay
    (g.R.Input.given c.loop.reader) (g.V.Visitor.written c.visit_current_piece.new.visitor) [] (sym (append-nil _)) (λ whole. refl) c.in-Err-visit_current_piece.ensures.nothing in
    (e.0, left c.loop.feed ++ [], e.1, e.2, λ is. absurd (cc))

pub returns-then-taken-clause-along : goal.returns-then-taken-clause-along
returns-then-taken-clause-along g c =
    let found = c.find_next_piece.new.self in
    let gives = g.V.Visitor.gives c.visit_current_piece.new.visitor in
    let left_of = λ (more : List ℕ). behind_piece c.in-Some.kind (piece_of found) (left found ++ more) in
    let so_far = along_visited (g.V.Visitor.gives c.loop.visitor) (g.V.Visitor.gives c.visit_current_piece.new.visitor) (g.R.Input.given c.args.reader.now) (g.R.Input.given c.loop.reader) (left c.args.feed.now) c.loop.feed found
    (g.V.Visitor.written c.args.visitor.now) (g.V.Visitor.written c.loop.visitor) c.loop.count c.loop.invariant.along c.visit_current_piece.ensures.stay c.find_next_piece.ensures.stays c.find_next_piece.ensures.whole c.in-Some.kind
    (g.V.Visitor.written c.visit_current_piece.new.visitor) c.in-Ok.ensures.gives.0 c.in-Ok.taken c.saturating_add-count.result c.in-Some.ensures.first c.in-Ok.ensures.gives.1 c.in-Ok.ensures.gives.2 (grind arith) in
    let e = along_end gives gives (g.R.Input.given c.args.reader.now) (g.R.Input.given c.loop.reader) (left c.args.feed.now) (MayCome found) left_of (g.V.Visitor.written c.args.visitor.now) (g.V.Visitor.written c.visit_current_piece.new.visitor) c.saturating_add-count.result c.in-Ok.taken.is_enough so_far (λ kind piece taken text h. h)
    (g.R.Input.given c.loop.reader) (g.V.Visitor.written c.visit_current_piece.new.visitor) [] (sym (append-nil _)) (λ whole. refl) refl in
    (e.0, left_of [], e.1, subst (GoesAlong _ _ _ _ _ _) c.if-taken.true e.2, λ is. absurd (cc))

pub returns-in-Err-pass_refused_line-clause-along : goal.returns-in-Err-pass_refused_line-clause-along
returns-in-Err-pass_refused_line-clause-along g c =
    let found = c.find_next_piece.new.self in
    let gives = g.V.Visitor.gives c.visit_current_piece.new.visitor in
    let left_of = λ (more : List ℕ). behind_piece c.in-Some.kind (piece_of found) (left found ++ more) in
    let so_far = along_visited (g.V.Visitor.gives c.loop.visitor) (g.V.Visitor.gives c.visit_current_piece.new.visitor) (g.R.Input.given c.args.reader.now) (g.R.Input.given c.loop.reader) (left c.args.feed.now) c.loop.feed found
    (g.V.Visitor.written c.args.visitor.now) (g.V.Visitor.written c.loop.visitor) c.loop.count c.loop.invariant.along c.visit_current_piece.ensures.stay c.find_next_piece.ensures.stays c.find_next_piece.ensures.whole c.in-Some.kind
    (g.V.Visitor.written c.visit_current_piece.new.visitor) c.in-Ok.ensures.gives.0 c.in-Ok.taken c.saturating_add-count.result c.in-Some.ensures.first c.in-Ok.ensures.gives.1 c.in-Ok.ensures.gives.2 (grind arith) in
    let more = c.in-Err-pass_refused_line.ensures.err in
    let e = along_end gives (g.V.Visitor.gives c.pass_refused_line.new.visitor) (g.R.Input.given c.args.reader.now) (g.R.Input.given c.loop.reader) (left c.args.feed.now) (MayCome found) left_of (g.V.Visitor.written c.args.visitor.now) (g.V.Visitor.written c.visit_current_piece.new.visitor) c.saturating_add-count.result c.in-Ok.taken.is_enough so_far c.pass_refused_line.ensures.stay
    (g.R.Input.given c.pass_refused_line.new.reader) (g.V.Visitor.written c.pass_refused_line.new.visitor) more.0 more.1 more.2 c.pass_refused_line.ensures.written in
    (e.0, left_of more.0, e.1, subst (GoesAlong _ _ _ _ _ _) (c.if-taken.false ∙ sym (not_enough _ c.in-Err-pass_refused_line.ensures.how)) e.2, λ is. absurd (subst IsCutShort is c.in-Err-pass_refused_line.ensures.how))

pub returns-in-Blanks-clause-along : goal.returns-in-Blanks-clause-along
returns-in-Blanks-clause-along g c =
    let found = c.find_next_piece.new.self in
    let gives = g.V.Visitor.gives c.visit_current_piece.new.visitor in
    let left_of = λ (more : List ℕ). behind_piece c.in-Some.kind (piece_of found) (left found ++ more) in
    let so_far = along_visited (g.V.Visitor.gives c.loop.visitor) (g.V.Visitor.gives c.visit_current_piece.new.visitor) (g.R.Input.given c.args.reader.now) (g.R.Input.given c.loop.reader) (left c.args.feed.now) c.loop.feed found
    (g.V.Visitor.written c.args.visitor.now) (g.V.Visitor.written c.loop.visitor) c.loop.count c.loop.invariant.along c.visit_current_piece.ensures.stay c.find_next_piece.ensures.stays c.find_next_piece.ensures.whole c.in-Some.kind
    (g.V.Visitor.written c.visit_current_piece.new.visitor) c.in-Ok.ensures.gives.0 c.in-Ok.taken c.saturating_add-count.result c.in-Some.ensures.first c.in-Ok.ensures.gives.1 c.in-Ok.ensures.gives.2 (grind arith) in
    let e = along_end gives gives (g.R.Input.given c.args.reader.now) (g.R.Input.given c.loop.reader) (left c.args.feed.now) (MayCome found) left_of (g.V.Visitor.written c.args.visitor.now) (g.V.Visitor.written c.visit_current_piece.new.visitor) c.saturating_add-count.result c.in-Ok.taken.is_enough so_far (λ kind piece taken text h. h)
    (g.R.Input.given c.loop.reader) (g.V.Visitor.written c.visit_current_piece.new.visitor) [] (sym (append-nil _)) (λ whole. refl) refl in
    (e.0, left_of [], e.1, subst (GoesAlong _ _ _ _ _ _) c.if-taken.false e.2, λ is. (ap (λ kind. behind_piece kind (piece_of found) (left found ++ [])) c.in-Blanks.is, c.loop.invariant.whole (sym c.find_next_piece.ensures.whole ∙ c.in-Some.ensures.end c.in-Blanks.is)))

pub loop-preserved : goal.loop-preserved
loop-preserved g c =
    let found = c.find_next_piece.new.self in
    let gives = g.V.Visitor.gives c.visit_current_piece.new.visitor in
    let left_of = λ (more : List ℕ). behind_piece c.in-Some.kind (piece_of found) (left found ++ more) in
    let so_far = along_visited (g.V.Visitor.gives c.loop.visitor) (g.V.Visitor.gives c.visit_current_piece.new.visitor) (g.R.Input.given c.args.reader.now) (g.R.Input.given c.loop.reader) (left c.args.feed.now) c.loop.feed found
    (g.V.Visitor.written c.args.visitor.now) (g.V.Visitor.written c.loop.visitor) c.loop.count c.loop.invariant.along c.visit_current_piece.ensures.stay c.find_next_piece.ensures.stays c.find_next_piece.ensures.whole c.in-Some.kind
    (g.V.Visitor.written c.visit_current_piece.new.visitor) c.in-Ok.ensures.gives.0 c.in-Ok.taken c.saturating_add-count.result c.in-Some.ensures.first c.in-Ok.ensures.gives.1 c.in-Ok.ensures.gives.2 (grind arith) in
    elim c.match-kind.branch [
      | in-Document w ↦
          let next = w.pass_piece.new.self in
          rw (w.feed-is, w.reader-is, w.visitor-is) (record {
            ready = w.pass_piece.ensures.ready;
            whole = λ is. c.loop.invariant.whole (sym c.find_next_piece.ensures.whole ∙ (sym w.pass_piece.ensures.whole ∙ is));
            read = c.loop.invariant.read;
            along = subst (IsAlong _ _ _ _ _ _ _ _ _) c.if-taken.false (along_read gives gives (g.R.Input.given c.args.reader.now) (g.R.Input.given c.loop.reader) (left c.args.feed.now) (MayCome found) left_of
                (g.V.Visitor.written c.args.visitor.now) (g.V.Visitor.written c.visit_current_piece.new.visitor) c.saturating_add-count.result c.in-Ok.taken.is_enough so_far (λ kind piece taken text h. h) (MayCome next) (λ more. left next ++ more)
                (g.R.Input.given c.loop.reader) (g.V.Visitor.written c.visit_current_piece.new.visitor) [] (sym (append-nil _))
                (λ later may. (λ is. may (w.pass_piece.ensures.whole ∙ is), document_passed c.in-Some.kind found next later w.in-Document.is w.pass_piece.ensures.passed)) refl);
          })
      | in-Refused+in_default-pass_refused_line w ↦
          let next = w.pass_refused_line.new.feed in
          let more = w.in_default-pass_refused_line.ensures.ok in
          rw (w.feed-is, w.reader-is, w.visitor-is) (record {
            ready = w.in_default-pass_refused_line.ensures.ready;
            whole = w.in_default-pass_refused_line.ensures.whole;
            read = w.in_default-pass_refused_line.ensures.read (λ is. absurd (cc)) ∙ c.loop.invariant.read;
            along = subst (IsAlong _ _ _ _ _ _ _ _ _) c.if-taken.false (along_read gives (g.V.Visitor.gives w.pass_refused_line.new.visitor) (g.R.Input.given c.args.reader.now) (g.R.Input.given c.loop.reader) (left c.args.feed.now) (MayCome found) left_of
                (g.V.Visitor.written c.args.visitor.now) (g.V.Visitor.written c.visit_current_piece.new.visitor) c.saturating_add-count.result c.in-Ok.taken.is_enough so_far w.pass_refused_line.ensures.stay (MayCome next) (λ more. left next ++ more)
                (g.R.Input.given w.pass_refused_line.new.reader) (g.V.Visitor.written w.pass_refused_line.new.visitor) more.0 more.1
                (λ later may. ((more.2 later may).0, ap (λ kind. behind_piece kind (piece_of found) (left found ++ (more.0 ++ later))) w.in-Refused.is ∙ (more.2 later may).1)) w.pass_refused_line.ensures.written);
          })
    ]

pub returns-clause-along : goal.returns-clause-along
returns-clause-along g c =
    let e = along_end (g.V.Visitor.gives c.loop.visitor) (g.V.Visitor.gives c.loop.visitor) (g.R.Input.given c.args.reader.now) (g.R.Input.given c.loop.reader) (left c.args.feed.now) (MayCome c.loop.feed) (λ more. left c.loop.feed ++ more)
    (g.V.Visitor.written c.args.visitor.now) (g.V.Visitor.written c.loop.visitor) c.loop.count false c.loop.invariant.along (λ kind piece taken text h. h)
    (g.R.Input.given c.loop.reader) (g.V.Visitor.written c.loop.visitor) [] (sym (append-nil _)) (λ whole. refl) refl in
    (e.0, left c.loop.feed ++ [], e.1, e.2, λ is. absurd (cc))
