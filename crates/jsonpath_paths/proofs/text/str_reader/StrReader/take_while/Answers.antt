use Rattle.std.proofs.Common.{rules, ◌≡◌, ◌∙◌, sym, ap, arith, true, false, ◌≤◌}
use Rattle.std.specs.Fn.{FnReturnsAt}
use Rattle.jsonpath_paths.specs.text.TextPlace.{ahead}
use Rattle.jsonpath_paths.proofs.token.ReadingLemmas.{span_read}
use Rattle.jsonpath_paths.proofs.text.RunLemmas.{run_more, run_stops, run_ends, moved_on}
use Rattle.jsonpath_paths.proofs.text.str_reader.StrReader.take_while.Goals as goal
use Rattle.jsonpath_paths.proofs.text.str_reader.StrReader.take_while.Goals.{in-Ok+then-not-fun, in_default}

pub loop-c-preserved : goal.loop-c-preserved
loop-c-preserved g c =
    let taken = moved_on c.loop-c.self c.loop-c.ahead c.next_char_without_span.new.self c.copy_of_place.result c.in-Ok.c c.loop-c.invariant.same c.in-Ok.ensures.char.0 c.in-Ok.ensures.char.1 c.copy_of_place.ensures in
    let further : c.loop-c.self.pos ≤ c.copy_of_place.result.pos = omega (arith, ap (λ p. p.pos) taken.1) in
    record {
      same = sym c.copy_of_place.ensures;
      text = ap (λ p. p.text) taken.1 ∙ c.loop-c.invariant.text;
      further = omega (arith, further, c.loop-c.invariant.further);
      run = λ test computes.
          let answer : FnReturnsAt g.F.Fn c.args.fun c.in-Ok.c c.fun.result = search rules in
          let passes : test c.in-Ok.c ≡ true = sym (computes c.in-Ok.c _ answer) ∙ c.if-not-fun.false in
          run_more test c.loop-c.self c.copy_of_place.result c.in-Ok.c taken.0 taken.1 passes ∙ c.loop-c.invariant.run test computes;
    }

pub returns-clause-run : goal.returns-clause-run
returns-clause-run g c = λ test computes.
    elim c.match-next_char_without_span.branch [
      | in-Ok+then-not-fun w ↦
          let answer : FnReturnsAt g.F.Fn c.args.fun w.in-Ok.c w.fun.result = search rules in
          let fails : test w.in-Ok.c ≡ false = sym (computes w.in-Ok.c _ answer) ∙ w.if-not-fun.true in
          run_stops test c.loop-c.self w.in-Ok.c _ (ap ahead (sym c.loop-c.invariant.same) ∙ w.in-Ok.ensures.char.0) fails ∙ c.loop-c.invariant.run test computes
      | in_default w ↦ run_ends test c.loop-c.self (ap ahead (sym c.loop-c.invariant.same) ∙ w.in_default.ensures.char.0) ∙ c.loop-c.invariant.run test computes
    ]

pub returns-clause-part : goal.returns-clause-part
returns-clause-part g c =
    let from = c.args.self.now in
    let to = c.loop-c.self in
    span_read from to c.current_pos-start.result c.current_pos.result c.new.result c.current_pos-start.ensures.pos c.current_pos.ensures.pos c.new.ensures
    c.loop-c.invariant.text c.loop-c.invariant.further c.current_pos.ensures.within c.current_pos-start.ensures.utf8 c.current_pos.ensures.utf8
