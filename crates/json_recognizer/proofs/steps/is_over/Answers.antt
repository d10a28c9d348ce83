use Rattle.std.proofs.Common.{rules, ◌≡◌, ◌==◌, ℕ, zero, suc, List, [], ◌∷◌, Bool, false, sym, ◌∙◌, arith, refl}
use Rattle.json_recognizer.specs.State.{frames}
use Rattle.json_recognizer.specs.Stream.{is_over_in}
use Rattle.json_recognizer.specs.declared.machine.Mode.{Mode}
use Rattle.json_recognizer.specs.declared.machine.Mode.TheVariants.{Behind}
use Rattle.json_recognizer.proofs.Rows.{over_row}
use Rattle.json_recognizer.proofs.steps.is_over.Goals as goal

not_inside : (m : Mode) (k : Bool) (st : List Bool) → is_over_in m (k ∷ st) ≡ false
not_inside Behind k st = refl
not_inside m k st = refl

not_over : (m : Mode) (d : ℕ) (ks : List Bool) → is_over_in m [] ≡ false → is_over_in m (frames d ks) ≡ false
not_over m zero ks h = h
not_over m (suc d) ks h = not_inside m _ (frames d ks)

other_row : (row : ℕ) → (row ≡ 50 → ⊥) → (row == 50) ≡ false
other_row row other = search (rules, arith)

pub returns-else-row-eq-BEHIND : goal.returns-else-row-eq-BEHIND
returns-else-row-eq-BEHIND c =
    let s = c.args.state.now in
    let other = other_row c.args.row c.if-row-eq-BEHIND.false in
    other ∙ sym (not_over _ s.depth s.kinds (over_row c.args.row c.requires ∙ other))
