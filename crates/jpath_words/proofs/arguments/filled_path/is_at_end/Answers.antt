use Rattle.std.proofs.Common.{◌≡◌, ◌==◌, Bool, true, false, [], length, drop, cond, refl, sym, ap, ◌∙◌}
use Rattle.std.proofs.Math.Seq.{drop-length}
use Rattle.std.proofs.lemmas.Bool.{eqb-true}
use Rattle.std.proofs.lemmas.Str.{chars-nil}
use Rattle.std.specs.Str.{chars}
use Rattle.jsonpath_paths.specs.text.TextPlace.{Place, ahead}
use Rattle.jsonpath_paths.specs.token.Looked.{Looked, error_at_end}
use Rattle.jsonpath_paths.specs.declared.token.tokens.TokenError.TheVariants.{Eof, Position}
use Rattle.jpath_words.proofs.arguments.filled_path.is_at_end.Goals as goal

at_end : (l : Looked) → error_at_end l ≡ Eof → l.seen ≡ length l.place.text
at_end l h = by_test (l.seen == length l.place.text) refl h
  where
    by_test : (b : Bool) → (l.seen == length l.place.text) ≡ b → cond b Eof (Position l.seen) ≡ Eof → l.seen ≡ length l.place.text
    by_test true is h = eqb-true l.seen (length l.place.text) is
    by_test false is h = cc h

nothing_ahead : (p : Place) → p.pos ≡ length p.text → ahead p ≡ []
unfolding ahead
nothing_ahead p h = ap (λ n. chars (drop n p.text)) h ∙ ap chars (drop-length p.text) ∙ chars-nil

pub returns-in-Eof : goal.returns-in-Eof
returns-in-Eof c = λ _.
    let l = c.next_token.new.self in
    let none = c.in-Err.ensures.none in
    let seen : l.seen ≡ length l.place.text = at_end l (sym c.to_error.ensures ∙ c.in-Eof.is) in
    ap ahead (sym none.1) ∙ nothing_ahead l.place (sym c.next_token.ensures.seen ∙ seen)
