use Rattle.std.proofs.Common.{◌==◌, nat_lt, nat_le, arith}
use Rattle.std.proofs.lemmas.Simd.{zip2_splat, zip2_splat_left}
use Rattle.json_recognizer.specs.Classes.{is_stop}
use Rattle.json_recognizer.proofs.Chars.{flag, either, masked}
use Rattle.json_recognizer.proofs.text.stops.Goals as goal

pub returns : goal.returns
returns c =
    let v = c.args.bytes in
    let long = c.fits-bytes.0 in
    masked is_stop v _ (omega arith)
    (either _ (λ x. nat_le 128 x) v
    (either _ (λ x. nat_lt x 32) v (either (λ x. x == 34) (λ x. x == 92) v (zip2_splat (λ x y. flag (x == y)) v 16 34 long) (zip2_splat (λ x y. flag (x == y)) v 16 92 long)) (zip2_splat (λ x y. flag (nat_lt x y)) v 16 32 long))
    (zip2_splat_left (λ x y. flag (nat_le x y)) 128 16 v long))
