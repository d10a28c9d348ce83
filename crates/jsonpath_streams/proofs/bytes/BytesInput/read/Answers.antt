use Rattle.std.proofs.Common.{◌≡◌, ap, sym, ◌∙◌, ◌++◌, take, drop, length, length-take, arith}
use Rattle.std.proofs.lemmas.List.{take_rest}
use Rattle.std.proofs.Math.Seq.{take-add, take-append_seam}
use Rattle.jsonpath_streams.proofs.bytes.BytesInput.read.Goals as goal

pub returns-clause-given : goal.returns-clause-given
returns-clause-given c =
    let bytes = c.args.self.now in
    let count = c.min-count.result in
    let copied = c.copy_from_slice.new.self in
    let long : length copied ≡ count = grind (arith, c.copy_from_slice.ensures.len, c.min-count.ensures, length-take) in
    take-add bytes.at count bytes.text.now ∙ ap (λ xs. take bytes.at bytes.text.now ++ xs)
    (ap (take count) (sym (take_rest bytes.text.now bytes.at)) ∙ sym c.copy_from_slice.ensures.after ∙ sym (take-append_seam copied (drop count c.args.buffer.now)) ∙ ap (λ n. take n (copied ++ drop count c.args.buffer.now)) long)
