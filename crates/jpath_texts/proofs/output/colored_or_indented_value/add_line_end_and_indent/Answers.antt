use Rattle.std.proofs.Common.{◌≡◌, ℕ, ◌+◌, ◌*◌, ◌∷◌, ◌++◌, replicate, ap, ◌∙◌, arith}
use Rattle.std.proofs.lemmas.List.{append_assoc, replicate-append-replicate}
use Rattle.jpath_texts.proofs.output.colored_or_indented_value.add_line_end_and_indent.Goals as goal

deeper : (n count blank : ℕ) → replicate (n * count) blank ++ replicate count blank ≡ replicate ((n + 1) * count) blank
deeper n count blank =
    let more : n * count + count ≡ (n + 1) * count = grind arith in
    replicate-append-replicate (n * count) count blank ∙ ap (λ k. replicate k blank) more

pub loop-preserved : goal.loop-preserved
loop-preserved c =
    let l = c.loop in
    let count = c.in-Blanks.count in
    c.in_ok-add_repeated-in-Blanks.ensures ∙ ap (λ b. b ++ replicate count 32) l.invariant ∙ append_assoc c.args.out.now.items (10 ∷ replicate (l.counter * count) 32) (replicate count 32)
    ∙ ap (λ b. c.args.out.now.items ++ 10 ∷ b) (deeper l.counter count 32)
