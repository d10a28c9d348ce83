use Rattle.std.proofs.Common.{◌≡◌, ◌++◌, ap, ◌∙◌}
use Rattle.json.specs.Print.{print}
use Rattle.jpath_texts.proofs.LineLemmas.{on_err, none_written}
use Rattle.jpath_texts.proofs.output.value_text.write_compact_value.Goals as goal

pub returns-clause-err : goal.returns-clause-err
returns-clause-err c =
    let writer = c.value-written.new.self in
    let before : writer.before ≡ c.args.out.now.items = c.value-written.ensures.before ∙ c.new-writer.ensures.before ∙ ap (λ v. v.items) c.replace.ensures.value in
    on_err c.value-written.result
    (λ (e : writer.tokens ≡ c.new-writer.result.tokens).
    c.into_inner.ensures.items ∙ ap (λ b. b ++ print writer.tokens) before ∙ none_written c.args.out.now.items writer.tokens (e ∙ c.new-writer.ensures.tokens))
    c.value-written.ensures.err
