use Rattle.std.proofs.Common.{◌≡◌, ◌+◌, All, [], ◌∷◌, ◌++◌, take, sym, subst, arith, rules, string_bytes}
use Rattle.std.proofs.lemmas.List.{take_more, take_all}
use Rattle.std.proofs.lemmas.List.Elements.{All-push}
use Rattle.jpath_words.specs.declared.arguments.argument.Argument.{Argument}
use Rattle.jpath_words.proofs.arguments.argument.find_argument.Goals as goal

pub loop-argument-preserved : goal.loop-argument-preserved
loop-argument-preserved c =
    let xs = c.args.arguments.now in
    let i = c.loop-argument.argument-index in
    let x = c.argument-item.result in
    let other : string_bytes x.placeholder ≡ c.args.word.now → ⊥ = λ e. search (rules, e) in
    let more : take (i + 1) xs ≡ take i xs ++ x ∷ [] = search (rules, arith, take_more) in
    subst (All (λ (a : Argument). string_bytes a.placeholder ≡ c.args.word.now → ⊥)) (sym more) (All-push (λ (a : Argument). string_bytes a.placeholder ≡ c.args.word.now → ⊥) (take i xs) x c.loop-argument.invariant other)

pub returns-clause-none : goal.returns-clause-none
returns-clause-none c = λ _. subst (All (λ (a : Argument). string_bytes a.placeholder ≡ c.args.word.now → ⊥)) (take_all c.loop-argument.argument-index c.args.arguments.now c.loop-argument-test.false) c.loop-argument.invariant
