use Rattle.std.proofs.Common.{◌≡◌, ◌++◌, ◌∷◌, [], List, ℕ, ap, sym, ◌∙◌, map-id, rules, string_bytes}
use Rattle.std.proofs.lemmas.Iterator.{YieldsList-from_chars}
use Rattle.std.proofs.lemmas.Iterator.Consumers.{YieldsList-end}
use Rattle.std.specs.Str.{chars, encode_utf8_all}
use Rattle.jpath_words.specs.Arguments.{guarded_char}
use Rattle.jpath_words.proofs.ArgumentLemmas.{inside, guarded_more, guarded_closed, quoted_chars, quoted_whole, quoted_means}
use Rattle.jpath_words.proofs.arguments.quoted.quoted_text.Goals as goal

pub loop-c-preserved : goal.loop-c-preserved
loop-c-preserved c = c.in_ok-add_guarded_char.ensures ∙ (ap (λ bs. bs ++ encode_utf8_all (guarded_char c.in-Some.c)) c.loop-c.invariant ∙ guarded_more c.loop-c.yielded c.in-Some.c)

pub returns-clause-whole : goal.returns-clause-whole
returns-clause-whole c =
    let end = YieldsList-end (YieldsList-from_chars c.args.text.now c.utf8.text cc) c.loop-c.yielded _ c.loop-c.yielded_by _ _ c.in-None.is c.next.ensures.steps in
    let text : List ℕ = c.args.text.now in
    let quoted : List ℕ = string_bytes c.push.new.self in
    let all : c.loop-c.yielded ≡ chars text = sym (map-id c.loop-c.yielded) ∙ end.0 in
    let pushed : quoted ≡ string_bytes c.loop-c.quoted ++ 39 ∷ [] = search rules in
    let bytes : quoted ≡ encode_utf8_all (39 ∷ inside (chars text)) =
    pushed ∙ (ap (λ (bs : List ℕ). bs ++ 39 ∷ []) c.loop-c.invariant ∙ (guarded_closed c.loop-c.yielded ∙ ap (λ cs. encode_utf8_all (39 ∷ inside cs)) all)) in
    quoted_whole text quoted (quoted_chars text quoted c.utf8.text bytes)

pub returns-clause-means : goal.returns-clause-means
returns-clause-means c =
    let end = YieldsList-end (YieldsList-from_chars c.args.text.now c.utf8.text cc) c.loop-c.yielded _ c.loop-c.yielded_by _ _ c.in-None.is c.next.ensures.steps in
    let text : List ℕ = c.args.text.now in
    let quoted : List ℕ = string_bytes c.push.new.self in
    let all : c.loop-c.yielded ≡ chars text = sym (map-id c.loop-c.yielded) ∙ end.0 in
    let pushed : quoted ≡ string_bytes c.loop-c.quoted ++ 39 ∷ [] = search rules in
    let bytes : quoted ≡ encode_utf8_all (39 ∷ inside (chars text)) =
    pushed ∙ (ap (λ (bs : List ℕ). bs ++ 39 ∷ []) c.loop-c.invariant ∙ (guarded_closed c.loop-c.yielded ∙ ap (λ cs. encode_utf8_all (39 ∷ inside cs)) all)) in
    quoted_means text quoted (quoted_chars text quoted c.utf8.text bytes)
