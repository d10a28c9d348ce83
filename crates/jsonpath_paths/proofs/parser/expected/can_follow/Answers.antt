use Rattle.std.proofs.Common.{◌≡◌, ◌++◌, ◌∷◌, [], rules, sym, subst, ap, ◌∙◌}
use Rattle.std.specs.Prelude.{option_map, unwrap_or, length, ◌==◌}
use Rattle.jsonpath_paths.specs.text.Spans.{AreSpans}
use Rattle.jsonpath_paths.specs.plan.Wants.{stop, whole_wants}
use Rattle.jsonpath_paths.proofs.parser.ExpectedFrontLemmas.{behind_text, spans_upon, all_taken, taken_next}
use Rattle.jsonpath_paths.proofs.parser.expected.can_follow.Goals as goal

pub tokens_left-requires : goal.tokens_left-requires
tokens_left-requires c =
    let text = c.args.text.now in
    let word = c.args.word.now in
    let there = c.args.front.now ++ behind_text text word c.args.kind ∷ [] in
    let e : c.as_str.result.now ≡ text ++ word = search rules in
    let f : c.as_slice.result.now ≡ there = search rules in
    subst (AreSpans c.as_str.result.now) (sym f) (subst (λ x. AreSpans x there) (sym e) (spans_upon text word c.args.front.now c.args.kind c.utf8.word c.requires))

pub returns : goal.returns
returns c = λ us ran.
    let text = c.args.text.now in
    let word = c.args.word.now in
    let there = c.args.front.now ++ behind_text text word c.args.kind ∷ [] in
    let e : c.as_str.result.now ≡ text ++ word = search rules in
    let f : c.as_slice.result.now ≡ there = search rules in
    let left : c.in_ok-left.left ≡ option_map length (stop c.as_str.result.now whole_wants c.as_slice.result.now) = search rules in
    let value : c.unwrap_or.result ≡ unwrap_or c.in_ok-left.left 0 = search rules in
    ap (λ n. n == 0) value ∙ (ap all_taken left ∙ (ap (λ x. all_taken (option_map length (stop x whole_wants c.as_slice.result.now))) e
    ∙ (ap (λ ts. all_taken (option_map length (stop (text ++ word) whole_wants ts))) f ∙ taken_next text word c.args.front.now c.args.kind us c.requires ran)))
