use Rattle.std.proofs.Common.{◌≡◌, ◌++◌, rules, refl, ap, sym, ◌∙◌, subst, append_assoc, List, ℕ, string_bytes, false}
use Rattle.jsonpath_paths.specs.text.TextPlace.{ahead}
use Rattle.jsonpath_paths.specs.token.Kinds.{HasNone}
use Rattle.jpath_words.specs.Arguments.{Fills, IsFilled, filled, as_typed, start_of}
use Rattle.jpath_words.proofs.arguments.filled_path.filled_path.Goals as goal

pub loop-init : goal.loop-init
loop-init c = (c.utf8.path, λ further is. subst (λ (bs : List ℕ). IsFilled c.args.arguments.now c.args.path.now (bs ++ further)) (sym c.new-made.ensures.bytes) is)

pub end_of_tokens-requires-text-text : goal.end_of_tokens-requires-text-text
end_of_tokens-requires-text-text c κs = c.loop.invariant.0

pub loop-preserved : goal.loop-preserved
loop-preserved c = (
  c.split_text-in-loop.ensures.text,
  λ further is.
      let arguments = c.args.arguments.now in
      let tokens : List ℕ = c.split_text.result.0.now in
      let between : List ℕ = c.split_text-in-loop.result.0.now in
      let behind : List ℕ = c.split_text-in-loop.result.1.now in
      let made : List ℕ = string_bytes c.loop.made in
      let put : List ℕ = string_bytes c.in_ok-filled.filled in
      let cut : c.loop.rest.now ≡ tokens ++ (between ++ behind) = c.split_text.ensures.whole ∙ ap (λ (bs : List ℕ). tokens ++ bs) c.split_text-in-loop.ensures.whole in
      let fills : Fills arguments false (start_of tokens) (start_of put) = subst (λ (bs : List ℕ). Fills arguments false (start_of tokens) (start_of bs)) c.as_str.ensures.value (c.keeps_tokens.ensures (search rules)) in
      let none : HasNone (ahead (start_of (between ++ behind))) = subst (λ (bs : List ℕ). HasNone (ahead (start_of bs))) c.split_text-in-loop.ensures.whole (c.begins_with_token.ensures (search rules)) in
      let pushed : string_bytes c.push_str-in-loop.new.self ≡ (made ++ put) ++ between = c.in_ok-push_str-2.ensures.bytes ∙ ap (λ (bs : List ℕ). bs ++ between) (c.in_ok-push_str.ensures.bytes ∙ ap (λ (bs : List ℕ). made ++ bs) c.as_str-in-loop.ensures.value) in
      let joined : made ++ (put ++ (between ++ further)) ≡ string_bytes c.push_str-in-loop.new.self ++ further =
      sym (append_assoc made put (between ++ further)) ∙ (sym (append_assoc (made ++ put) between further) ∙ ap (λ (bs : List ℕ). bs ++ further) (sym pushed)) in
      subst (λ (bs : List ℕ). IsFilled arguments c.args.path.now bs) joined
      (c.loop.invariant.1 (put ++ (between ++ further)) (filled tokens between behind put further cut refl fills none is)),
)

pub push_str-requires-2-text-string : goal.push_str-requires-2-text-string
push_str-requires-2-text-string c κs = c.loop.invariant.0

pub returns : goal.returns
returns c = subst (λ (bs : List ℕ). IsFilled c.args.arguments.now c.args.path.now bs) (sym c.in_ok-push_str-3.ensures.bytes) (c.loop.invariant.1 c.loop.rest.now (as_typed refl))
