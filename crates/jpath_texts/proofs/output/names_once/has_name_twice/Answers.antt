use Rattle.std.proofs.Common.{◌≡◌, ◌+◌, [], ◌∷◌, ◌++◌, take, false, sym, ap, subst, ◌∙◌, arith}
use Rattle.std.specs.List.{list_any}
use Rattle.std.specs.Str.{bytes_eq}
use Rattle.json.specs.Json.{no_members}
use Rattle.json.specs.Value.{value_view, members_view}
use Rattle.std.proofs.lemmas.List.{take_more}
use Rattle.jpath_texts.specs.NamesOnce.{each_name_once, put_member}
use Rattle.jpath_texts.proofs.OnceLemmas.{one_name, put_more, put_new}
use Rattle.jpath_texts.proofs.output.names_once.has_name_twice.Goals as goal

pub loop-at-preserved : goal.loop-at-preserved
loop-at-preserved c =
    let xs = c.args.members.now in
    let i = c.loop-at.at in
    let x = c.index-members-at.result in
    let here : take (i + 1) xs ≡ take i xs ++ x ∷ [] = take_more xs i x c.loop-at-test.true ∙ ap (λ y. take i xs ++ y ∷ []) (sym c.index-members-at.is) in
    let new : list_any (λ m. bytes_eq x.0.now m.0.now) (take i xs) ≡ false = sym c.is_name_among.ensures ∙ c.if-is_name_among.false in
    subst (λ ys. each_name_once (members_view ys) ≡ members_view ys) (sym here)
    (put_more no_members (take i xs) x ∙ ap (put_member x.0.now (value_view x.1)) c.loop-at.invariant ∙ put_new (take i xs) x new)

pub returns-then-members-lt2 : goal.returns-then-members-lt2
returns-then-members-lt2 c none = one_name c.args.members.now (omega (arith, c.if-members-lt2.true))
