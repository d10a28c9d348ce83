use Rattle.std.proofs.Common.{sym, subst, ap, ◌∙◌, chars}
use Rattle.jsonpath_paths.specs.token.Kinds.{HasNone, is_name}
use Rattle.jsonpath_paths.specs.text.TextPlace.{Place, ahead}
use Rattle.jsonpath_paths.specs.token.Tokens.{TakesToken}
use Rattle.jsonpath_select.proofs.compile.NamedLemmas.{by_span, by_other, by_none}
use Rattle.jsonpath_select.proofs.compile.token_list_fit.is_name_at.Goals as goal

pub returns-in-Some : goal.returns-in-Some
returns-in-Some c =
    by_span c.slice_at-part.result.now c.in-Ok.token c.next_token.new.self c.in-Some.found c.slice_at-part.utf8
    (subst (λ (p : Place). TakesToken p c.in-Ok.token c.next_token.new.self) c.new.ensures c.in-Ok.ensures.found) (sym c.name_span.ensures ∙ c.in-Some.is)
    ∙ ap (λ s. is_name (chars s)) c.slice_at-part.ensures

pub returns-in-None : goal.returns-in-None
returns-in-None c =
    sym (by_other c.slice_at-part.result.now c.in-Ok.token c.next_token.new.self
    (subst (λ (p : Place). TakesToken p c.in-Ok.token c.next_token.new.self) c.new.ensures c.in-Ok.ensures.found) (sym c.name_span.ensures ∙ c.in-None.is))
    ∙ ap (λ s. is_name (chars s)) c.slice_at-part.ensures

pub returns-in-Err : goal.returns-in-Err
returns-in-Err c = sym (by_none c.slice_at-part.result.now (subst (λ (p : Place). HasNone (ahead p)) c.new.ensures c.in-Err.ensures.none.0)) ∙ ap (λ s. is_name (chars s)) c.slice_at-part.ensures
