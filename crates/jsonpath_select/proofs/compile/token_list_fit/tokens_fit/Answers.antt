use Rattle.std.proofs.Common.{List, sym, ap, ◌∙◌}
use Rattle.jsonpath_paths.specs.declared.token.tokens.ParseToken.{ParseToken}
use Rattle.jsonpath_select.specs.plan.Fits.{is_token_list_of_path}
use Rattle.jsonpath_select.proofs.compile.SoundLemmas.{whole_list}
use Rattle.jsonpath_select.proofs.compile.CompleteLemmas.{whole_fits}
use Rattle.jsonpath_select.proofs.compile.token_list_fit.tokens_fit.Goals as goal

pub returns-clause-fits : goal.returns-clause-fits
returns-clause-fits c = (
  λ h. let w = whole_list c.args.tokens.now (sym c.in_ok-fit.ensures ∙ h) in (w.0, record { path = w.1; list = w.2; names = sym c.has_names_of_tokens.ensures ∙ c.if-not-has_names_of_tokens.false }),
  λ p. c.in_ok-fit.ensures ∙ ap (λ (ts : List ParseToken). is_token_list_of_path ts) (sym p.1.list) ∙ whole_fits p.0 p.1.path,
)
