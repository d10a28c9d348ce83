use Rattle.std.proofs.Common.{sym, ap, subst}
use Rattle.jsonpath_paths.specs.plan.NextToken.{token_of}
use Rattle.jsonpath_paths.specs.token.Tokens.{TakesToken}
use Rattle.jsonpath_paths.proofs.token.TokenizedLemmas.{token_taken, none_taken, token_within}
use Rattle.jsonpath_paths.proofs.token.tokenizer.Tokenizer.next_token.Goals as goal

pub returns-in-Ok-clause-found : goal.returns-in-Ok-clause-found
returns-in-Ok-clause-found c =
    let from = c.args.self.now in
    let to = c.take_next_lexeme.new.self in
    subst (λ t. TakesToken from t to) (sym c.token_at.ensures) (token_taken from to _ (ap token_of c.in-Ok.ensures.value))

pub returns-in-Err-clause-none : goal.returns-in-Err-clause-none
returns-in-Err-clause-none c = none_taken c.args.self.now c.take_next_lexeme.new.self _ (ap token_of c.in-Err.ensures.value)

pub returns-in-Ok-clause-span : goal.returns-in-Ok-clause-span
returns-in-Ok-clause-span c = token_within c.take_next_lexeme.new.self.text c.in-Ok.lexeme.kind c.in-Ok.lexeme.span c.token_at.result c.token_at.ensures c.in-Ok.ensures.more.1
