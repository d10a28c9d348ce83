use Rattle.std.proofs.Common.{◌∙◌, ap, cond, Some, None}
use Rattle.jsonpath_paths.proofs.text.QuoteLemmas.{quoted_ends}
use Rattle.jsonpath_paths.proofs.token.tokenizer.read_rest_of_quoted_text.Goals as goal

pub returns-then-read_past_closing_quote : goal.returns-then-read_past_closing_quote
returns-then-read_past_closing_quote c =
    quoted_ends c.args.quote c.args.kind c.args.reader.now c.read_past_closing_quote.new.reader c.read_past_closing_quote.result c.read_past_closing_quote.ensures ∙ ap (λ b. cond b (Some (c.args.kind, c.read_past_closing_quote.new.reader)) None) c.if-read_past_closing_quote.true

pub returns-else-read_past_closing_quote : goal.returns-else-read_past_closing_quote
returns-else-read_past_closing_quote c =
    quoted_ends c.args.quote c.args.kind c.args.reader.now c.read_past_closing_quote.new.reader c.read_past_closing_quote.result c.read_past_closing_quote.ensures ∙ ap (λ b. cond b (Some (c.args.kind, c.read_past_closing_quote.new.reader)) None) c.if-read_past_closing_quote.false
