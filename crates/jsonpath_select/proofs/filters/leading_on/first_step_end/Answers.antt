use Rattle.std.proofs.lemmas.List.{take_rest}
use Rattle.jsonpath_select.proofs.filters.NextFilterLemmas.{filter_at_first, plain_at_first}
use Rattle.jsonpath_select.proofs.filters.leading_on.first_step_end.Goals as goal

pub returns-in-Enter-clause-first : goal.returns-in-Enter-clause-first
returns-in-Enter-clause-first c = λ ss codes. (filter_at_first c.args.left.now _ _ c.in-Enter.leaves c.in-Enter.deep c.condition_end.result ss c.requires c.in-Enter.is (take_rest c.args.left.now 1) codes c.condition_end.ensures.behind).0

pub returns-in-Enter-clause-behind : goal.returns-in-Enter-clause-behind
returns-in-Enter-clause-behind c = λ ss codes. (filter_at_first c.args.left.now _ _ c.in-Enter.leaves c.in-Enter.deep c.condition_end.result ss c.requires c.in-Enter.is (take_rest c.args.left.now 1) codes c.condition_end.ensures.behind).1

pub returns-in_default-clause-first : goal.returns-in_default-clause-first
returns-in_default-clause-first c = λ ss codes. (plain_at_first c.args.left.now _ ss c.requires c.in_default.not-Enter codes).0

pub returns-in_default-clause-behind : goal.returns-in_default-clause-behind
returns-in_default-clause-behind c = λ ss codes. (plain_at_first c.args.left.now _ ss c.requires c.in_default.not-Enter codes).1
