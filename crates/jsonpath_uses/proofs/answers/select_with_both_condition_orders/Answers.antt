use Rattle.std.proofs.Common.{codes, refl}
use lib.Utf8.{encode}
use Rattle.jsonpath_paths.specs.declared.token.tokens.FilterToken.TheVariants as op
use Rattle.jsonpath_uses.proofs.answers.select_with_both_condition_orders.Goals as goal

pub returns : goal.returns
unfolding encode
returns c =
    c.swapped_condition_texts_select_alike.ensures.values op.And (codes "@.isbn") (codes "@.price < 1000") _ _ _ refl (codes "@.isbn", (refl, refl)) (codes "@.price < 1000", (refl, refl))
    c.in_ok-compile_path.ensures.spelled c.in_ok-compile_path-2.ensures.spelled c.in_ok-named_first.ensures.ok c.in_ok-cheap_first.ensures.ok
