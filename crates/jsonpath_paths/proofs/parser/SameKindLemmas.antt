-- Two kinds are the same where the code's `==` says so.
use Rattle.std.proofs.Common.{◌≡◌, true, sym, ◌∙◌, rules, arith}
use denote.Enum.Bare.{sameb, same_true, true_same}
use Rattle.jsonpath_paths.specs.contracts.token.tokens.Kind.{the_type}
use Rattle.jsonpath_paths.specs.declared.token.tokens.Kind.{Kind}
use Rattle.jsonpath_paths.specs.declared.token.tokens.Kind.TheVariants as k
use Rattle.jsonpath_paths.specs.token.Kinds.{same_kind}

pub same_kind_is : (a b : Kind) → same_kind a b ≡ sameb the_type a b
same_kind_is a b = grind arith

pub same_kind_true : (a b : Kind) → same_kind a b ≡ true → a ≡ b
same_kind_true a b h = same_true the_type (search rules) a b (sym (same_kind_is a b) ∙ h)

pub true_same_kind : (a b : Kind) → a ≡ b → same_kind a b ≡ true
true_same_kind a b e = same_kind_is a b ∙ true_same the_type a b e
