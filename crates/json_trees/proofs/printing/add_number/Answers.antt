use Rattle.std.proofs.Common.{◌≡◌, ◌∷◌, [], ◌++◌, refl, sym, ap, ◌∙◌, subst, arith}
use Rattle.json.proofs.Printed.Decimals.{IsNumber-decimal}
use Rattle.json.specs.Print.{IsNumber}
use Rattle.json.specs.Token.{number}
use Rattle.serde_json.specs.Data.{unsigned}
use Rattle.serde_json.specs.Find.{is_float}
use Rattle.serde_json.specs.Read.{number_of}
use Rattle.serde_json.specs.Written.{number_text}
use Rattle.serde_json.proofs.Numbers.{number_of-decimal}
use Rattle.json_trees.specs.AsRead.{read_or_refused}
use Rattle.json_trees.specs.Prints.{num_of}
use Rattle.json_trees.proofs.printing.add_number.Goals as goal

pub number-requires : goal.number-requires
number-requires c = let w = c.if-is_short_whole.ensures refl in subst IsNumber (sym w.2) (IsNumber-decimal w.0 (omega (arith, w.1)))

pub returns-then-is_short_whole-clause-ok : goal.returns-then-is_short_whole-clause-ok
returns-then-is_short_whole-clause-ok c =
    let s = c.args.text.now in
    let w = c.if-is_short_whole.ensures refl in
    let is : num_of (read_or_refused s (number_of s)) ≡ unsigned w.0 = ap (λ o. num_of (read_or_refused s o)) (ap number_of w.2 ∙ number_of-decimal w.0 (omega (arith, w.1))) in
    (ap is_float is, c.in_ok-number.ensures.ok ∙ ap (λ t. c.args.writer.now.tokens ++ number t ∷ []) (w.2 ∙ ap number_text (sym is)))
