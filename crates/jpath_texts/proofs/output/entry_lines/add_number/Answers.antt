use Rattle.std.proofs.Common.{◌≡◌, sym, subst, rules}
use Rattle.std.specs.Fmt.{decimal}
use Rattle.json.specs.Json.{number}
use Rattle.json.specs.Print.{IsNumber}
use Rattle.json.specs.Tree.{HasNumbers}
use Rattle.json.specs.Value.{value_view}
use Rattle.json.specs.declared.value.Value.{Value, the_lemmas}
use Rattle.json.proofs.Printed.Decimals.{IsNumber-decimal}
use Rattle.jpath_texts.proofs.output.entry_lines.add_number.Goals as goal

pub add_value_with_members_kept-requires : goal.add_value_with_members_kept-requires
add_value_with_members_kept-requires c =
    let written : c.as_str.result.now ≡ decimal c.args.count = search rules in
    let seen : value_view (Value.Number c.as_str.result) ≡ number c.as_str.result.now = search (rules, the_lemmas) in
    subst HasNumbers (sym seen) (subst IsNumber (sym written) (IsNumber-decimal c.args.count c.ranges.count.fits))
