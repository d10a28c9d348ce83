use Rattle.std.proofs.Common.{◌≡◌, sym, ◌∙◌, rules}
use Rattle.jpath_core.specs.Printable.{printable}
use Rattle.jpath_core.proofs.output.places.add_printable_text.Goals as goal

pub returns : goal.returns
returns c =
    let same : printable c.args.text.now ≡ c.args.text.now = (c.escapes_hold.ensures c.args.text.now c.utf8.text).1 (sym c.has_control.ensures ∙ c.if-has_control.false) in
    rw same (search (rules, c.extend_from_slice-2.ensures.items, c.as_bytes-2.ensures.value))
