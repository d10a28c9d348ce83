use Rattle.std.proofs.Common.{[], refl}
use Rattle.std.proofs.lemmas.List.{take_rest}
use Rattle.json_recognizer.specs.declared.machine.TextPart.TheVariants.{InChars}
use Rattle.json_recognizer.proofs.Leads.{at_end, chars_and_more}
use Rattle.json_recognizer.proofs.text.count_fronts.Goals as goal

pub loop-rest-init : goal.loop-rest-init
loop-rest-init c = ([], at_end InChars, refl)

pub loop-rest-preserved : goal.loop-rest-preserved
loop-rest-preserved c =
    let l = c.loop-rest in
    let len = c.front_len-len in
    chars_and_more c.args.bytes.now l.invariant.0 l.rest.now _ len.result (take_rest l.rest.now len.result) l.invariant.2 l.invariant.1 len.ensures.chars
