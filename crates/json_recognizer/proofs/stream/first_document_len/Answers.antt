use Rattle.std.proofs.Common.{[], length, sym, ap, ◌∙◌}
use Rattle.std.proofs.lemmas.List.{append-nil}
use Rattle.json_recognizer.specs.Stream.{found_at, end_or}
use Rattle.json_recognizer.proofs.BufferLemmas.{end_at_end}
use Rattle.json_recognizer.proofs.stream.first_document_len.Goals as goal

pub returns-in-Ends : goal.returns-in-Ends
returns-in-Ends c =
    let text = c.args.text.now in
    sym (ap (end_or (length text)) (sym (c.start.ensures.begins text) ∙ ap (found_at c.start.result) (sym (append-nil text)) ∙ c.in-Ends.ensures.found []))

pub returns-in-Refused : goal.returns-in-Refused
returns-in-Refused c =
    let text = c.args.text.now in
    sym (ap (end_or (length text)) (sym (c.start.ensures.begins text) ∙ ap (found_at c.start.result) (sym (append-nil text)) ∙ c.in-Refused.ensures.found []))

pub returns-in-GoesOn : goal.returns-in-GoesOn
returns-in-GoesOn c =
    let text = c.args.text.now in
    sym (ap (end_or (length text)) (sym (c.start.ensures.begins text) ∙ ap (found_at c.start.result) (sym (append-nil text)) ∙ c.in-GoesOn.ensures.found []) ∙ end_at_end c.find_end.new.state (length text))
