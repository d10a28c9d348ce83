use Rattle.std.proofs.Common.{◌≡◌, ℕ, List, map, length, replicate, Some, Bor, ap, ◌∙◌, arith}
use Rattle.jsonpath_nodes.specs.document.OfData.{value_document}
use Rattle.jsonpath_nodes.specs.place.Location.{Location}
use Rattle.jsonpath_nodes.proofs.update.TakenLemmas.{each_back}
use Rattle.jsonpath_nodes.proofs.update.at_once.set.set_at_once.Goals as goal

pub returns-clause-set : goal.returns-clause-set
returns-clause-set c =
    let new = value_document c.args.new.now in
    let now : Bor Location → Location = λ t. t.now in
    let tops : List Location = map now c.in_ok-tops.tops.items in
    let count : c.len.result ≡ length c.in_ok-tops.tops.items = omega arith in
    c.put_copies.ensures new (c.in_ok-copies.ensures ∙ ap (λ (n : ℕ). replicate n new) count)
    ∙ each_back (Some new) tops (value_document c.args.value.now) c.in_ok-tops.ensures.sorted ∙ c.in_ok-tops.ensures.same (Some new) (value_document c.args.value.now)
