use Rattle.std.proofs.Common.{◌∙◌, ap}
use Rattle.jsonpath_nodes.specs.update.Run.{update_each}
use Rattle.jsonpath_lib.proofs.update.PlaceUpdateLemmas.{each_there}
use Rattle.jsonpath_lib.proofs.laws.replaces_selected_location.Goals as goal

pub returns : goal.returns
returns g c = λ answer always text before after l f h printed replaced.
    c.updates_put_one_answer_in_turn.ensures answer always _ before after f h replaced.holds
    ∙ ap (λ ls. update_each answer ls before) (c.deletes_and_removes_selected_location.ensures.targets text before l replaced.path printed replaced.spelled)
    ∙ each_there c.putting_at_one_location.ensures.nowhere answer before l
