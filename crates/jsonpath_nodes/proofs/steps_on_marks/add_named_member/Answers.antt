use Rattle.std.proofs.Common.{◌≡◌, ℕ, List, [], ◌∷◌, ◌++◌, ◌+◌, map, length, sym, ap, ap₂, ◌∙◌, append-nil, length-append}
use Rattle.std.proofs.lemmas.List.{length-map}
use Rattle.jsonpath_nodes.specs.place.Mark.{shown, look_kept_from}
use Rattle.jsonpath_nodes.specs.step.Steps.{single_steps, named}
use Rattle.jsonpath_nodes.proofs.place.SightLemmas.{Sight}
use Rattle.jsonpath_nodes.proofs.place.KeptLemmas.{seen-from_each}
use Rattle.jsonpath_nodes.proofs.steps_on_marks.add_named_member.Goals as goal

pub returns : goal.returns
returns g c =
    let b = g.M.Mark.located in
    let stand = g.M.Mark.stand in
    let content = g.M.Mark.content in
    let self = c.args.mark.now in
    let f = single_steps (named c.args.name.now) in
    let old = c.args.out.now.items in
    let new = c.add_named_member.new.out.items in
    let gains : map (shown stand content) new ≡ map (shown stand content) old ++ map (look_kept_from b (stand self) (content self)) (f (content self)) = c.in_ok-add_named_member.ensures in
    let more : length new ≡ length old + length (f (content self)) =
    sym (length-map new (shown stand content)) ∙ ap length gains ∙ length-append (map (shown stand content) old) _ ∙ ap₂ (λ (m n : ℕ). m + n) (length-map old (shown stand content)) (length-map (f (content self)) (look_kept_from b (stand self) (content self))) in (
      length (f (content self)),
      more,
      λ doc ls stands.
          gains ∙ ap (λ (ss : List Sight). map (shown stand content) old ++ ss) (sym (append-nil (map (look_kept_from b (stand self) (content self)) (f (content self)))) ∙ seen-from_each b stand content doc f ls (self ∷ []) stands),
    )
