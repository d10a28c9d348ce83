use Rattle.std.proofs.Common.{◌≡◌, ◌≤◌, List, length, take, vec_len, sym, ap, ap₂, ◌∙◌, arith}
use Rattle.jsonpath_nodes.specs.place.Location.{Location}
use Rattle.jsonpath_nodes.specs.place.SpotPlace.{location_at, held_path_location}
use Rattle.jsonpath_nodes.specs.plan.DescentPath.{location_after}
use Rattle.jsonpath_nodes.proofs.step.DescentPathLemmas.{along_more}
use Rattle.jsonpath_nodes.proofs.step.descend.descent_path.SharedPath.share_up_to.Goals as goal
use Rattle.jsonpath_nodes.specs.declared.step.descends.DownStep.{DownStep}

pub loop-self-preserved : goal.loop-self-preserved
loop-self-preserved g c =
    let t = c.next_path_to_share.new.self in
    let before = c.loop-self.self in
    let count : vec_len before.shared ≡ length t.shared.items = omega (arith, c.in_ok-next.ensures.shared, t.shared.ok.0) in
    let within : length t.shared.items ≤ length t.steps.items =
    omega (arith, c.loop-self-test.true, c.requires.within, c.in_ok-next.ensures.shared, t.shared.ok.0, ap length (c.in_ok-next.ensures.steps ∙ c.loop-self.invariant.steps), c.args.self.now.steps.ok.0) in
    let leads : held_path_location g.N.Name.bytes c.in_ok-next.next ≡ location_after g.N.Name.bytes (location_at g.N.Name.bytes t.start) (take (length t.shared.items) t.steps.items) =
    c.in_ok-next.ensures.leads
    ∙ ap₂ (λ (l : Location) (steps : List (DownStep g.row.N.Denot)). location_after g.N.Name.bytes l (take (vec_len before.shared) steps)) (sym c.in_ok-next.ensures.start) (sym c.in_ok-next.ensures.steps)
    ∙ ap (λ n. location_after g.N.Name.bytes (location_at g.N.Name.bytes t.start) (take n t.steps.items)) count in
    record {
      start = c.in_ok-next.ensures.start ∙ c.loop-self.invariant.start;
      steps = c.in_ok-next.ensures.steps ∙ c.loop-self.invariant.steps;
      descent = rw c.in_ok-push.ensures.items (along_more g.N.Name.bytes (location_at g.N.Name.bytes t.start) t.steps.items t.shared.items c.in_ok-next.next c.in_ok-next.ensures.descent within leads);
    }
