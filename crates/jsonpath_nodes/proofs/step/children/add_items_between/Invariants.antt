use Rattle.std.proofs.Common.{◌≡◌, ◌++◌, ◌-◌, ◌≤◌, ◌<◌, ◌%◌, map}
use Rattle.std.specs.Prelude.{filter}
use Rattle.jsonpath_nodes.specs.document.Document.{array}
use Rattle.jsonpath_nodes.specs.place.Mark.{shown, look_kept_from}
use Rattle.jsonpath_nodes.specs.step.Steps.{is_in_range, count_up, length_of}
use Rattle.jsonpath_nodes.proofs.step.BetweenLemmas.{shown as shown_at}
use Rattle.jsonpath_nodes.proofs.step.children.add_items_between.Given as goal

abbrev pub invariant-loop-i : goal.invariant-loop-i
invariant-loop-i g l =
    let d = array (g.M.Tree.Tree.items l.items) in
    let look = look_kept_from g.M.Descends.located (g.M.Descends.items_stand l.here) d in
    let len = length_of d in
    record {
      found : map (shown g.M.Descends.stand g.M.Descends.content) l.out.items ++ shown_at look (filter (is_in_range l.first l.end l.step) (count_up l.i (len - l.i)))
          ≡ map (shown g.M.Descends.stand g.M.Descends.content) l.initial.out.items ++ shown_at look (filter (is_in_range l.first l.end l.step) (count_up 0 len));
      low : l.i < l.end → l.first ≤ l.i;
      on : l.i < l.end → (l.i - l.first) % l.step ≡ 0;
    }

abbrev pub decreases-loop-i : goal.decreases-loop-i
decreases-loop-i g l = l.end - l.i
