use Rattle.std.proofs.Common.{◌≡◌, List, length, drop}
use Rattle.jsonpath_paths.specs.tree.View.{steps_of_list}
use Rattle.jsonpath_paths.specs.declared.tree.parser_node.ParserNode.{out-ParserNode}
use Rattle.jsonpath_nodes.specs.place.Location.{Location}
use Rattle.jsonpath_select.specs.plan.Machine.{Tagged, itself, places, spread, starts}
use Rattle.jsonpath_select.specs.plan.Manner.{follow_in}
use Rattle.jsonpath_select.specs.plan.Shown.{Shows}
use Rattle.jsonpath_select.proofs.walk.follower.Follower.+walk.Given as goal

-- the steps that are left lead from where each candidate's marks are now to where all steps lead from the candidate
abbrev pub invariant-lists_after_path-loop-step : goal.invariant-lists_after_path-loop-step
invariant-lists_after_path-loop-step g l =
    (ps : List Tagged) → Shows g.M.Mark.located g.M.Mark.stand g.M.Mark.content (g.M.Mark.content l.self.root.now) ps l.candidates
    → (f : Location → List Location)
    × (l.lists ≡ length (starts (out-ParserNode l.path).absolute (places ps)))
    × Shows g.M.Mark.located g.M.Mark.stand g.M.Mark.content (g.M.Mark.content l.self.root.now) (spread f 0 (starts (out-ParserNode l.path).absolute (places ps))) l.pairs
    × ((c : Location) → follow_in l.self.sets l.self.text.now (g.M.Mark.content l.self.root.now) (steps_of_list (drop l.step-index l.step-items)) (f c) ≡ follow_in l.self.sets l.self.text.now (g.M.Mark.content l.self.root.now) (steps_of_list l.step-items) (itself c))
