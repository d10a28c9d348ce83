use Rattle.std.proofs.Common.{List, subst, filter}
use Rattle.jsonpath_nodes.specs.place.Location.{Location}
use Rattle.jsonpath_nodes.specs.place.Mark.{MarksStandAt}
use Rattle.jsonpath_select.specs.Meaning.{holds}
use Rattle.jsonpath_select.proofs.tagged.GroupLemmas.{places_tagged}
use Rattle.jsonpath_select.proofs.machine.machine.Machine.keep_passing_with_standing.Goals as goal

pub keep_passing_candidates-requires : goal.keep_passing_candidates-requires
keep_passing_candidates-requires g c =
    let cs = c.requires.there.0 in
    record { is = c.requires.is; there = (cs, c.in_ok-all.ensures (g.M.Mark.content c.args.self.now.root.now) cs c.requires.there.1.0) }

pub returns : goal.returns
returns g c = λ f cs is there.
    let doc = g.M.Mark.content c.args.self.now.root.now in
    let test = λ (l : Location). holds c.args.self.now.text.now doc f l in
    let kept = c.in_ok-kept.ensures f cs is (c.in_ok-all.ensures doc cs there.0) in (
      subst (λ (ks : List Location). MarksStandAt g.M.Mark.located g.M.Mark.stand g.M.Mark.content doc ks c.in_ok-kept.kept.pairs.marks.items) (places_tagged 0 (filter test cs)) kept.1.1,
      c.after_filter_or_indexes-standing.ensures.filter cs test there.1,
    )
