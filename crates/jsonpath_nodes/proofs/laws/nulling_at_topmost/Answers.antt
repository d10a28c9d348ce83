use Rattle.jsonpath_nodes.proofs.update.TopLemmas.{at_topmost}
use Rattle.jsonpath_nodes.proofs.update.ApartLemmas.{at_nulled}
use Rattle.jsonpath_nodes.proofs.update.TopmostLemmas.{each_null}
use Rattle.jsonpath_nodes.proofs.laws.nulling_at_topmost.Goals as goal

pub returns-clause-topmost : goal.returns-clause-topmost
returns-clause-topmost c = λ doc e ls s l h there. at_topmost s l ls doc e h there

pub returns-clause-nothing_else : goal.returns-clause-nothing_else
returns-clause-nothing_else c = λ doc ls m h. at_nulled m ls doc h

pub returns-clause-in_turn : goal.returns-clause-in_turn
returns-clause-in_turn c = λ doc ls. each_null ls doc
