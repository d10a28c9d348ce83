use Rattle.jpath_files.proofs.RefusalLemmas.{words_fit}
use Rattle.jpath_files.proofs.refused_document.wanted_behind.Goals as goal

pub returns : goal.returns
returns c =
    words_fit c.args.bytes.now c.args.at c.start-state.result c.find_end.new.state c.find_end.result c.wanted_at.result c.requires.wrong c.requires.within
    c.start-state.ensures.begins c.find_end.ensures.found c.find_end.ensures.within c.wanted_at.ensures
