use Rattle.jsonpath_select.proofs.compile.RefusalLemmas.{refused_path}
use Rattle.jsonpath_select.proofs.compile.compile_path.compile_path.Goals as goal

pub returns-in-Err-clause-refused : goal.returns-in-Err-clause-refused
returns-in-Err-clause-refused c = refused_path _ _ _ c.in-Err.ensures.only c.in-Err.ensures.refused c.path_error.ensures
