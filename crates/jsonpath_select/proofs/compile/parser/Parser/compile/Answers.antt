use Rattle.jsonpath_select.proofs.compile.RefusalLemmas.{refused_fault}
use Rattle.jsonpath_select.proofs.compile.parser.Parser.compile.Goals as goal

pub returns-in-Err-clause-refused : goal.returns-in-Err-clause-refused
returns-in-Err-clause-refused c = refused_fault _ _ _ c.in-Err.ensures.only c.in-Err.ensures.refused c.fault_of_token_error.ensures
