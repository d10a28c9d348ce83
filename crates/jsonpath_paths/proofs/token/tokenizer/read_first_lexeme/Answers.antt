use Rattle.jsonpath_paths.proofs.token.FrontLemmas.{first_ends, first_none}
use Rattle.jsonpath_paths.proofs.token.tokenizer.read_first_lexeme.Goals as goal

pub returns-in-Ok : goal.returns-in-Ok
returns-in-Ok c = first_ends c.args.reader.now c.next_char.new.self c.read_rest_of_lexeme.new.reader c.in-Ok.c c.read_rest_of_lexeme.result c.in-Ok.ensures.char.0 c.in-Ok.ensures.char.1 c.read_rest_of_lexeme.ensures

pub returns-in-Err : goal.returns-in-Err
returns-in-Err c = first_none c.args.reader.now c.in-Err.ensures.char.0
