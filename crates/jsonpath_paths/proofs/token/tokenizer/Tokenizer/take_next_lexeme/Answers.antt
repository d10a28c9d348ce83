use Rattle.jsonpath_paths.proofs.token.ReadingLemmas.{lexeme_more, lexeme_shorter, next_end}
use Rattle.jsonpath_paths.proofs.token.tokenizer.Tokenizer.take_next_lexeme.Goals as goal

pub returns-clause-more : goal.returns-clause-more
returns-clause-more c = lexeme_more c.args.self.now c.take_lexeme_cutting_no_character.new.self c.take_lexeme_cutting_no_character.result c.take_lexeme_cutting_no_character.ensures.before c.take_lexeme_cutting_no_character.ensures.behind c.take_lexeme_cutting_no_character.ensures.within c.take_lexeme_cutting_no_character.ensures.value

pub returns-clause-shorter : goal.returns-clause-shorter
returns-clause-shorter c = lexeme_shorter c.args.self.now c.take_lexeme_cutting_no_character.new.self c.take_lexeme_cutting_no_character.result c.take_lexeme_cutting_no_character.ensures.before c.take_lexeme_cutting_no_character.ensures.value

pub returns-clause-end : goal.returns-clause-end
returns-clause-end c = next_end c.args.self.now c.take_lexeme_cutting_no_character.new.self c.take_lexeme_cutting_no_character.result c.take_lexeme_cutting_no_character.ensures.value
