use Rattle.recognisers.proofs.MatchedAnswers.{other_break, other_char}
use Rattle.recognisers.proofs.words.get_any_other_char.Goals as goal

pub returns-then-is_line_break : goal.returns-then-is_line_break
returns-then-is_line_break c = search other_break

pub returns : goal.returns
returns c = search other_char
