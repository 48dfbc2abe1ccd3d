use Rattle.std.proofs.Common.{rules}
use Rattle.recognisers.specs.Taking.{capital, end_of_word}
use Rattle.recognisers.proofs.TakenInside.{end_of_word_inside}
use Rattle.recognisers.proofs.Preceded.{front_fits, spelled_none, spelled_fails, spelled_then}
use Rattle.recognisers.proofs.scan.caseless_word.Goals as goal

pub returns-in_err-behind : goal.returns-in_err-behind
returns-in_err-behind c = search (rules, spelled_none end_of_word capital)

pub returns-in_err-end_of_word : goal.returns-in_err-end_of_word
returns-in_err-end_of_word c = search (rules, spelled_fails end_of_word capital)

pub overflow_add-result : goal.overflow_add-result
overflow_add-result c = search (front_fits end_of_word end_of_word_inside, c.in_ok-behind.ensures, c.in_ok-end_of_word.was)

pub returns : goal.returns
returns c = search (rules, spelled_then end_of_word capital)
