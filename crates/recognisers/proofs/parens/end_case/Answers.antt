use Rattle.std.proofs.Common.{rules}
use Rattle.recognisers.specs.Text.{bytes}
use Rattle.recognisers.specs.Taking.{capital, spelled, blanks, end_of_word}
use Rattle.recognisers.proofs.Blanks.{blanks_inside, word_inside}
use Rattle.recognisers.proofs.Preceded.{front_fits, spelled_none, spelled_fails, spelled_then}
use Rattle.recognisers.proofs.parens.end_case.Goals as goal

pub returns-in_err-behind : goal.returns-in_err-behind
returns-in_err-behind c = search (rules, spelled_none (blanks (spelled capital (bytes "CASE") end_of_word)) capital)

pub returns-in_err-blanks_then_word : goal.returns-in_err-blanks_then_word
returns-in_err-blanks_then_word c = search (rules, spelled_fails (blanks (spelled capital (bytes "CASE") end_of_word)) capital)

pub overflow_add-result : goal.overflow_add-result
overflow_add-result c = search (front_fits (blanks (spelled capital (bytes "CASE") end_of_word)) (blanks_inside _ (word_inside (bytes "CASE"))), c.in_ok-behind.ensures, c.in_ok-blanks_then_word.was)

pub returns : goal.returns
returns c = search (rules, spelled_then (blanks (spelled capital (bytes "CASE") end_of_word)) capital)
