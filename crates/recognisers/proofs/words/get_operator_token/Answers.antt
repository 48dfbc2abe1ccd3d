use Rattle.std.proofs.Common.{rules, tests}
use Rattle.recognisers.specs.Words.{get_operator_token}
use Rattle.recognisers.proofs.FirstBytes.{no_operator_text, no_operator, one_byte, lone_operator}
use Rattle.recognisers.proofs.words.get_operator_token.Goals as goal

pub returns-in_err-first : goal.returns-in_err-first
returns-in_err-first c = search (rules, no_operator_text)

pub returns-then-not-is_operator : goal.returns-then-not-is_operator
returns-then-not-is_operator c = search (rules, tests, no_operator)

pub returns-in_err-get : goal.returns-in_err-get
returns-in_err-get c = search (rules, one_byte)

pub returns-then-not-is_operator-2 : goal.returns-then-not-is_operator-2
returns-then-not-is_operator-2 c = lone_operator _ c.in_ok-get.field-0.now (search rules) (search rules) (search (rules, tests))

pub returns : goal.returns
unfolding get_operator_token
returns c = cc
