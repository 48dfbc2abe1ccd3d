use Rattle.std.proofs.Common.{rules}
use Rattle.recognisers.specs.Taking.{done, digit1}
use Rattle.recognisers.proofs.Digits.{digits_inside}
use Rattle.recognisers.proofs.Preceded.{front_fits, marked_none, marked_fails, marked_then}
use Rattle.recognisers.proofs.numbers.marked_digits.Goals as goal

pub returns-in_err-behind : goal.returns-in_err-behind
returns-in_err-behind c = search (rules, marked_none (digit1 done))

pub returns-in_err-digits : goal.returns-in_err-digits
returns-in_err-digits c = search (rules, marked_fails (digit1 done))

pub overflow_add-result : goal.overflow_add-result
overflow_add-result c = search (front_fits (digit1 done) digits_inside, c.in_ok-behind.ensures, c.in_ok-digits.was)

pub returns : goal.returns
returns c = search (rules, marked_then (digit1 done))
