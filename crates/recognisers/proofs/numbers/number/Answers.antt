use Rattle.std.proofs.Common.{rules}
use Rattle.recognisers.specs.Number.{unsigned}
use Rattle.recognisers.proofs.Digits.{unsigned_inside}
use Rattle.recognisers.proofs.Preceded.{front_fits}
use Rattle.recognisers.proofs.Unsigned.{negative_fails, negative_then, positive}
use Rattle.recognisers.proofs.numbers.number.Goals as goal

pub returns-in_err-unsigned_number-in-Some : goal.returns-in_err-unsigned_number-in-Some
returns-in_err-unsigned_number-in-Some c = search (rules, negative_fails)

pub overflow_add-result : goal.overflow_add-result
overflow_add-result c = search (front_fits unsigned unsigned_inside, c.in-Some.ensures, c.in_ok-unsigned_number-in-Some.was)

pub returns-in_ok-unsigned_number-in-Some : goal.returns-in_ok-unsigned_number-in-Some
returns-in_ok-unsigned_number-in-Some c = search (rules, negative_then)

pub returns-in-None : goal.returns-in-None
returns-in-None c = search (rules, positive)
