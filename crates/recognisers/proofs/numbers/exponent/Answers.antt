use Rattle.std.proofs.Common.{rules}
use Rattle.recognisers.specs.Number.{signed_digits, exponent}
use Rattle.recognisers.proofs.Digits.{signed_inside}
use Rattle.recognisers.proofs.Preceded.{front_fits, literal_none, literal_fails, literal_then}
use Rattle.recognisers.proofs.numbers.exponent.Goals as goal

pub returns-in_err-behind : goal.returns-in_err-behind
unfolding exponent
returns-in_err-behind c = search (rules, literal_none signed_digits)

pub returns-in_err-signed_digits : goal.returns-in_err-signed_digits
unfolding exponent
returns-in_err-signed_digits c = search (rules, literal_fails signed_digits)

pub overflow_add-result : goal.overflow_add-result
overflow_add-result c = search (front_fits signed_digits signed_inside, c.in_ok-behind.ensures, c.in_ok-signed_digits.was)

pub returns : goal.returns
unfolding exponent
returns c = search (rules, literal_then signed_digits)
