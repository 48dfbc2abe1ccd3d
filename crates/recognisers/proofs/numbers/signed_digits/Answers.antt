use Rattle.std.proofs.Common.{rules}
use Rattle.recognisers.specs.Number.{signed_digits}
use Rattle.recognisers.proofs.MatchedAnswers.{or_other}
use Rattle.recognisers.proofs.numbers.signed_digits.Goals as goal

pub returns : goal.returns
unfolding signed_digits
returns c = search (rules, or_other)
