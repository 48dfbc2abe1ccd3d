use Rattle.std.proofs.Common.{rules}
use Rattle.recognisers.proofs.MatchedAnswers.{or_other}
use Rattle.recognisers.proofs.numbers.significand.Goals as goal

pub returns : goal.returns
returns c = search (rules, or_other)
