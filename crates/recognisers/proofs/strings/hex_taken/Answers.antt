use Rattle.std.proofs.Common.{rules}
use Rattle.recognisers.specs.Strings.{hex_taken}
use Rattle.recognisers.proofs.MatchedAnswers.{or_other}
use Rattle.recognisers.proofs.strings.hex_taken.Goals as goal

pub returns : goal.returns
unfolding hex_taken
returns c = search (rules, or_other)
