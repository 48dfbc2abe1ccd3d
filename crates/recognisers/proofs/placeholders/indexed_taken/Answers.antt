use Rattle.std.proofs.Common.{rules}
use Rattle.recognisers.specs.Placeholder.{indexed_taken}
use Rattle.recognisers.proofs.MatchedAnswers.{or_other}
use Rattle.recognisers.proofs.placeholders.indexed_taken.Goals as goal

pub returns : goal.returns
unfolding indexed_taken
returns c = search (rules, or_other)
