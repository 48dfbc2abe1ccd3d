use Rattle.std.proofs.Common.{rules}
use Rattle.recognisers.proofs.ByteLoops.{count_few}
use Rattle.recognisers.proofs.words.few_operators.Goals as goal

pub returns : goal.returns
returns c = search (rules, count_few)
