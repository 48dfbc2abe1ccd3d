use Rattle.std.proofs.Common.{rules}
use Rattle.recognisers.proofs.Unclosed.{lone_from}
use Rattle.recognisers.proofs.learning.lone_return.Goals as goal

pub returns-in-Some : goal.returns-in-Some
returns-in-Some c = search (rules, lone_from)
