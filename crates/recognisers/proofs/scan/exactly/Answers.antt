use Rattle.std.proofs.Common.{rules}
use Rattle.recognisers.proofs.Preceded.{literal_alone}
use Rattle.recognisers.proofs.scan.exactly.Goals as goal

pub returns : goal.returns
returns c = search (rules, literal_alone)
