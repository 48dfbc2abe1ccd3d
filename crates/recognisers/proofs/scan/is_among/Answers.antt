use Rattle.recognisers.proofs.ByteLoops.{among_here, among_next, among_none}
use Rattle.recognisers.proofs.scan.is_among.Goals as goal

pub returns-then-b-e : goal.returns-then-b-e
returns-then-b-e c = search among_here

pub loop-e-preserved : goal.loop-e-preserved
loop-e-preserved c = search among_next

pub returns : goal.returns
returns c = search among_none
