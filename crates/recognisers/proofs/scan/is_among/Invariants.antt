use Rattle.recognisers.proofs.ByteLoops.{AmongAt}
use Rattle.recognisers.proofs.scan.is_among.Given as goal

abbrev pub invariant-loop-e : goal.invariant-loop-e
invariant-loop-e l = AmongAt l.bytes l.b l.e-index
