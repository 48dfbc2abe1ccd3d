use Rattle.script.proofs.PartWalk.{Cutting}
use Rattle.script.proofs.parts.write_parts.Given as goal

abbrev pub invariant-loop-token : goal.invariant-loop-token
invariant-loop-token l = Cutting l.script l.initial.places l.places l.at l.from l.token-iterator
