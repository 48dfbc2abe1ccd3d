use Rattle.tight.proofs.TightWalk.{Measured}
use Rattle.tight.proofs.text.tight_length.Given as goal

abbrev pub invariant-loop-token : goal.invariant-loop-token
invariant-loop-token l = Measured l.fn.search.settings l.fn.search.text.now l.count l.spacing l.token-iterator
