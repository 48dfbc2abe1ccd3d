use Rattle.tight.proofs.TightWalk.{Writes}
use Rattle.tight.proofs.text.write_tight.Given as goal

abbrev pub invariant-loop-token : goal.invariant-loop-token
invariant-loop-token l = Writes l.fn.search.settings l.fn.search.text.now l.initial.output l.output l.at l.spacing l.token-iterator
