use Prim.Native.Nat.{◌-◌}
use lib.ListN.{length}
use Rattle.recognisers.proofs.EscapedQuotes.{PairsAt}
use Rattle.recognisers.proofs.escaped_quotes.pairs_passed.Given as goal

abbrev pub invariant-loop-i : goal.invariant-loop-i
invariant-loop-i l = PairsAt l.desired l.escapes l.rest l.pairs l.i

abbrev pub decreases-loop-i : goal.decreases-loop-i
decreases-loop-i l = length l.rest - l.i
