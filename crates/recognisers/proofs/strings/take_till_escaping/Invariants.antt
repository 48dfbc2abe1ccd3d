use Prim.Native.Nat.{◌-◌}
use mathlib.Core.Bool.{false}
use lib.ListN.{length}
use Rattle.recognisers.specs.Strings.{take_till_escaping}
use Rattle.recognisers.proofs.CommentLoops.{PassedAt}
use Rattle.recognisers.proofs.strings.take_till_escaping.Given as goal

abbrev pub invariant-loop-i : goal.invariant-loop-i
invariant-loop-i l = PassedAt (take_till_escaping l.desired l.escapes false) l.rest l.i

abbrev pub decreases-loop-i : goal.decreases-loop-i
decreases-loop-i l = length l.rest - l.i
