use Prim.Native.Nat.{◌-◌}
use lib.ListN.{length}
use Rattle.characters.specs.Inner.RunAt.{RunAt}
use Rattle.characters.proofs.runs.run_from.Given as goal

abbrev pub invariant-loop-n : goal.invariant-loop-n
invariant-loop-n l = RunAt l.class l.bytes l.i

abbrev pub decreases-loop-n : goal.decreases-loop-n
decreases-loop-n l = length l.bytes - l.i
