use Rattle.characters.specs.Inner.RunAt.{RunAt}
use Rattle.characters.proofs.runs.run_of.Given as goal

abbrev pub invariant-loop-i : goal.invariant-loop-i
invariant-loop-i l = RunAt l.class l.bytes l.i
