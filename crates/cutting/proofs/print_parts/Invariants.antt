use Rattle.std.proofs.Common.{ℕ, List}
use Rattle.std.specs.Io.KnownBytes.{Appends}
use Rattle.cutting.proofs.PartsLeft.{Left}
use Rattle.cutting.proofs.print_parts.Given as goal

abbrev pub invariant-loop-place : goal.invariant-loop-place
invariant-loop-place g l = (passed : List ℕ) × Appends (g.W.Write.contents l.initial.output) (g.W.Write.contents l.output) passed × Left l.script l.place-iterator passed
