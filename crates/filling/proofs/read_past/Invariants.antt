use Rattle.std.proofs.Common.{◌-◌, ◌≤◌}
use Rattle.filling.specs.Input.{Skips}
use Rattle.filling.proofs.read_past.Given as goal

abbrev pub invariant-loop-left : goal.invariant-loop-left
invariant-loop-left g l = (l.left ≤ l.count) × Skips (g.R.Read.remaining l.initial.input) (g.R.Read.remaining l.input) (l.count - l.left)

abbrev pub decreases-loop-left : goal.decreases-loop-left
decreases-loop-left g l = l.left
