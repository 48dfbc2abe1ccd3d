use Rattle.std.proofs.Common.{rules}
use Rattle.std.proofs.KnownBytes.{Consumes-nil}
use Rattle.console.proofs.Reading.{Consumes-next}
use Rattle.console.proofs.read_text.Goals as goal

pub loop-done-init : goal.loop-done-init
loop-done-init g c = (search rules, Consumes-nil _)

pub loop-done-preserved : goal.loop-done-preserved
loop-done-preserved g c =
    (search rules, Consumes-next _ _ _ _ _ _ _ c.loop-done.invariant.0 c.in_ok-n.ensures.bound.0 c.loop-done.invariant.1 c.in_ok-n.ensures.bytes.0)
