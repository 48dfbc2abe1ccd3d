use Rattle.std.proofs.Common.{◌≡◌}
use Rattle.params.specs.Sheet.{place_of}
use Rattle.params.proofs.sheet.Sheet.place_of.Given as goal

abbrev pub invariant-loop : goal.invariant-loop
invariant-loop l = l.place ≡ place_of l.self.headed.bytes.now l.counter
