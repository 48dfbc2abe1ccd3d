use Rattle.params.proofs.SheetEntries.{Checking}
use Rattle.params.proofs.headed.Headed.bodies_fill.Given as goal

abbrev pub invariant-loop : goal.invariant-loop
invariant-loop l = Checking l.self.bytes.now l.counter l.place
