use Rattle.std.proofs.Common.{rules}
use Rattle.params.proofs.SheetEntries.{check_more}
use Rattle.params.proofs.headed.Headed.bodies_fill.Goals as goal

pub loop-preserved : goal.loop-preserved
loop-preserved c = search (check_more, rules)
