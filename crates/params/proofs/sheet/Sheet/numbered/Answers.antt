use Rattle.std.proofs.Common.{rules}
use Rattle.params.proofs.EntryLists.{number_here}
use Rattle.params.proofs.sheet.Sheet.numbered.Goals as goal

pub returns : goal.returns
returns c = search (number_here, rules)
