use Rattle.std.proofs.Common.{rules}
use Rattle.params.proofs.EntryLists.{left_from}
use Rattle.params.proofs.sheet.Sheet.entries_from.Goals as goal

pub returns : goal.returns
returns c = search (left_from, rules)
