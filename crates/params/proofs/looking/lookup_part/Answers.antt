use Rattle.std.proofs.Common.{rules}
use Rattle.params.proofs.Lookups.{number_told}
use Rattle.params.proofs.looking.lookup_part.Goals as goal

pub returns-clause-number_after : goal.returns-clause-number_after
returns-clause-number_after c = search (rules, number_told)
