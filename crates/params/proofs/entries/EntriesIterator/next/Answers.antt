use Rattle.std.proofs.Common.{rules}
use Rattle.params.proofs.EntriesInside.{past_stands, past_within}
use Rattle.params.proofs.entries.EntriesIterator.next.Goals as goal

pub invariant_of-self-clause-standing : goal.invariant_of-self-clause-standing
invariant_of-self-clause-standing c = search past_stands

pub invariant_of-self-clause-within : goal.invariant_of-self-clause-within
invariant_of-self-clause-within c = search (past_within, rules)
