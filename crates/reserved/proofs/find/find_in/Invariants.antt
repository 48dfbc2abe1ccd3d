use mathlib.Core.Path.{◌≡◌}
use Rattle.reserved.proofs.FirstEntry.{SearchedTo}
use Rattle.reserved.proofs.find.find_in.Given as goal

abbrev pub invariant-loop-entry : goal.invariant-loop-entry
invariant-loop-entry l = record { searched : SearchedTo l.entries l.word.rest.now l.entry-index; same_rest : l.gaps.rest.now ≡ l.word.rest.now }
