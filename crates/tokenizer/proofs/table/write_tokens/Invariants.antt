use Rattle.tokenizer.proofs.EscapedTotals.{Tabled}
use Rattle.tokenizer.proofs.table.write_tokens.Given as goal

abbrev pub invariant-loop-token : goal.invariant-loop-token
invariant-loop-token l = Tabled l.fn.search.settings l.fn.search.text.now l.initial.table l.table l.at l.escaped l.level l.token-iterator
