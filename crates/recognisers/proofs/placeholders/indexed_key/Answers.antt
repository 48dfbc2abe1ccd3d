use Rattle.std.proofs.Common.{rules}
use Rattle.recognisers.proofs.PlaceholderLaws.{no_index, index_none, from_one, from_zero}
use Rattle.recognisers.proofs.placeholders.indexed_key.Goals as goal

pub returns-then-n-le1 : goal.returns-then-n-le1
returns-then-n-le1 c = search no_index

pub returns-in_err-number : goal.returns-in_err-number
returns-in_err-number c = search (rules, index_none)

pub returns-then-stands_at : goal.returns-then-stands_at
returns-then-stands_at c = search (from_one, c.in_ok-number.was)

pub returns : goal.returns
returns c = search (from_zero, c.in_ok-number.was)
