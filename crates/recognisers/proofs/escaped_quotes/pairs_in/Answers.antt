use Rattle.recognisers.proofs.EscapedQuotes.{in_ticks, in_brackets, in_double, in_single, in_letter, in_none}
use Rattle.recognisers.proofs.escaped_quotes.pairs_in.Goals as goal

pub returns-then-stands_at : goal.returns-then-stands_at
returns-then-stands_at c = search in_ticks

pub returns-then-stands_at-2 : goal.returns-then-stands_at-2
returns-then-stands_at-2 c = search in_brackets

pub returns-then-stands_at-3 : goal.returns-then-stands_at-3
returns-then-stands_at-3 c = search in_double

pub returns-then-stands_at-4 : goal.returns-then-stands_at-4
returns-then-stands_at-4 c = search in_single

pub returns-then-starts_among : goal.returns-then-starts_among
returns-then-starts_among c = search in_letter

pub returns : goal.returns
returns c = search in_none
