use Rattle.recognisers.proofs.EscapedQuotes.{pairs_two, pairs_here, pairs_one, pairs_none}
use Rattle.recognisers.proofs.escaped_quotes.pairs_passed.Goals as goal

pub loop-i-preserved-then-escaped_at : goal.loop-i-preserved-then-escaped_at
loop-i-preserved-then-escaped_at c = search pairs_two

pub returns-then-rest-i : goal.returns-then-rest-i
returns-then-rest-i c = search pairs_here

pub loop-i-preserved : goal.loop-i-preserved
loop-i-preserved c = search pairs_one

pub returns : goal.returns
returns c = search pairs_none
