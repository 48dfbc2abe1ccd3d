use Rattle.recognisers.proofs.ClosingQuote.{quote_two, quote_here, quote_one, quote_none}
use Rattle.recognisers.proofs.strings.take_till_escaping.Goals as goal

pub loop-i-preserved-then-escaped_at : goal.loop-i-preserved-then-escaped_at
loop-i-preserved-then-escaped_at c = search quote_two

pub returns-then-rest-i : goal.returns-then-rest-i
returns-then-rest-i c = search quote_here

pub loop-i-preserved : goal.loop-i-preserved
loop-i-preserved c = search quote_one

pub returns : goal.returns
returns c = search quote_none
