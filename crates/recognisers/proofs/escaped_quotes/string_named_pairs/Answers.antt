use Rattle.recognisers.proofs.EscapedQuotes.{named_short, named_rest}
use Rattle.recognisers.proofs.escaped_quotes.string_named_pairs.Goals as goal

pub returns-then-value-eq0 : goal.returns-then-value-eq0
returns-then-value-eq0 c = search named_short

pub returns : goal.returns
returns c = search named_rest
