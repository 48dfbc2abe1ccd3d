use Rattle.recognisers.proofs.EscapedQuotes.{behind_short}
use Rattle.recognisers.proofs.escaped_quotes.pairs_behind.Goals as goal

pub returns-then-value-n : goal.returns-then-value-n
returns-then-value-n c = search behind_short
