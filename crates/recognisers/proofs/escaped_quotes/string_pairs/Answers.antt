use Rattle.recognisers.specs.Strings.{string_pairs}
use Rattle.recognisers.proofs.escaped_quotes.string_pairs.Goals as goal

pub returns : goal.returns
unfolding string_pairs
returns c = c.pairs_in.ensures
