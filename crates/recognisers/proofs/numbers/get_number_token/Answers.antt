use Rattle.std.proofs.Common.{rules}
use Rattle.recognisers.specs.Number.{get_number_token}
use Rattle.recognisers.proofs.FirstBytes.{no_number}
use Rattle.recognisers.proofs.numbers.get_number_token.Goals as goal

pub returns-then-starts_among : goal.returns-then-starts_among
unfolding get_number_token
returns-then-starts_among c = search rules

pub returns : goal.returns
returns c = search (rules, no_number)
