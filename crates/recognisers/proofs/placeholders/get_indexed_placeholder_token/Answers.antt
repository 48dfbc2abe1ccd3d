use Rattle.std.proofs.Common.{rules}
use Rattle.recognisers.proofs.PlaceholderLaws.{indexed_fits, indexed_token, indexed_nothing}
use Rattle.recognisers.proofs.placeholders.get_indexed_placeholder_token.Goals as goal

pub returns-in_err-n : goal.returns-in_err-n
returns-in_err-n c = search (rules, indexed_nothing)

pub indexed_key-requires : goal.indexed_key-requires
indexed_key-requires c = search (indexed_fits, c.in_ok-n.was)

pub returns : goal.returns
returns c = search (indexed_token, c.in_ok-n.was)
