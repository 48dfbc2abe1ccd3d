use Rattle.std.proofs.Common.{rules}
use Rattle.recognisers.proofs.FirstBytes.{no_placeholder}
use Rattle.recognisers.proofs.placeholders.get_placeholder_token.Goals as goal

pub returns-in_err-first : goal.returns-in_err-first
returns-in_err-first c = search (rules, no_placeholder)
