use Rattle.recognisers.proofs.PlaceholderLaws.{brace_first, brace_later}
use Rattle.recognisers.proofs.Unclosed.{brace_unclosed}
use Rattle.recognisers.proofs.placeholders.braced_text.Goals as goal

pub returns-then-stands_at : goal.returns-then-stands_at
returns-then-stands_at c = search brace_first

pub returns-then-rest : goal.returns-then-rest
returns-then-rest c = search (brace_unclosed _ _ c.args.rest.truthful)

pub returns : goal.returns
returns c = search brace_later
