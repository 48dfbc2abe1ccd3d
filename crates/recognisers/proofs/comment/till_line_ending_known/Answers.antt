use Rattle.recognisers.proofs.Unclosed.{line_known}
use Rattle.recognisers.proofs.comment.till_line_ending_known.Goals as goal

pub returns-then-n-rest : goal.returns-then-n-rest
returns-then-n-rest c = search (line_known _ _ c.args.rest.truthful)
