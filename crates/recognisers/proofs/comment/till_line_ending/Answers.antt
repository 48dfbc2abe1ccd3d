use Rattle.std.proofs.Common.{rules}
use Rattle.recognisers.proofs.CommentLoops.{line_end, line_refused, line_taken}
use Rattle.recognisers.proofs.comment.till_line_ending.Goals as goal

pub returns-in_default : goal.returns-in_default
returns-in_default c = search (rules, line_end)

pub returns-then-is_lone : goal.returns-then-is_lone
returns-then-is_lone c = search (rules, line_refused)

pub returns : goal.returns
returns c = search (rules, line_taken)
