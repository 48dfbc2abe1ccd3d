use Rattle.std.proofs.Common.{rules}
use Rattle.recognisers.specs.Comment.{till_line_ending}
use Rattle.recognisers.proofs.CommentLoops.{line_inside}
use Rattle.recognisers.proofs.Preceded.{cut_fits, begun_none, begun_fails, begun_then}
use Rattle.recognisers.proofs.comment.line_comment.Goals as goal

pub returns-then-not-starts_with : goal.returns-then-not-starts_with
returns-then-not-starts_with c = search (rules, begun_none till_line_ending)

pub returns-in_err-till_line_ending_known : goal.returns-in_err-till_line_ending_known
returns-in_err-till_line_ending_known c = search (rules, begun_fails till_line_ending)

pub overflow_add-result : goal.overflow_add-result
overflow_add-result c = search (rules, cut_fits till_line_ending line_inside, c.in_ok-till_line_ending_known.was)

pub returns : goal.returns
returns c = search (rules, begun_then till_line_ending)
